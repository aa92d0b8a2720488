-- The loops on low words: what they have come to after some accounts or parts, and one more.
use Rattle.std.proofs.Common.{◌≡◌, ℕ, ◌+◌, ◌%◌, ◌^◌, ◌<◌, ◌≤◌, Bool, true, false, cond, eqb, ltb, List, length, get_or, set, replicate, ℤ, pos, refl, ap, ◌∙◌, add-one, arith, length-set, get_or-set_other, get_or-set_same, ltb-false, ltb-true, le-ltb, lt-ltb, eqb-true}
use lib.Bits.{bit_or, or_add_and, and_le_l, and_le_r}
use lib.ListN.{length-replicate, get_or-replicate}
use borrow.Author.Tests.{eqb-false}
use Rattle.house.specs.Group.{Ends, Group}
use Rattle.house.specs.Places.{column}
use Rattle.house.specs.Inner.Raised.{half, lowered, sum_n}
use Rattle.house.specs.Inner.Low.{away, first_word, last_word, step_word, low_sum, Known, BothWithin, LowAdded, LowSummed}
use Rattle.house.specs.declared.low.LowPart.{LowPart}
use Rattle.house.proofs.Columns.{below_or_at, column-first, filled_on}

-- ---- bits
pub or_left : (a b bound : ℕ) → bit_or a b < bound → a < bound
or_left a b bound h = omega (arith, or_add_and a b, and_le_r a b)

pub or_right : (a b bound : ℕ) → bit_or a b < bound → b < bound
or_right a b bound h = omega (arith, or_add_and a b, and_le_l a b)

-- ---- one word more in a low sum
pub low_on : (f : ℕ → ℕ) (i s x r : ℕ) → s ≡ low_sum i f → x ≡ f i → r ≡ (s + x) % 2 ^ 64 → r ≡ low_sum (i + 1) f
unfolding sum_n
low_on f i s x r e g q = rw (add-one i) (omega arith)

-- ---- a part
-- each account's word, with what it has of this part
abbrev pub Words : (ℕ → ℕ) → List ℕ → List ℕ → ℕ → Type 0
Words steps lo₀ lo a = (i : ℕ) → i < 32 → get_or lo i 0 ≡ (get_or lo₀ i 0 + cond (ltb i a) (steps i) 0) % 2 ^ 64

module _ (steps : ℕ → ℕ) (lo₀ lo : List ℕ) (a : ℕ) (t : Words steps lo₀ lo a) (ha : a < 32) (w x : ℕ) (ll : length lo ≡ 32) (e : w ≡ (get_or lo a 0 + x) % 2 ^ 64) (g : x ≡ steps a) where
  words_on : Words steps lo₀ (set lo a w) (a + 1)
  words_on i h = go (eqb i a) refl
    where
      here : get_or (set lo a w) a 0 ≡ (get_or lo₀ a 0 + cond (ltb a (a + 1)) (steps a) 0) % 2 ^ 64
      here =
          let was : get_or lo a 0 ≡ (get_or lo₀ a 0 + 0) % 2 ^ 64 = t a ha ∙ rw (le-ltb a a (omega arith)) in
          rw (get_or-set_same lo a w 0 (omega arith), lt-ltb a (a + 1) (omega arith)) (omega arith)

      same : (i ≡ a → ⊥) → (q : Bool) → ltb i a ≡ q → cond q (steps i) 0 ≡ cond (ltb i (a + 1)) (steps i) 0
      same d true p = let l = ltb-true i a p in rw (lt-ltb i (a + 1) (omega arith))
      same d false p = let l = ltb-false i a p in rw (le-ltb i (a + 1) (omega arith))

      go : (q : Bool) → eqb i a ≡ q → get_or (set lo a w) i 0 ≡ (get_or lo₀ i 0 + cond (ltb i (a + 1)) (steps i) 0) % 2 ^ 64
      go true p = rw (eqb-true i a p) here
      go false p =
          let d : (i ≡ a → ⊥) = eqb-false i a p in
          rw (get_or-set_other lo a i w 0 d) (t i h ∙ ap (λ y. (get_or lo₀ i 0 + y) % 2 ^ 64) (same d (ltb i a) refl))

pub record LowAdding (ends : ℕ → Ends) (lo₀ lo : List ℕ) (f g s a : ℕ) : Type 0 where
  pub long : length lo ≡ 32
  pub first : f ≡ low_sum a (λ i. first_word (ends i))
  pub gain : g ≡ low_sum a (λ i. step_word (ends i))
  pub near : (bound i : ℕ) → s < bound → i < a → BothWithin bound (ends i)
  pub known : (i : ℕ) → i < a → Known (ends i)
  pub totals : Words (λ i. step_word (ends i)) lo₀ lo a

module _ (ends : ℕ → Ends) (lo₀ : List ℕ) where
  pub low_adding_first : length lo₀ ≡ 32 → ((i : ℕ) → i < 32 → get_or lo₀ i 0 < 2 ^ 64) → LowAdding ends lo₀ lo₀ half half 0 0
  unfolding sum_n
  low_adding_first l w =
      record {
        long = l;
        first = refl;
        gain = refl;
        near = λ bound i h q. absurd (omega arith);
        known = λ i h. absurd (omega arith);
        totals = λ i h. rw (le-ltb i 0 (omega arith)) (omega (arith, w i h));
      }

  pub low_adding_on : (lo : List ℕ) (f g s a : ℕ) (f' g' s' t x y : ℕ)
      → a < 32 → LowAdding ends lo₀ lo f g s a → Known (ends a)
      → x ≡ first_word (ends a) → y ≡ step_word (ends a) → s' ≡ bit_or s (bit_or (away (first_word (ends a))) (away (last_word (ends a))))
      → f' ≡ (f + x) % 2 ^ 64 → g' ≡ (g + y) % 2 ^ 64 → t ≡ (get_or lo a 0 + y) % 2 ^ 64
      → LowAdding ends lo₀ (set lo a t) f' g' s' (a + 1)
  low_adding_on lo f g s a f' g' s' t x y m h k ex ey es ef eg et =
      record {
        long = length-set lo a t ∙ h.long;
        first = low_on _ a f x f' h.first ex ef;
        gain = low_on _ a g y g' h.gain ey eg;
        near = λ bound i q z.
            let o : bit_or s (bit_or (away (first_word (ends a))) (away (last_word (ends a)))) < bound = rw es at q in
            let one = away (first_word (ends a)) in
            let other = away (last_word (ends a)) in
            let r = or_right s (bit_or one other) bound o in
            below_or_at (λ j. BothWithin bound (ends j)) a i (rw (add-one a) at z) (h.near bound i (or_left s (bit_or one other) bound o)) (or_left one other bound r, or_right one other bound r);
        known = λ i z. below_or_at (λ j. Known (ends j)) a i (rw (add-one a) at z) (h.known i) k;
        totals = words_on _ lo₀ lo a h.totals m t y h.long et ey;
      }

pub low_adding_last : (n p : ℕ) (group : Group) (lo₀ lo : List ℕ) (f g s a : ℕ) → a ≡ n → LowAdding (group p) lo₀ lo f g s a → LowAdded n p group (record { first = f; gain = g; spread = s }) lo₀ lo
low_adding_last n p group lo₀ lo f g s a e h =
    record {
      first = h.first ∙ rw e;
      gain = h.gain ∙ rw e;
      near = λ bound i q z. h.near bound i q (omega arith);
      known = λ i z. h.known i (omega arith);
      long = h.long;
      totals = λ i z. h.totals i z ∙ rw e;
    }

-- ---- all parts
-- the word of account i after p parts
abbrev pub word_after : ℕ → Group → ℕ → ℕ → ℕ
word_after n g p i = (half + cond (ltb i n) (sum_n p (λ q. step_word (g q i))) 0) % 2 ^ 64

word_on : (n : ℕ) (g : Group) (p i w : ℕ) → w ≡ (word_after n g p i + cond (ltb i n) (step_word (g p i)) 0) % 2 ^ 64 → w ≡ word_after n g (p + 1) i
unfolding sum_n
word_on n g p i w e = rw (add-one p) (go (ltb i n) e)
  where
    go : (t : Bool) → w ≡ ((half + cond t (sum_n p (λ q. step_word (g q i))) 0) % 2 ^ 64 + cond t (step_word (g p i)) 0) % 2 ^ 64
        → w ≡ (half + cond t (sum_n p (λ q. step_word (g q i)) + step_word (g p i)) 0) % 2 ^ 64
    go true q = omega arith
    go false q = omega arith

module _ (n m : ℕ) (g : Group) where
  pub record LowSumming (lo : List ℕ) (fs gs : List ℤ) (s p : ℕ) : Type 0 where
    pub long : length lo ≡ 32
    pub near : (bound q a : ℕ) → s < bound → q < p → a < n → BothWithin bound (g q a)
    pub known : (q a : ℕ) → q < p → a < n → Known (g q a)
    pub firsts : fs ≡ column 64 (pos 0) p (λ q. lowered (low_sum n (λ a. first_word (g q a))))
    pub gains : gs ≡ column 64 (pos 0) p (λ q. lowered (low_sum n (λ a. step_word (g q a))))
    pub totals : (i : ℕ) → i < 32 → get_or lo i 0 ≡ word_after n g p i

  pub low_summing_first : (fs gs : List ℤ) → fs ≡ replicate 64 (pos 0) → gs ≡ replicate 64 (pos 0) → LowSumming (replicate 32 half) fs gs 0 0
  unfolding sum_n
  low_summing_first fs gs ef eg =
      record {
        long = length-replicate 32 half;
        near = λ bound q a h z. absurd (omega arith);
        known = λ q a z. absurd (omega arith);
        firsts = ef ∙ column-first 64 (pos 0) _;
        gains = eg ∙ column-first 64 (pos 0) _;
        totals = λ i h. get_or-replicate 32 i half 0 h ∙ none (ltb i n);
      }
    where
      none : (t : Bool) → half ≡ (half + cond t 0 0) % 2 ^ 64
      none true = omega arith
      none false = omega arith

  module _ (lo : List ℕ) (fs gs : List ℤ) (s p : ℕ) (h : LowSumming lo fs gs s p) where
    pub low-words : (i : ℕ) → i < 32 → get_or lo i 0 < 2 ^ 64
    low-words i l = rw (h.totals i l) (omega arith)

    pub low_summing_on : (r : LowPart) (lo' : List ℕ) (x y : ℤ) → m ≤ 64 → p < m
        → LowAdded n p g r lo lo' → x ≡ lowered r.first → y ≡ lowered r.gain
        → LowSumming lo' (set fs p x) (set gs p y) (bit_or s r.spread) (p + 1)
    low_summing_on r lo' x y b l d ex ey =
        record {
          long = d.long;
          near = λ bound q i o z w.
              below_or_at (λ j. BothWithin bound (g j i)) p q (rw (add-one p) at z) (λ u. h.near bound q i (or_left s r.spread bound o) u w) (d.near bound i (or_right s r.spread bound o) w);
          known = λ q i z w. below_or_at (λ j. Known (g j i)) p q (rw (add-one p) at z) (λ u. h.known q i u w) (d.known i w);
          firsts = filled_on 64 (pos 0) _ p fs x (omega arith) h.firsts (ex ∙ ap lowered d.first);
          gains = filled_on 64 (pos 0) _ p gs y (omega arith) h.gains (ey ∙ ap lowered d.gain);
          totals = λ i z. word_on n g p i (get_or lo' i 0) (d.totals i z ∙ ap (λ w. (w + cond (ltb i n) (step_word (g p i)) 0) % 2 ^ 64) (h.totals i z));
        }

    module _ (e : p ≡ m) where
      -- an account's total
      pub low-total : (a : ℕ) → a < 32 → a < n → get_or lo a 0 ≡ low_sum m (λ q. step_word (g q a))
      low-total a b z = h.totals a b ∙ rw (lt-ltb a n z, e)

      pub low_summing_last : (cs : List ℤ) → cs ≡ column 32 (pos 0) n (λ a. lowered (low_sum m (λ q. step_word (g q a))))
          → LowSummed n m g s fs gs cs
      low_summing_last cs ec =
          record {
            near = λ bound q a o z. h.near bound q a o (omega arith);
            known = λ q a z. h.known q a (omega arith);
            firsts = h.firsts ∙ rw e;
            gains = h.gains ∙ rw e;
            changes = ec;
          }
