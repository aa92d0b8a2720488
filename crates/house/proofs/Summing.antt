-- The loop over the parts: what it has come to after some of them, one part more, and the accounts' changes.
use Rattle.std.proofs.Common.{◌≡◌, ℕ, ◌+◌, ◌/◌, ◌%◌, ◌^◌, ◌<◌, ◌≤◌, Bool, true, false, cond, eqb, ltb, List, length, set, replicate, ℤ, pos, sym, refl, ap, ◌∙◌, add-one, arith, ltb-true, lt-ltb, w64, SFits}
use Rattle.std.specs.Prelude.{Option, Some, None, MatchOption}
use lib.ListN.{length-replicate, get_or-replicate}
use Rattle.sums.specs.declared.Wide.{Wide}
use Rattle.sums.specs.Wide.{value_of, wide}
use Rattle.sums.proofs.TwoWords.{value_of-wide}
use Rattle.answer.proofs.Choice.{both_true}
use Rattle.house.specs.Group.{Group, every, change_of, in_i64, first_sum, summed_change, account_change, part_in_i64}
use Rattle.house.specs.Places.{column}
use Rattle.house.specs.Inner.Raised.{raised, lowered, sum_n, begun, summed}
use Rattle.house.specs.Inner.Parts.{total_at, SumsWithRoom, Added, in_range, total_fits, Totalled, Summed}
use Rattle.house.specs.declared.part.Part.{Part}
use Rattle.house.proofs.Raised.{raised_lt, sum_n-most, in_yes, ended-fits, ended-value}
use Rattle.house.proofs.Columns.{every_on, every_at, every_no, every_cong, column-first, column_cong, filled_on}

-- the total of account i after p of m parts
abbrev pub total_after : ℕ → ℕ → Group → ℕ → ℕ → ℕ
total_after n m g p i = begun m + cond (ltb i n) (sum_n p (λ q. raised (change_of (g q i)))) 0

total_on : (n m : ℕ) (g : Group) (p i : ℕ) → total_after n m g p i + cond (ltb i n) (raised (change_of (g p i))) 0 ≡ total_after n m g (p + 1) i
unfolding sum_n
total_on n m g p i = rw (add-one p) (go (ltb i n))
  where
    go : (t : Bool) → begun m + cond t (sum_n p (λ q. raised (change_of (g q i)))) 0 + cond t (raised (change_of (g p i))) 0
        ≡ begun m + cond t (sum_n p (λ q. raised (change_of (g q i))) + raised (change_of (g p i))) 0
    go true = omega arith
    go false = omega arith

-- a change that was asked of is a number of an i64
own-fits : (n : ℕ) (g : Group) (p i : ℕ) → part_in_i64 n g p ≡ true → i < n → SFits w64 (change_of (g p i))
own-fits n g p i e h =
    in_yes _ (every_at n (λ a. in_i64 (change_of (g p a))) (both_true _ _ e).0 i h)

module _ (n m : ℕ) (g : Group) where
  pub record Summing (totals : List Wide) (fs gs : List ℤ) (p : ℕ) : Type 0 where
    pub long : length totals ≡ 32
    pub fits : every p (part_in_i64 n g) ≡ true
    pub firsts : fs ≡ column 64 (pos 0) p (first_sum n g)
    pub gains : gs ≡ column 64 (pos 0) p (summed_change n g)
    pub have : (i : ℕ) → i < 32 → total_at totals i ≡ total_after n m g p i

  pub summing_first : (w : Wide) → w ≡ wide (begun m) → Summing (replicate 32 w) (replicate 64 (pos 0)) (replicate 64 (pos 0)) 0
  unfolding every sum_n
  summing_first w e =
      record {
        long = length-replicate 32 w;
        fits = refl;
        firsts = column-first 64 (pos 0) _;
        gains = column-first 64 (pos 0) _;
        have = λ i h. ap value_of (get_or-replicate 32 i w (record { hi = 0; lo = 0 }) h ∙ e) ∙ value_of-wide _ ∙ none (ltb i n);
      }
    where
      none : (t : Bool) → begun m ≡ begun m + cond t 0 0
      none true = omega arith
      none false = omega arith

  pub part_out : (p : ℕ) → p < m → part_in_i64 n g p ≡ false → in_range n m g ≡ false
  part_out p h e = rw (every_no m (part_in_i64 n g) p h e)

  module _ (totals : List Wide) (fs gs : List ℤ) (p : ℕ) (s : Summing totals fs gs p) where
    pub summing_room : m ≤ 64 → p ≤ m → SumsWithRoom totals
    summing_room h l = record { long = s.long; low = λ i q. rw (s.have i q) (go i (ltb i n) refl) }
      where
        go : (i : ℕ) (t : Bool) → ltb i n ≡ t → begun m + cond t (sum_n p (λ q. raised (change_of (g q i)))) 0 < 2 ^ 96
        go i true e =
            let z : i < n = ltb-true i n e in
            omega (arith, sum_n-most p (λ q. raised (change_of (g q i))) (λ q x. raised_lt _ (own-fits n g q i (every_at p (part_in_i64 n g) s.fits q x) z)))
        go i false e = omega arith

    pub summing_on : (r : Part) (after : List Wide) (x y : ℤ) → m ≤ 64 → p < m → Added n p g r totals after → x ≡ r.first → y ≡ r.gain → Summing after (set fs p x) (set gs p y) (p + 1)
    summing_on r after x y h l d ex ey =
        record {
          long = d.long;
          fits = sym (every_on (part_in_i64 n g) p true true (sym s.fits) (sym d.fits));
          firsts = filled_on 64 (pos 0) (first_sum n g) p fs _ (omega arith) s.firsts (ex ∙ d.first);
          gains = filled_on 64 (pos 0) (summed_change n g) p gs _ (omega arith) s.gains (ey ∙ d.gain);
          have = λ i q. d.totals i q ∙ rw (s.have i q) (total_on n m g p i);
        }

    -- all parts
    module _ (e : p ≡ m) (b : n ≤ 32) where
      parts_in : every m (part_in_i64 n g) ≡ true
      parts_in = rw (← e) s.fits

      own : (a : ℕ) → a < n → (q : ℕ) → q < m → SFits w64 (change_of (g q a))
      own a h q x = own-fits n g q a (every_at m (part_in_i64 n g) parts_in q x) h

      total_is : (a : ℕ) → a < n → total_at totals a ≡ summed m (λ q. raised (change_of (g q a)))
      total_is a h = s.have a (omega arith) ∙ rw (lt-ltb a n h, e)

      total-fits : (a : ℕ) → a < n → total_fits m totals a ≡ in_i64 (account_change m g a)
      total-fits a h = ap (λ x. eqb (x / 2 ^ 64) m) (total_is a h) ∙ ended-fits m (λ q. change_of (g q a)) (own a h)

      accounts_in : every n (total_fits m totals) ≡ every n (λ a. in_i64 (account_change m g a))
      accounts_in = every_cong n (total_fits m totals) (λ a. in_i64 (account_change m g a)) total-fits

      account_out : every n (total_fits m totals) ≡ false → in_range n m g ≡ false
      account_out q = rw (parts_in, sym accounts_in ∙ q)

      summing_last : (cs : List ℤ) → Totalled n m totals cs → Summed n m g fs gs cs
      summing_last cs t =
          let all : every n (λ a. in_i64 (account_change m g a)) ≡ true = sym accounts_in ∙ t.fits in
          record {
            fits = rw (parts_in, all);
            firsts = s.firsts ∙ rw e;
            gains = s.gains ∙ rw e;
            changes = t.changes
                ∙ column_cong 32 (pos 0) n (λ a. lowered (total_at totals a % 2 ^ 64)) (account_change m g)
                (λ a h. ap (λ x. lowered (x % 2 ^ 64)) (total_is a h) ∙ ended-value m (λ q. change_of (g q a)) (own a h) (every_at n (λ i. in_i64 (account_change m g i)) all a h));
          }

      pub summed_by : (r : Option Unit) (cs : List ℤ) → MatchOption r (every n (total_fits m totals) ≡ false) (λ done. Totalled n m totals cs)
          → MatchOption r (in_range n m g ≡ false) (λ done. Summed n m g fs gs cs)
      summed_by None cs t = account_out t
      summed_by (Some done) cs t = summing_last cs t
