-- Low words are enough where every equity is within 2 ^ 55 of 0: no sum leaves i64, and so its upper word is known.
use Rattle.std.proofs.Common.{◌≡◌, ℕ, zero, suc, ◌+◌, ◌-◌, ◌*◌, ◌%◌, ◌^◌, ◌<◌, ◌≤◌, true, ◌⊎◌, List, ℤ, pos, negsuc, ◌+ℤ◌, ◌-ℤ◌, sym, refl, ap, ◌∙◌, inl, inr, ⊎_elim, arith, w64, SFits, of_z}
use Rattle.sums.proofs.Ints.{P, N, P-add, P-sub, one_sided, fits_of}
use Rattle.house.specs.Group.{Equity, given, absent, Ends, Group, of_both, first_of, change_of, every, in_i64, sum_to, first_sum, summed_change, account_change, part_in_i64}
use Rattle.house.specs.Inner.Raised.{half, raised, lowered, sum_n, summed}
use Rattle.house.specs.Inner.Parts.{Summed}
use Rattle.house.specs.Inner.Low.{away, step, first_word, step_word, low_sum, last_of, Known, LowSummed}
use Rattle.house.proofs.Raised.{word_raised, raised_parts, raised_lt, in_is, in_yes, ended-value}
use Rattle.house.proofs.Columns.{every_of, column_cong}

-- ---- words and raised numbers
-- a word and the raised number, from 0 on and below it
abbrev Beside : ℕ → ℕ → Type 0
Beside w x = ((w < half) × (x ≡ w + half)) ⊎ ((half ≤ w) × (x + half ≡ w) × (w < 2 ^ 64))

beside : (z : ℤ) → SFits w64 z → Beside (of_z w64 z) (raised z)
unfolding raised
beside (pos n) f = inl (omega (arith, f.sfits), omega arith)
beside (negsuc n) f = inr (omega (arith, f.sfits), omega (arith, f.sfits), omega arith)

wraps : (a : ℕ) → (a % 2 ^ 64 + half) % 2 ^ 64 ≡ (a + half) % 2 ^ 64
wraps a = omega arith

once_more : (a b : ℕ) → a ≡ b + 2 ^ 64 → a % 2 ^ 64 ≡ b % 2 ^ 64
once_more a b e = omega arith

abbrev between : ℕ → ℕ → ℕ
between from to = (to + (3 * half - from)) % 2 ^ 64

step_by : (f l x y : ℕ) → Beside f x → Beside l y → (step f l + half) % 2 ^ 64 ≡ between x y
unfolding step
step_by f l x y a b =
    wraps (l + (2 ^ 64 - f))
    ∙ ⊎_elim
    (λ p.
    ⊎_elim
    (λ q. let e : l + (2 ^ 64 - f) + half ≡ y + (3 * half - x) = omega arith in ap (λ n. n % 2 ^ 64) e)
    (λ q. let e : l + (2 ^ 64 - f) + half ≡ y + (3 * half - x) + 2 ^ 64 = omega arith in once_more _ _ e)
    b)
    (λ p.
    ⊎_elim
    (λ q. let e : y + (3 * half - x) ≡ l + (2 ^ 64 - f) + half + 2 ^ 64 = omega arith in sym (once_more _ _ e))
    (λ q. let e : l + (2 ^ 64 - f) + half ≡ y + (3 * half - x) = omega arith in ap (λ n. n % 2 ^ 64) e)
    b)
    a

change_by : (f l : Equity) → of_both (λ a b. b -ℤ a) f l ≡ of_both (λ a b. b) f l -ℤ of_both (λ a b. a) f l
change_by (given a) (given b) = refl
change_by (given a) absent = refl
change_by absent l = refl

step-raised : (e : Ends) → Known e → in_i64 (change_of e) ≡ true → (step_word e + half) % 2 ^ 64 ≡ raised (change_of e)
step-raised e k h =
    let f = first_of e in
    let l = last_of e in
    let d : change_of e ≡ l -ℤ f = change_by e.first e.last in
    let g : SFits w64 (l -ℤ f) = rw d at (in_yes (change_of e) h) in
    step_by _ _ _ _ (beside f k.first) (beside l k.last)
    ∙ omega (arith, raised_parts f k.first, raised_parts l k.last, raised_parts (l -ℤ f) g, P-sub l f, raised_lt f k.first, raised_lt l k.last, raised_lt (l -ℤ f) g)
    ∙ ap raised (sym d)

sums_agree : (n : ℕ) (f g : ℕ → ℕ) → ((i : ℕ) → i < n → (f i + half) % 2 ^ 64 ≡ g i) → (sum_n n f + n * half) % 2 ^ 64 ≡ sum_n n g % 2 ^ 64
unfolding sum_n
sums_agree zero f g e = refl
sums_agree (suc n) f g e = omega (arith, sums_agree n f g (λ i h. e i (omega arith)), e n (omega arith))

-- the low word of a sum of words is that of the sum of raised numbers
low_is : (n : ℕ) (f g : ℕ → ℕ) → ((i : ℕ) → i < n → (f i + half) % 2 ^ 64 ≡ g i) → low_sum n f ≡ summed n g % 2 ^ 64
low_is n f g e = omega (arith, sums_agree n f g e)

-- ---- how far sums are from 0
pub record Small (bound : ℕ) (z : ℤ) : Type 0 where
  pub above : P z ≤ bound
  pub below : N z ≤ bound

small_word : (z : ℤ) → SFits w64 z → away (of_z w64 z) < 2 ^ 56 → Small (2 ^ 55) z
unfolding away P N
small_word (pos n) f h = record { above = omega (arith, f.sfits); below = omega arith }
small_word (negsuc n) f h = record { above = omega arith; below = omega (arith, f.sfits) }

small-change : (e : Ends) → Small (2 ^ 55) (first_of e) → Small (2 ^ 55) (last_of e) → Small (2 ^ 56) (change_of e)
small-change e f l =
    let d : change_of e ≡ last_of e -ℤ first_of e = change_by e.first e.last in
    let p = P-sub (last_of e) (first_of e) in
    rw d
    (⊎_elim
    (λ z. record { above = omega arith; below = omega arith })
    (λ z. record { above = omega arith; below = omega arith })
    (one_sided (last_of e -ℤ first_of e)))

small-sum : (n bound : ℕ) (f : ℕ → ℤ) → bound ≤ 2 ^ 56 → ((i : ℕ) → i < n → Small bound (f i)) → Small (n * 2 ^ 56) (sum_to n f)
unfolding sum_to P N
small-sum zero bound f b h = record { above = omega arith; below = omega arith }
small-sum (suc n) bound f b h =
    let s = small-sum n bound f b (λ i g. h i (omega arith)) in
    let t = h n (omega arith) in
    let p = P-add (sum_to n f) (f n) in
    ⊎_elim
    (λ z. record { above = omega arith; below = omega arith })
    (λ z. record { above = omega arith; below = omega arith })
    (one_sided (sum_to n f +ℤ f n))

small_in : (n : ℕ) (z : ℤ) → n ≤ 64 → Small (n * 2 ^ 56) z → in_i64 z ≡ true
small_in n z h s = in_is z (fits_of z (omega (arith, s.above)) (omega (arith, s.below)))

-- ---- the whole
module _ (n m : ℕ) (g : Group) (hn : n ≤ 32) (hm : m ≤ 64) (spread : ℕ) (fs gs cs : List ℤ) (s : LowSummed n m g spread fs gs cs) (close : spread < 2 ^ 56) where
  module _ (p a : ℕ) (hp : p < m) (ha : a < n) where
    first_small : Small (2 ^ 55) (first_of (g p a))
    first_small = small_word (first_of (g p a)) (s.known p a hp ha).first (s.near (2 ^ 56) p a close hp ha).0

    change-small : Small (2 ^ 56) (change_of (g p a))
    change-small = small-change (g p a) first_small (small_word (last_of (g p a)) (s.known p a hp ha).last (s.near (2 ^ 56) p a close hp ha).1)

    change-in : in_i64 (change_of (g p a)) ≡ true
    change-in = small_in 1 (change_of (g p a)) (omega arith) (record { above = omega (arith, change-small.above); below = omega (arith, change-small.below) })

  module _ (p : ℕ) (hp : p < m) where
    first-in : in_i64 (first_sum n g p) ≡ true
    first-in = small_in n _ (omega arith) (small-sum n (2 ^ 55) _ (omega arith) (λ a ha. first_small p a hp ha))

    gain-in : in_i64 (summed_change n g p) ≡ true
    gain-in = small_in n _ (omega arith) (small-sum n (2 ^ 56) _ (omega arith) (λ a ha. change-small p a hp ha))

    part_in : part_in_i64 n g p ≡ true
    part_in =
        let c : every n (λ a. in_i64 (change_of (g p a))) ≡ true = every_of n _ (λ a ha. change-in p a hp ha) in
        rw (c, first-in, gain-in)

    first_is : lowered (low_sum n (λ a. first_word (g p a))) ≡ first_sum n g p
    first_is =
        ap lowered (low_is n _ (λ a. raised (first_of (g p a))) (λ a ha. word_raised (first_of (g p a)) (s.known p a hp ha).first))
        ∙ ended-value n (λ a. first_of (g p a)) (λ a ha. (s.known p a hp ha).first) first-in

    gain_is : lowered (low_sum n (λ a. step_word (g p a))) ≡ summed_change n g p
    gain_is =
        ap lowered (low_is n _ (λ a. raised (change_of (g p a))) (λ a ha. step-raised (g p a) (s.known p a hp ha) (change-in p a hp ha)))
        ∙ ended-value n (λ a. change_of (g p a)) (λ a ha. in_yes _ (change-in p a hp ha)) gain-in

  module _ (a : ℕ) (ha : a < n) where
    account-in : in_i64 (account_change m g a) ≡ true
    account-in = small_in m _ hm (small-sum m (2 ^ 56) _ (omega arith) (λ p hp. change-small p a hp ha))

    account_is : lowered (low_sum m (λ p. step_word (g p a))) ≡ account_change m g a
    account_is =
        ap lowered (low_is m _ (λ p. raised (change_of (g p a))) (λ p hp. step-raised (g p a) (s.known p a hp ha) (change-in p a hp ha)))
        ∙ ended-value m (λ p. change_of (g p a)) (λ p hp. in_yes _ (change-in p a hp ha)) account-in

  pub low-enough : Summed n m g fs gs cs
  low-enough =
      record {
        fits = rw (every_of m (part_in_i64 n g) part_in, every_of n (λ a. in_i64 (account_change m g a)) account-in);
        firsts = s.firsts ∙ column_cong 64 (pos 0) m _ (first_sum n g) first_is;
        gains = s.gains ∙ column_cong 64 (pos 0) m _ (summed_change n g) gain_is;
        changes = s.changes ∙ column_cong 32 (pos 0) n _ (account_change m g) account_is;
      }
