-- Numbers raised by 2 ^ 63, their sums, and what a finished sum tells.
use Rattle.std.proofs.Common.{◌≡◌, ℕ, zero, suc, ◌+◌, ◌-◌, ◌*◌, ◌/◌, ◌%◌, ◌^◌, ◌<◌, ◌≤◌, Bool, true, false, cond, eqb, ltb, Some, None, ℤ, pos, negsuc, sym, refl, ap, ◌∙◌, add-one, arith, w64, SFits, to_z, of_z, ltb-false, ltb-true, eq-eqb, eqb-true}
use lib.Signed.{le_z}
use mir.ValLaws.{to_z-of_z, to_z_pos}
use Rattle.sums.proofs.Ints.{P, N, P-add, P-fits, N-fits, le_yes, le_is, fits_of, eq_of}
use Rattle.sums.specs.declared.Wide.{Wide}
use Rattle.sums.specs.Wide.{value_of, wide}
use Rattle.sums.proofs.TwoWords.{value_of-wide, value_of-words}
use Rattle.answer.proofs.Choice.{both_true}
use Rattle.house.specs.Group.{in_i64, sum_to}
use Rattle.house.specs.Inner.Raised.{half, raised, lowered, sum_n, begun, summed, ended, fitting}

-- two tests that pass together
pub together : (a b : Bool) → (a ≡ true → b ≡ true) → (b ≡ true → a ≡ true) → a ≡ b
together true b f g = sym (f refl)
together false true f g = g refl
together false false f g = refl

-- ---- one number
pub raised_parts : (z : ℤ) → SFits w64 z → P z + half ≡ raised z + N z
unfolding raised P N
raised_parts (pos n) f = omega arith
raised_parts (negsuc n) f = omega (arith, f.sfits)

pub raised_lt : (z : ℤ) → SFits w64 z → raised z < 2 ^ 64
raised_lt z f = omega (arith, raised_parts z f, P-fits z f)

pub raised-zero : raised (pos 0) ≡ half
unfolding raised
raised-zero = refl

pub lowered_parts : (w : ℕ) → w < 2 ^ 64 → P (lowered w) + half ≡ w + N (lowered w)
unfolding lowered P N
lowered_parts w h = go (ltb w half) refl
  where
    go : (t : Bool) → ltb w half ≡ t → P (cond t (negsuc (half - suc w)) (pos (w - half))) + half ≡ w + N (cond t (negsuc (half - suc w)) (pos (w - half)))
    go true e = omega (arith, ltb-true w half e)
    go false e = omega (arith, ltb-false w half e)

pub lowered-fits : (w : ℕ) → w < 2 ^ 64 → SFits w64 (lowered w)
lowered-fits w h = fits_of (lowered w) (omega (arith, lowered_parts w h)) (omega (arith, lowered_parts w h))

pub lowered-raised : (z : ℤ) → SFits w64 z → lowered (raised z) ≡ z
lowered-raised z f = eq_of (lowered (raised z)) z (omega (arith, lowered_parts (raised z) (raised_lt z f), raised_parts z f))

-- ---- in i64 or not
pub in_yes : (z : ℤ) → in_i64 z ≡ true → SFits w64 z
unfolding P N
in_yes z h =
    let b = both_true (le_z (negsuc 9223372036854775807) z) (le_z z (pos 9223372036854775807)) h in
    let low = le_yes (negsuc 9223372036854775807) z b.0 in
    let high = le_yes z (pos 9223372036854775807) b.1 in
    fits_of z (omega arith) (omega arith)

pub in_is : (z : ℤ) → SFits w64 z → in_i64 z ≡ true
unfolding P N
in_is z f =
    let low : le_z (negsuc 9223372036854775807) z ≡ true = le_is (negsuc 9223372036854775807) z (omega (arith, N-fits z f)) in
    let high : le_z z (pos 9223372036854775807) ≡ true = le_is z (pos 9223372036854775807) (omega (arith, P-fits z f)) in
    rw (low, high)

-- ---- words and raised numbers
pub word_raised : (z : ℤ) → SFits w64 z → (of_z w64 z + half) % 2 ^ 64 ≡ raised z
unfolding raised
word_raised (pos n) f = omega (arith, f.sfits)
word_raised (negsuc n) f = omega (arith, f.sfits)

pub word_lowered : (w : ℕ) → w < 2 ^ 64 → to_z w64 ((w + half) % 2 ^ 64) ≡ lowered w
unfolding lowered
word_lowered w h = go (ltb w half) refl
  where
    go : (t : Bool) → ltb w half ≡ t → to_z w64 ((w + half) % 2 ^ 64) ≡ cond t (negsuc (half - suc w)) (pos (w - half))
    go true e =
        let l = ltb-true w half e in
        let q : (w + half) % 2 ^ 64 ≡ of_z w64 (negsuc (half - suc w)) = omega arith in
        ap (to_z w64) q ∙ to_z-of_z w64 (negsuc (half - suc w)) (record { sfits = omega arith })
    go false e =
        let l = ltb-false w half e in
        let q : (w + half) % 2 ^ 64 ≡ w - half = omega arith in
        ap (to_z w64) q ∙ to_z_pos w64 (w - half) (omega arith)

-- ---- sums
pub sum_n_cong : (n : ℕ) (f g : ℕ → ℕ) → ((a : ℕ) → a < n → f a ≡ g a) → sum_n n f ≡ sum_n n g
unfolding sum_n
sum_n_cong zero f g e = refl
sum_n_cong (suc n) f g e = omega (arith, sum_n_cong n f g (λ a h. e a (omega arith)), e n (omega arith))

pub sum_n-most : (n : ℕ) (f : ℕ → ℕ) → ((a : ℕ) → a < n → f a < 2 ^ 64) → sum_n n f ≤ n * 2 ^ 64
unfolding sum_n
sum_n-most zero f h = omega arith
sum_n-most (suc n) f h = omega (arith, sum_n-most n f (λ a q. h a (omega arith)), h n (omega arith))

-- At most i words come to s: shut, since its numbers are too long for what else a loop asks of `omega`.
unfoldable pub Under : ℕ → ℕ → Type 0
Under s i = s ≤ i * 2 ^ 64

-- the first i of n words in a sum, as the loops have it
pub record Holds (n : ℕ) (f : ℕ → ℕ) (i : ℕ) (w : Wide) : Type 0 where
  pub is : w ≡ wide (begun n + sum_n i f)
  pub most : Under (sum_n i f) i

module _ (n : ℕ) (f : ℕ → ℕ) where
  pub holds-first : (w : Wide) → w ≡ wide (begun n) → Holds n f 0 w
  unfolding sum_n Under
  holds-first w e = record { is = e ∙ ap wide (omega arith); most = omega arith }

  pub holds-low : (i : ℕ) (w : Wide) → n ≤ 64 → i ≤ n → Holds n f i w → w.hi < 2 ^ 32
  unfolding Under
  holds-low i w m l h =
      let v : w.hi * 2 ^ 64 + w.lo ≡ begun n + sum_n i f = sym (value_of-words w) ∙ ap value_of h.is ∙ value_of-wide _ in
      omega (arith, h.most)

  pub holds_on : (i : ℕ) (w r : Wide) (x : ℕ) → Holds n f i w → x ≡ f i → x < 2 ^ 64 → r ≡ wide (value_of w + x) → Holds n f (i + 1) r
  unfolding sum_n Under
  holds_on i w r x h e l q =
      let v : value_of w ≡ begun n + sum_n i f = ap value_of h.is ∙ value_of-wide _ in
      record { is = q ∙ ap wide (rw (add-one i) (omega arith)); most = rw (add-one i) (omega (arith, h.most)) }

  -- all of them
  pub holds-last : (i : ℕ) (w : Wide) → i ≡ n → Holds n f i w → value_of w ≡ summed n f
  holds-last i w e h = ap value_of h.is ∙ value_of-wide _ ∙ rw e

pub sum_parts : (n : ℕ) (f : ℕ → ℤ) → ((a : ℕ) → a < n → SFits w64 (f a)) → P (sum_to n f) + n * half ≡ sum_n n (λ a. raised (f a)) + N (sum_to n f)
unfolding sum_n sum_to P N
sum_parts zero f h = refl
sum_parts (suc n) f h =
    omega (arith, sum_parts n f (λ a g. h a (omega arith)), P-add (sum_to n f) (f n), raised_parts (f n) (h n (omega arith)))

-- ---- a finished sum
module _ (n : ℕ) (f : ℕ → ℤ) (h : (a : ℕ) → a < n → SFits w64 (f a)) where
  abbrev sum : ℤ
  sum = sum_to n f

  abbrev words : ℕ
  words = summed n (λ a. raised (f a))

  whole : words + N sum ≡ P sum + n * 2 ^ 64 + half
  whole = omega (arith, sum_parts n f h)

  pub ended-fits : eqb (words / 2 ^ 64) n ≡ in_i64 sum
  ended-fits =
      let w = whole in
      together _ _
      (λ e. let q = eqb-true (words / 2 ^ 64) n e in in_is sum (fits_of sum (omega arith) (omega arith)))
      (λ e. let g = in_yes sum e in eq-eqb (words / 2 ^ 64) n (omega (arith, P-fits sum g, N-fits sum g)))

  pub ended-value : in_i64 sum ≡ true → lowered (words % 2 ^ 64) ≡ sum
  ended-value e =
      let w = whole in
      let g = in_yes sum e in
      let q : words % 2 ^ 64 ≡ raised sum = omega (arith, P-fits sum g, N-fits sum g, raised_parts sum g) in
      ap lowered q ∙ lowered-raised sum g

  pub ended-is : ended n words ≡ fitting sum
  unfolding ended
  ended-is = rw ended-fits (go (in_i64 sum) refl)
    where
      go : (t : Bool) → in_i64 sum ≡ t → cond t (Some (lowered (words % 2 ^ 64))) None ≡ cond t (Some sum) None
      go true e = ap Some (ended-value e)
      go false e = refl
