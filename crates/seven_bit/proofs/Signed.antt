-- A signed number and its word are each the other's inverse, and -2^63 to 2^63 - 1 are the words below 2^64.
use mathlib.Core.Path.{◌≡◌, refl, sym, ◌∙◌, ap}
use Prim.Native.Nat.{ℕ, suc, ◌+◌, ◌-◌, ◌*◌, ◌/◌, ◌%◌, ◌<◌, ◌^◌}
use native.Mathlib.Omega.{arith}
use mathlib.Core.Bool.{Bool, true, false}
use lib.Dec.{eqb}
use lib.IntN.{ℤ, pos, negsuc}
use borrow.Author.Tests.{eq-eqb, ne_eqb, eqb-true, eqb-false, ltb-true}
use mir.Syntax.{w64}
use lib.Signed.{lt_z}
use mir.Val.{SFits, to_z, of_z}
use mir.ValLaws.{to_z-of_z, to_z_pos}
use Rattle.answer.specs.Choice.{pick}
use Rattle.seven_bit.specs.Signed.{folded, unfolded}

pub unfolded-folded : (n : ℤ) → unfolded (folded n) ≡ n
unfolding folded unfolded
unfolded-folded (pos k) =
    let d : 2 * k / 2 ≡ k = omega arith in
    simp (eq-eqb (2 * k % 2) 0 (omega arith), d)
unfolded-folded (negsuc k) =
    let d : (2 * k + 1) / 2 ≡ k = omega arith in
    simp (ne_eqb ((2 * k + 1) % 2) 0 (λ e. omega arith), d)

folded_by : (w : ℕ) (t : Bool) → eqb (w % 2) 0 ≡ t → folded (pick t (pos (w / 2)) (negsuc (w / 2))) ≡ w
unfolding folded
folded_by w true e = omega (arith, eqb-true (w % 2) 0 e)
folded_by w false e = omega (arith, eqb-false (w % 2) 0 e)

pub folded-unfolded : (w : ℕ) → folded (unfolded w) ≡ w
unfolding unfolded
folded-unfolded w = folded_by w (eqb (w % 2) 0) refl

pub folded_fits : (n : ℤ) → SFits w64 n → folded n < 2 ^ 64
unfolding folded
folded_fits (pos k) h = omega (arith, h.sfits)
folded_fits (negsuc k) h = omega (arith, h.sfits)

fits_by : (w : ℕ) (t : Bool) → w < 2 ^ 64 → SFits w64 (pick t (pos (w / 2)) (negsuc (w / 2)))
fits_by w true h = record { sfits = omega arith }
fits_by w false h = record { sfits = omega arith }

pub unfolded-fits : (w : ℕ) → w < 2 ^ 64 → SFits w64 (unfolded w)
unfolding unfolded
unfolded-fits w h = fits_by w (eqb (w % 2) 0) h

even_is : (w : ℕ) → w % 2 ≡ 0 → pos (w / 2) ≡ unfolded w
unfolding unfolded
even_is w h = simp (eq-eqb (w % 2) 0 h)

odd_is : (w : ℕ) → (w % 2 ≡ 0 → ⊥) → negsuc (w / 2) ≡ unfolded w
unfolding unfolded
odd_is w h = simp (ne_eqb (w % 2) 0 h)

-- ---- what the code holds: a number's bits, and those of its complement
pub record Below (x : ℤ) : Type 0 where
  pub k : ℕ
  pub same : x ≡ negsuc k
  pub is : to_z w64 (18446744073709551615 - of_z w64 x) ≡ pos k
  pub small : k < 9223372036854775808

pub below : (x : ℤ) → SFits w64 x → lt_z (to_z w64 (of_z w64 x)) (pos 0) ≡ true → Below x
below (pos n) h e = let g = rw (to_z-of_z w64 (pos n) h) at e in absurd (omega (arith, ltb-true n 0 g))
below (negsuc n) h e =
    let b : 18446744073709551615 - (18446744073709551616 - suc n) ≡ n = omega (arith, h.sfits) in
    record { k = n; same = refl; is = ap (to_z w64) b ∙ to_z_pos w64 n h.sfits; small = h.sfits }

pub record Above (x : ℤ) : Type 0 where
  pub k : ℕ
  pub same : x ≡ pos k
  pub is : to_z w64 (of_z w64 x) ≡ pos k
  pub small : k < 9223372036854775808

pub above : (x : ℤ) → SFits w64 x → lt_z (to_z w64 (of_z w64 x)) (pos 0) ≡ false → Above x
above (pos n) h e = record { k = n; same = refl; is = to_z-of_z w64 (pos n) h; small = h.sfits }
above (negsuc n) h e = let g = rw (to_z-of_z w64 (negsuc n) h) at e in let z : ◌≡◌ {A = ℕ} 0 1 = cc in absurd (omega arith)

pub folded_below : {x : ℤ} (b : Below x) → 2 * b.k + 1 ≡ folded x
unfolding folded
folded_below b = sym (ap folded b.same)

pub folded-above : {x : ℤ} (b : Above x) → 2 * b.k ≡ folded x
unfolding folded
folded-above b = sym (ap folded b.same)

pub even_code : (w : ℕ) → w < 2 ^ 64 → w % 2 ≡ 0 → to_z w64 (w / 2) ≡ unfolded w
even_code w h e = to_z_pos w64 (w / 2) (omega arith) ∙ even_is w e

pub odd_code : (w : ℕ) → w < 2 ^ 64 → (w % 2 ≡ 0 → ⊥) → to_z w64 (18446744073709551615 - w / 2) ≡ unfolded w
odd_code w h e =
    let b : 18446744073709551615 - w / 2 ≡ 18446744073709551616 - suc (w / 2) = omega arith in
    ap (to_z w64) b ∙ to_z-of_z w64 (negsuc (w / 2)) (record { sfits = omega arith }) ∙ odd_is w e
