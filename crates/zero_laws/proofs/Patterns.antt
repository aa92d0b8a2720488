-- Plain zeros in bit patterns: 2^63 is that of -0.0 and of no other double.
use Prim.Native.Nat.{ℕ, zero, suc, ◌^◌, ◌<◌}
use mathlib.Core.Path.{◌≡◌, refl, sym, ap, ◌∙◌, subst}
use mathlib.Core.Bool.{Bool, true, false, not}
use native.Mathlib.Nat.{zero-mul, zero-div}
use borrow.Author.Tests.{eqb-true, eqb-false}
use lib.Dec.{T, eqb}
use lib.IntN.{ℤ, pos}
use lib.Ieee.{Float, nan, inf, fin, binary64, fits, is_nan, of_bits, to_bits}
use lib.Ieee.Bits.{of_bits-fits}
use Rattle.doubles.specs.Doubles as Doubles
use Rattle.doubles.proofs.Chain.{minus_zero}
use Rattle.table.specs.Keyed.{pick}
use Rattle.word_bytes.specs.Numbers.{float_of, pattern_of}
use Rattle.word_bytes.proofs.Numbers.{float_pattern, pattern_float}
use Rattle.zero_laws.specs.Zeros.{plain_zero}

zero_pattern : (s : Bool) (e : ℤ) → pattern_of (fin s 0 e) ≡ pick s (2 ^ 63) 0
unfolding to_bits
zero_pattern true e = simp (zero-mul, zero-div)
zero_pattern false e = simp (zero-mul, zero-div)

pub only_minus_zero : (x : Float) → T (fits binary64 x) → pattern_of x ≡ 2 ^ 63 → x ≡ minus_zero
only_minus_zero x f h = sym (float_pattern x f) ∙ ap float_of h ∙ unfold of_bits in refl

plus_zero : float_of 0 ≡ Doubles.zero
unfolding of_bits
plus_zero = refl

-- a double that a saved form holds otherwise is as it was
pub plain_other : (x : Float) → T (fits binary64 x) → (pattern_of x ≡ 2 ^ 63 → ⊥) → plain_zero x ≡ x
unfolding plain_zero
plain_other nan f h = refl
plain_other (inf s) f h = refl
plain_other (fin true zero e) f h = absurd (h (zero_pattern true e))
plain_other (fin false zero e) f h = sym plus_zero ∙ ap float_of (sym (zero_pattern false e)) ∙ float_pattern (fin false zero e) f
plain_other (fin s (suc m) e) f h = refl

-- a word that is not -0.0's stands for what is read
pub plain_word : (w : ℕ) → w < 2 ^ 64 → (w ≡ 2 ^ 63 → ⊥) → plain_zero (float_of w) ≡ float_of w
plain_word w l h = plain_other (float_of w) (of_bits-fits binary64 w)
    (λ g. h (sym (pattern_float w l (subst (λ (x : Float). T (not (is_nan x))) (sym (only_minus_zero (float_of w) (of_bits-fits binary64 w) g)) (unfold is_nan in tt))) ∙ g))

plain_minus_zero : pattern_of (plain_zero minus_zero) ≡ 0
unfolding plain_zero
plain_minus_zero = zero_pattern false (pos 0)

-- what is written
pub plain_pattern : (x : Float) → T (fits binary64 x) → pattern_of (plain_zero x) ≡ pick (eqb (pattern_of x) (2 ^ 63)) 0 (pattern_of x)
plain_pattern x f = go (eqb (pattern_of x) (2 ^ 63)) refl
  where
    go : (b : Bool) → eqb (pattern_of x) (2 ^ 63) ≡ b → pattern_of (plain_zero x) ≡ pick b 0 (pattern_of x)
    go true e = ap (λ y. pattern_of (plain_zero y)) (only_minus_zero x f (eqb-true (pattern_of x) (2 ^ 63) e)) ∙ plain_minus_zero
    go false e = ap pattern_of (plain_other x f (eqb-false (pattern_of x) (2 ^ 63) e))

pub plain_fits : (x : Float) → T (fits binary64 x) → T (fits binary64 (plain_zero x))
unfolding plain_zero fits
plain_fits nan f = f
plain_fits (inf s) f = f
plain_fits (fin s zero e) f = tt
plain_fits (fin s (suc m) e) f = f

-- what is written is read back with plain zeros
pub plain-read : (x : Float) → T (fits binary64 x) → float_of (pick (eqb (pattern_of x) (2 ^ 63)) 0 (pattern_of x)) ≡ plain_zero x
plain-read x f = ap float_of (sym (plain_pattern x f)) ∙ float_pattern (plain_zero x) (plain_fits x f)
