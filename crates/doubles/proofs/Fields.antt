-- What the masks and shifts of the code are in `%` and `/`, and what the fields of a pattern say of the double. Assumes nothing.
use mathlib.Core.Path.{◌≡◌, refl, sym, ap, ◌∙◌, subst}
use mathlib.Core.Bool.{Bool, true, false, not, cond}
use Prim.Native.Nat.{ℕ, zero, suc, ◌+◌, ◌*◌, ◌/◌, ◌^◌, ◌≤◌, ◌<◌}
use native.Mathlib.Nat.{mul-one, add-mul, mod-lt, le_of_eq, le_trans}
use native.Mathlib.Omega.{arith}
use lib.Bits.{bit_and, bit_or, and_mask, or_shifted_r}
use lib.Dec.{T, leb, eqb, eqb→eq, leb→le, le→leb, not_T}
use lib.Pow.{pow_pos, field}
use lib.Ieee.{Float, nan, inf, fin, binary64, odd, ne, is_nan, fits, of_fields, of_bits, to_bits}
use lib.Ieee.Bits.{of_bits-to_bits, to_bits-lt, is_true, is_false}
use lib.Ieee.Compare.{differs_from_itself, nan_differs}
use lib.Ieee.Fits.{eq→eqb}
use lib.Ieee.Exact.{HasValue, odd_sign}
use Rattle.doubles.specs.Fields.{exponent_of, fraction_of, units_of}

-- ---- a test's outcome as a fact
pub yes : {b : Bool} → b ≡ true → T b
yes e = subst T (sym e) tt

pub no : {b : Bool} → b ≡ false → T (not b)
no e = subst (λ (b : Bool). T (not b)) (sym e) tt

-- `x != x` tells a NaN
pub unlike_itself : (x : Float) → ne x x ≡ true → x ≡ nan
unlike_itself x h = differs_from_itself x (yes h)

pub like_itself : (x : Float) → ne x x ≡ false → T (not (is_nan x))
unfolding is_nan
like_itself nan h = no (sym nan_differs ∙ h)
like_itself (inf s) h = tt
like_itself (fin s m e) h = tt

-- and so does `is_nan`
pub nan_is : (x : Float) → is_nan x ≡ true → x ≡ nan
unfolding is_nan
nan_is nan h = refl
nan_is (inf s) h = cc
nan_is (fin s m e) h = cc

-- ---- masks
pub exponent_mask : (b : ℕ) → bit_and (b / 2 ^ 52) 0x7ff ≡ exponent_of b
exponent_mask b = and_mask (b / 2 ^ 52) 11 ∙ sym (field b 11 52)

pub fraction_lt : (b : ℕ) → fraction_of b < 2 ^ 52
fraction_lt b = mod-lt b (pow_pos 52)

pub significand_mask : (b : ℕ) → bit_or (bit_and b 0xf_ffff_ffff_ffff) 0x10_0000_0000_0000 ≡ 2 ^ 52 + fraction_of b
significand_mask b = ap (λ (t : ℕ). bit_or t (2 ^ 52)) (and_mask b 52) ∙ or_shifted_r 1 52 (fraction_of b) (fraction_lt b)

same_test : {a b : Bool} → (T a → T b) → (T b → T a) → a ≡ b
same_test {a = true} {b = true} f g = refl
same_test {a = true} {b = false} f g = absurd (f tt)
same_test {a = false} {b = true} f g = absurd (g tt)
same_test {a = false} {b = false} f g = refl

pub sign_bit : (b : ℕ) → b < 2 ^ 64 → eqb (b / 2 ^ 63) 1 ≡ leb (2 ^ 63) b
sign_bit b h =
    same_test (λ t. let e = eqb→eq (b / 2 ^ 63) 1 t in le→leb (2 ^ 63) b (omega arith))
    (λ t. let l = leb→le (2 ^ 63) b t in eq→eqb {a = b / 2 ^ 63} {b = 1} (omega arith))

-- ---- the double that the fields stand for
-- The double x has the sign s and the size of a units of 2 ^ -1074; an infinity counts as any size from 2 ^ 1024 on.
abbrev pub Sized : Float → Bool → ℕ → Type 0
Sized nan s a = ⊥
Sized (inf t) s a = (t ≡ s) × (2 ^ 2098 ≤ a)
Sized (fin t m e) s a = HasValue (fin t m e) s a (2 ^ 1074)

of_value : (x : Float) (s : Bool) (a : ℕ) → HasValue x s a (2 ^ 1074) → Sized x s a
of_value nan s a v = v
of_value (inf t) s a v = absurd v
of_value (fin t m e) s a v = v

fields_sized : (s : Bool) (e t : ℕ) → T (not (is_nan (of_fields binary64 s e t))) → Sized (of_fields binary64 s e t) s (units_of e t)
unfolding of_fields is_nan
fields_sized s zero t h = subst (λ (a : ℕ). Sized (odd 53 s t 0 1074) s a) (mul-one t) (of_value (odd 53 s t 0 1074) s (t * 2 ^ 0) (odd_sign 53 s t 0 1074))
fields_sized s (suc e) t h = go (eqb (suc e) 2047) (eqb→eq (suc e) 2047) h
  where
    ends : (e : ℕ) → suc e ≡ 2047 → e ≡ 2046
    ends e p = omega arith

    large : e ≡ 2046 → 2 ^ 2098 ≤ (2 ^ 52 + t) * 2 ^ e
    large p = subst (λ (e : ℕ). 2 ^ 2098 ≤ (2 ^ 52 + t) * 2 ^ e) (sym p) (wide t (2 ^ 2046) (2 ^ 2098) refl)
      where
        wide : (t p q : ℕ) → q ≡ 2 ^ 52 * p → q ≤ (2 ^ 52 + t) * p
        wide t p q h = le_trans (le_of_eq h) (omega (arith, add-mul (2 ^ 52) t p))

    top : (b : Bool) → 2 ^ 2098 ≤ (2 ^ 52 + t) * 2 ^ e → T (not (is_nan (cond b (inf s) nan))) → Sized (cond b (inf s) nan) s ((2 ^ 52 + t) * 2 ^ e)
    top true l h = (refl, l)
    top false l h = absurd h

    go : (b : Bool) → (T b → suc e ≡ 2047) → T (not (is_nan (cond b (cond (eqb t 0) (inf s) nan) (odd 53 s (2 ^ 52 + t) e 1074))))
        → Sized (cond b (cond (eqb t 0) (inf s) nan) (odd 53 s (2 ^ 52 + t) e 1074)) s ((2 ^ 52 + t) * 2 ^ e)
    go true f h = top (eqb t 0) (large (ends e (f tt))) h
    go false f h = of_value (odd 53 s (2 ^ 52 + t) e 1074) s ((2 ^ 52 + t) * 2 ^ e) (odd_sign 53 s (2 ^ 52 + t) e 1074)

module _ (x : Float) (h : T (fits binary64 x)) where
  -- reading the pattern that was written for x gives x
  fields_are : of_fields binary64 (leb (2 ^ 63) (to_bits binary64 x)) (exponent_of (to_bits binary64 x)) (fraction_of (to_bits binary64 x)) ≡ x
  fields_are = unfold of_bits in of_bits-to_bits binary64 x h

  pub sign_of_bits : eqb (to_bits binary64 x / 2 ^ 63) 1 ≡ leb (2 ^ 63) (to_bits binary64 x)
  sign_of_bits = sign_bit (to_bits binary64 x) (to_bits-lt binary64 x h)

  pub sign_set : to_bits binary64 x / 2 ^ 63 ≡ 1 → true ≡ leb (2 ^ 63) (to_bits binary64 x)
  sign_set e = sym (is_true (eqb (to_bits binary64 x / 2 ^ 63) 1) (eq→eqb e)) ∙ sign_of_bits

  pub sign_clear : (to_bits binary64 x / 2 ^ 63 ≡ 1 → ⊥) → false ≡ leb (2 ^ 63) (to_bits binary64 x)
  sign_clear n = sym (is_false (eqb (to_bits binary64 x / 2 ^ 63) 1) (not_T (eqb (to_bits binary64 x / 2 ^ 63) 1) (λ t. n (eqb→eq (to_bits binary64 x / 2 ^ 63) 1 t)))) ∙ sign_of_bits

  pub sized : T (not (is_nan x)) → Sized x (leb (2 ^ 63) (to_bits binary64 x)) (units_of (exponent_of (to_bits binary64 x)) (fraction_of (to_bits binary64 x)))
  sized n =
      let b = to_bits binary64 x in
      let s = leb (2 ^ 63) b in
      let u = units_of (exponent_of b) (fraction_of b) in
      subst (λ (y : Float). Sized y s u) fields_are (fields_sized s (exponent_of b) (fraction_of b) (subst (λ (y : Float). T (not (is_nan y))) (sym fields_are) n))
