-- The whole part of a double from its fields, and the cast that it gives. Assumes nothing.
use mathlib.Core.Path.{◌≡◌, sym, ap, ◌∙◌}
use mathlib.Core.Bool.{Bool, true, false, cond}
use Prim.Native.Nat.{ℕ, zero, suc, ◌+◌, ◌-◌, ◌*◌, ◌/◌, ◌%◌, ◌^◌, ◌≤◌, ◌<◌, min}
use native.Mathlib.Nat.{le_of_eq, le_trans, lt_of_lt_of_le, mul_assoc, mul-le-mul_right, mul-lt-mul_of_pos_right, mul-div-mul_right, mul-div_cancel, div-eq_of_lt, div-lt_iff_lt-mul, le-div_iff_mul-le, le-add_right}
use native.Mathlib.Omega.{arith}
use lib.Pow.{pow_pos, pow-add, pow_mono}
use lib.IntN.{pos, neg_ℤ}
use lib.Ieee.{Float, nan, inf, fin, up, down, to_signed}
use lib.Ieee.Fits.{down_pos}
use lib.Ieee.Nearest.{div_same}
use Rattle.doubles.specs.Fields.{exponent_of, fraction_of, units_of, whole_of, signed_size}
use Rattle.doubles.proofs.Fields.{Sized, fraction_lt}

-- ---- the size of the fields between powers of two
pub units_lt : (e t k : ℕ) → t < 2 ^ 52 → e ≤ k → units_of e t < 2 ^ (52 + k)
units_lt zero t k l h = lt_of_lt_of_le l (pow_mono {i = 52} {j = 52 + k} (omega arith))
units_lt (suc e) t k l h =
    lt_of_lt_of_le (mul-lt-mul_of_pos_right {n = 2 ^ 53} (omega arith) (pow_pos e)) (le_trans (le_of_eq (sym (pow-add 2 53 e))) (pow_mono (omega arith)))

pub units_ge : (e t : ℕ) → 2 ^ (52 + e) ≤ units_of (suc e) t
units_ge e t = le_trans (le_of_eq (pow-add 2 52 e)) (mul-le-mul_right (2 ^ e) (le-add_right (2 ^ 52) t))

-- ---- a shift to the right, or to the left, for the division by 2 ^ 1074
pub shift_right : (d e : ℕ) → e ≤ 1074 → d * 2 ^ e / 2 ^ 1074 ≡ d / 2 ^ (1074 - e)
shift_right d e h = ap (λ (x : ℕ). d * 2 ^ e / 2 ^ x) (back e h) ∙ ap (λ (x : ℕ). d * 2 ^ e / x) (pow-add 2 (1074 - e) e) ∙ mul-div-mul_right d (2 ^ (1074 - e)) (pow_pos e)
  where
    back : (e : ℕ) → e ≤ 1074 → 1074 ≡ 1074 - e + e
    back e h = omega arith

shift_left : (d e : ℕ) → 1074 ≤ e → d * 2 ^ e / 2 ^ 1074 ≡ d * 2 ^ (e - 1074)
shift_left d e h =
    ap (λ (x : ℕ). d * 2 ^ x / 2 ^ 1074) (back e h) ∙ ap (λ (x : ℕ). d * x / 2 ^ 1074) (pow-add 2 (e - 1074) 1074) ∙ ap (λ (x : ℕ). x / 2 ^ 1074) (sym (mul_assoc d (2 ^ (e - 1074)) (2 ^ 1074)))
    ∙ mul-div_cancel (d * 2 ^ (e - 1074)) (pow_pos 1074)
  where
    back : (e : ℕ) → 1074 ≤ e → e ≡ e - 1074 + 1074
    back e h = omega arith

-- ---- the whole part, held to 2 ^ 63
abbrev held_at : ℕ → ℕ → ℕ
held_at e t = min (units_of e t / 2 ^ 1074) (2 ^ 63)

held_none : (e t : ℕ) → t < 2 ^ 52 → e < 1023 → 0 ≡ held_at e t
held_none e t l h = ap (λ (n : ℕ). min n (2 ^ 63)) (sym (div-eq_of_lt (units_lt e t 1022 l (omega arith))))

top : (n : ℕ) → 2 ^ 63 ≤ n → 2 ^ 63 ≡ min n (2 ^ 63)
top n h = omega arith

kept : (n : ℕ) → n < 2 ^ 63 → n ≡ min n (2 ^ 63)
kept n h = omega arith

held_top : (e t : ℕ) → 1086 ≤ e → 2 ^ 63 ≡ held_at e t
held_top zero t h = absurd (none h)
  where
    none : 1086 ≤ 0 → ⊥
    none h = omega arith
held_top (suc e) t h =
    top (units_of (suc e) t / 2 ^ 1074) ((le-div_iff_mul-le (pow_pos 1074)).1 (le_trans (le_trans (le_of_eq (sym (pow-add 2 63 1074))) (pow_mono {i = 1137} {j = 52 + e} (omega arith))) (units_ge e t)))

held_right : (e t : ℕ) → t < 2 ^ 52 → 1023 ≤ e → e < 1075 → (2 ^ 52 + t) / 2 ^ (1075 - e) ≡ held_at e t
held_right zero t l h k = absurd (none h)
  where
    none : 1023 ≤ 0 → ⊥
    none h = omega arith
held_right (suc e) t l h k =
    let s : 1075 - suc e ≡ 1074 - e = omega arith in
    let q : units_of (suc e) t / 2 ^ 1074 ≡ (2 ^ 52 + t) / 2 ^ (1074 - e) = shift_right (2 ^ 52 + t) e (omega arith) in
    let b : units_of (suc e) t / 2 ^ 1074 < 2 ^ 63 = (div-lt_iff_lt-mul (pow_pos 1074)).1 (lt_of_lt_of_le (units_lt (suc e) t 1085 l (omega arith)) (le_of_eq (pow-add 2 63 1074))) in
    ap (λ (x : ℕ). (2 ^ 52 + t) / 2 ^ x) s ∙ sym q ∙ kept (units_of (suc e) t / 2 ^ 1074) b

held-left : (e t : ℕ) → t < 2 ^ 52 → 1075 ≤ e → e < 1086 → (2 ^ 52 + t) * 2 ^ (e - 1075) % 2 ^ 64 ≡ held_at e t
held-left zero t l h k = absurd (none h)
  where
    none : 1075 ≤ 0 → ⊥
    none h = omega arith
held-left (suc e) t l h k =
    let s : suc e - 1075 ≡ e - 1074 = omega arith in
    let q : units_of (suc e) t / 2 ^ 1074 ≡ (2 ^ 52 + t) * 2 ^ (e - 1074) = shift_left (2 ^ 52 + t) e (omega arith) in
    let b : units_of (suc e) t / 2 ^ 1074 < 2 ^ 63 = (div-lt_iff_lt-mul (pow_pos 1074)).1 (lt_of_lt_of_le (units_lt (suc e) t 1085 l (omega arith)) (le_of_eq (pow-add 2 63 1074))) in
    ap (λ (x : ℕ). (2 ^ 52 + t) * 2 ^ x % 2 ^ 64) s ∙ ap (λ (x : ℕ). x % 2 ^ 64) (sym q) ∙ below (units_of (suc e) t / 2 ^ 1074) b
  where
    below : (n : ℕ) → n < 2 ^ 63 → n % 2 ^ 64 ≡ min n (2 ^ 63)
    below n h = omega arith

module _ (b e : ℕ) (p : e ≡ exponent_of b) where
  held : held_at e (fraction_of b) ≡ whole_of b
  unfolding whole_of
  held i = held_at (p i) (fraction_of b)

  pub whole-none : e < 1023 → 0 ≡ whole_of b
  whole-none h = held_none e (fraction_of b) (fraction_lt b) h ∙ held

  pub whole_top : 1086 ≤ e → 2 ^ 63 ≡ whole_of b
  whole_top h = held_top e (fraction_of b) h ∙ held

  module _ (d : ℕ) (q : d ≡ 2 ^ 52 + fraction_of b) where
    pub whole_right : 1023 ≤ e → e < 1075 → d / 2 ^ (1075 - e) ≡ whole_of b
    whole_right h k = ap (λ (d : ℕ). d / 2 ^ (1075 - e)) q ∙ held_right e (fraction_of b) (fraction_lt b) h k ∙ held

    pub whole-left : 1075 ≤ e → e < 1086 → d * 2 ^ (e - 1075) % 2 ^ 64 ≡ whole_of b
    whole-left h k = ap (λ (d : ℕ). d * 2 ^ (e - 1075) % 2 ^ 64) q ∙ held-left e (fraction_of b) (fraction_lt b) h k ∙ held

-- ---- the cast of a double of that sign and size
min-min : (n a b : ℕ) → b ≤ a → min (min n a) b ≡ min n b
min-min n a b h = omega arith

signed-held : (s : Bool) (n : ℕ) → signed_size s (min n (2 ^ 63)) ≡ signed_size s n
signed-held true n = ap (λ (x : ℕ). neg_ℤ (pos x)) (min-min n (2 ^ 63) (2 ^ 63) (omega arith))
signed-held false n = ap pos (min-min n (2 ^ 63) (2 ^ 63 - 1) (omega arith))

signed_top : (s : Bool) (n : ℕ) → 2 ^ 63 ≤ n → signed_size s n ≡ cond s (neg_ℤ (pos (2 ^ 63))) (pos (2 ^ 63 - 1))
signed_top true n h = ap (λ (x : ℕ). neg_ℤ (pos x)) (sym (top n h))
signed_top false n h = ap pos (ends n h)
  where
    ends : (n : ℕ) → 2 ^ 63 ≤ n → min n (2 ^ 63 - 1) ≡ 2 ^ 63 - 1
    ends n h = omega arith

pub cast_sized : (x : Float) (s : Bool) (a : ℕ) → Sized x s a → signed_size s (a / 2 ^ 1074) ≡ to_signed 63 x
unfolding to_signed
cast_sized nan s a v = absurd v
cast_sized (inf t) s a v =
    signed_top s (a / 2 ^ 1074) ((le-div_iff_mul-le (pow_pos 1074)).1 (le_trans (le_trans (le_of_eq (sym (pow-add 2 63 1074))) (pow_mono {i = 1137} {j = 2098} (omega arith))) v.1))
    ∙ ap (λ (s : Bool). cond s (neg_ℤ (pos (2 ^ 63))) (pos (2 ^ 63 - 1))) (sym v.0)
cast_sized (fin t m e) s a v =
    let q : a / 2 ^ 1074 ≡ m * up e / down e = sym (div_same (m * up e) (down e) a (2 ^ 1074) (down_pos e) (pow_pos 1074) v.1) in
    λ i. signed_size (sym v.0 i) (q i)

pub cast_whole : (x : Float) (s : Bool) (b : ℕ) → Sized x s (units_of (exponent_of b) (fraction_of b)) → signed_size s (whole_of b) ≡ to_signed 63 x
unfolding whole_of
cast_whole x s b v = signed-held s (units_of (exponent_of b) (fraction_of b) / 2 ^ 1074) ∙ cast_sized x s (units_of (exponent_of b) (fraction_of b)) v
