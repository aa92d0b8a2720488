-- Products and quotients of signed numbers are those of the magnitudes, with a sign.
use Rattle.std.proofs.Common.{◌≡◌, ℕ, zero, suc, ◌*◌, ◌/◌, Bool, true, false, not, ℤ, pos, negsuc, ◌*ℤ◌, nat_abs, refl, ap, ◌∙◌}
use mathlib.Core.Bool.{xor}
use native.Mathlib.Nat.{zero-div}
use lib.IntN.{pos-*ℤ-pos, pos-*ℤ-negsuc, negsuc-*ℤ-pos, negsuc-*ℤ-negsuc}
use lib.Signed.{non_neg, quot_z}
use Rattle.sums.specs.Sums.{clamp64, signed, value, price_at, SCALE}

pub product : (a b : ℤ) → a *ℤ b ≡ signed (xor (non_neg a) (non_neg b)) (nat_abs a * nat_abs b)
unfolding signed xor
product (pos m) (pos n) = pos-*ℤ-pos m n
product (pos m) (negsuc n) = pos-*ℤ-negsuc m n
product (negsuc m) (pos n) = negsuc-*ℤ-pos m n
product (negsuc m) (negsuc n) = negsuc-*ℤ-negsuc m n

pub quotient : (s : Bool) (n : ℕ) (d : ℤ) → quot_z (signed s n) d ≡ signed (xor s (not (non_neg d))) (n / nat_abs d)
unfolding signed xor
quotient false n (pos d) = refl
quotient false n (negsuc d) = refl
quotient true zero (pos d) = simp zero-div
quotient true zero (negsuc d) = simp zero-div
quotient true (suc n) (pos d) = refl
quotient true (suc n) (negsuc d) = refl

by_false : (s : Bool) → xor s false ≡ s
unfolding xor
by_false true = refl
by_false false = refl

by_not : (s t : Bool) → xor (xor s true) (not t) ≡ xor s t
unfolding xor
by_not true true = refl
by_not true false = refl
by_not false true = refl
by_not false false = refl

-- a value and a price are magnitudes with a sign, clamped
pub value-signed : (q p : ℤ) → value q p ≡ clamp64 (signed (xor (non_neg q) (non_neg p)) (nat_abs q * nat_abs p / SCALE))
unfolding value
value-signed q p =
    ap clamp64
    (ap (λ (z : ℤ). quot_z z (pos SCALE)) (product q p) ∙ quotient (xor (non_neg q) (non_neg p)) (nat_abs q * nat_abs p) (pos SCALE) ∙ ap (λ (s : Bool). signed s (nat_abs q * nat_abs p / SCALE)) (by_false (xor (non_neg q) (non_neg p))))

pub price_at-signed : (v q : ℤ) → price_at v q ≡ clamp64 (signed (xor (non_neg v) (non_neg q)) (nat_abs v * SCALE / nat_abs q))
unfolding price_at
price_at-signed v q =
    ap clamp64
    (ap (λ (z : ℤ). quot_z z q) (product v (pos SCALE)) ∙ quotient (xor (non_neg v) true) (nat_abs v * SCALE) q ∙ ap (λ (s : Bool). signed s (nat_abs v * SCALE / nat_abs q)) (by_not (non_neg v) (non_neg q)))
