-- Laws of a value, a notional, a price and a step, on their definitions: callers cite these and never the definitions' text.
use Rattle.std.proofs.Common.{◌≡◌, ℕ, zero, suc, ◌+◌, ◌-◌, ◌*◌, ◌/◌, ◌%◌, ◌^◌, ◌<◌, ◌≤◌, min, Bool, true, false, ℤ, pos, negsuc, neg_ℤ, nat_abs, sym, refl, ap, ◌∙◌, mul-le-mul_right, mul_comm, mul-le-mul, mul-le-mul_left, mul-zero, le-div_iff_mul-le, zero-mul, mul-one, div-mul-le_self, div-one, mul-div_cancel, arith, w64, SFits, leb-true}
use mathlib.Core.Bool.{xor}
use native.Mathlib.Nat as Nat
use native.Mathlib.Nat.{mul-div-le, lt-div-mul-add, mul-mod_left, zero-div, div-zero}
use lib.Signed.{non_neg, le_z}
use Rattle.sums.specs.Sums.{clamp64, sat_abs, signed, value, notional, price_at, snap, SCALE}
use Rattle.sums.proofs.Ints.{P, N, P_pos, N-pos, P-neg, N-neg, P-signed, N-signed, signed-pos, nat_abs_parts, P_clamp, N_clamp, P-sat_abs, N-sat_abs, clamp_fits, eq_of, le_is, le_parts, le_trans, N-zero, P-zero, from_zero, to_zero}
use Rattle.sums.proofs.Signs.{value-signed, price_at-signed}

-- ---- quotients and clamped magnitudes
pub div_mono : (a b d : ℕ) → a ≤ b → a / d ≤ b / d
div_mono a b zero h = omega (arith, div-zero a, div-zero b)
div_mono a b (suc d) h = (le-div_iff_mul-le {k = suc d} (omega arith)).1 (Nat.le_trans (div-mul-le_self a (suc d)) h)

-- a magnitude with a sign, clamped, is on one side of zero
up : (z : ℤ) (m : ℕ) → z ≡ clamp64 (signed false m) → (P z ≡ min m (2 ^ 63 - 1)) × (N z ≡ 0)
up z m e =
    let s = signed-pos m in
    (omega (arith, ap P e, P_clamp (signed false m), ap P s, P_pos m), omega (arith, ap N e, N_clamp (signed false m), ap N s, N-pos m))

down : (z : ℤ) (m : ℕ) → z ≡ clamp64 (signed true m) → (P z ≡ 0) × (N z ≡ min m (2 ^ 63))
down z m e = (omega (arith, ap P e, P_clamp (signed true m), P-signed m), omega (arith, ap N e, N_clamp (signed true m), N-signed m))

size : (z : ℤ) (s : Bool) (m : ℕ) → z ≡ clamp64 (signed s m) → (min m (2 ^ 63 - 1) ≤ nat_abs z) × (nat_abs z ≤ min m (2 ^ 63))
size z true m e = let d = down z m e in (omega (arith, nat_abs_parts z), omega (arith, nat_abs_parts z))
size z false m e = let d = up z m e in (omega (arith, nat_abs_parts z), omega (arith, nat_abs_parts z))

none : (s : Bool) (m : ℕ) → m ≡ 0 → clamp64 (signed s m) ≡ pos 0
unfolding clamp64 signed
none true m e = rw e
none false m e = rw e

-- ---- a value is a number of an i64, and truncates
pub value-fits : (q p : ℤ) → SFits w64 (value q p)
unfolding value
value-fits q p = clamp_fits _

-- its magnitude is at most the exact one, and short of it by less than one, unless it was clamped
pub value_truncates : (q p : ℤ) → nat_abs (value q p) * SCALE ≤ nat_abs q * nat_abs p
value_truncates q p = omega (arith, size (value q p) _ _ (value-signed q p))

pub value-near : (q p : ℤ) → nat_abs (value q p) < 2 ^ 63 - 1 → nat_abs q * nat_abs p < (nat_abs (value q p) + 1) * SCALE
value-near q p h = omega (arith, size (value q p) _ _ (value-signed q p))

turned : (s t : Bool) → xor s t ≡ xor t s
unfolding xor
turned true true = refl
turned true false = refl
turned false true = refl
turned false false = refl

pub value_comm : (q p : ℤ) → value q p ≡ value p q
value_comm q p = value-signed q p ∙ (λ i. clamp64 (signed (turned (non_neg q) (non_neg p) i) (mul_comm (nat_abs q) (nat_abs p) i / SCALE))) ∙ sym (value-signed p q)

pub value-zero-quantity : (p : ℤ) → value (pos 0) p ≡ pos 0
value-zero-quantity p = value-signed (pos 0) p ∙ none _ _ (ap (λ (n : ℕ). n / SCALE) (zero-mul (nat_abs p)))

pub value-zero-price : (q : ℤ) → value q (pos 0) ≡ pos 0
value-zero-price q = value_comm q (pos 0) ∙ value-zero-quantity q

-- ---- a value's parts, at a price that is not negative
pub P-value : (q p : ℤ) → le_z (pos 0) p ≡ true → P (value q p) ≡ min (P q * P p / SCALE) (2 ^ 63 - 1)
unfolding P N xor
P-value (pos a) (pos b) h = (up _ _ (value-signed (pos a) (pos b))).0
P-value (negsuc a) (pos b) h = omega (arith, down _ _ (value-signed (negsuc a) (pos b)))
P-value q (negsuc b) h = let z : ◌≡◌ {A = ℕ} 0 1 = cc in absurd (omega arith)

pub N-value : (q p : ℤ) → le_z (pos 0) p ≡ true → N (value q p) ≡ min (N q * P p / SCALE) (2 ^ 63)
unfolding P N xor
N-value (pos a) (pos b) h = omega (arith, up _ _ (value-signed (pos a) (pos b)))
N-value (negsuc a) (pos b) h = (down _ _ (value-signed (negsuc a) (pos b))).1
N-value q (negsuc b) h = let z : ◌≡◌ {A = ℕ} 0 1 = cc in absurd (omega arith)

scaled_mono : (a b c : ℕ) → a ≤ b → a * c / SCALE ≤ b * c / SCALE
scaled_mono a b c h = div_mono (a * c) (b * c) SCALE (mul-le-mul_right c h)

-- ---- a value's sign and order
pub value_nonneg : (q p : ℤ) → le_z (pos 0) q ≡ true → le_z (pos 0) p ≡ true → le_z (pos 0) (value q p) ≡ true
value_nonneg q p h g = from_zero (value q p) (omega (arith, N-value q p g, ap (λ (n : ℕ). n * P p / SCALE) (N-zero q h)))

pub value_nonpos : (q p : ℤ) → le_z q (pos 0) ≡ true → le_z (pos 0) p ≡ true → le_z (value q p) (pos 0) ≡ true
value_nonpos q p h g = to_zero (value q p) (omega (arith, P-value q p g, ap (λ (n : ℕ). n * P p / SCALE) (P-zero q h)))

pub value_mono_quantity : (q q' p : ℤ) → le_z (pos 0) p ≡ true → le_z q q' ≡ true → le_z (value q p) (value q' p) ≡ true
value_mono_quantity q q' p g h =
    let l = le_parts q q' h in
    le_is (value q p) (value q' p)
    (omega (arith, P-value q p g, P-value q' p g, N-value q p g, N-value q' p g, scaled_mono (P q) (P q') (P p) l.0, scaled_mono (N q') (N q) (P p) l.1))

pub value_mono_price : (q p p' : ℤ) → le_z (pos 0) q ≡ true → le_z p p' ≡ true → le_z (value q p) (value q p') ≡ true
value_mono_price q p p' g h = (λ i. le_z (value_comm q p i) (value_comm q p' i)) ∙ value_mono_quantity p p' q g h

-- of a short position a higher price makes the value lower
pub value_anti_price : (q p p' : ℤ) → le_z q (pos 0) ≡ true → le_z (pos 0) p ≡ true → le_z p p' ≡ true → le_z (value q p') (value q p) ≡ true
value_anti_price q p p' k g h =
    let g' = le_trans (pos 0) p p' g h in
    let z = value_nonpos q p k g in
    let z' = value_nonpos q p' k g' in
    le_is (value q p') (value q p)
    (omega (arith, P-zero (value q p) z, P-zero (value q p') z', N-value q p g, N-value q p' g', div_mono (N q * P p) (N q * P p') SCALE (mul-le-mul_left (N q) (le_parts p p' h).0)))

pub value-neg : (q p : ℤ) → le_z (pos 0) p ≡ true → nat_abs q * P p / SCALE < 2 ^ 63 → value (neg_ℤ q) p ≡ neg_ℤ (value q p)
value-neg q p g h =
    let a = nat_abs_parts q in
    let x : P q * P p / SCALE ≤ nat_abs q * P p / SCALE = scaled_mono (P q) (nat_abs q) (P p) (omega arith) in
    let y : N q * P p / SCALE ≤ nat_abs q * P p / SCALE = scaled_mono (N q) (nat_abs q) (P p) (omega arith) in
    let s : P (value (neg_ℤ q) p) ≡ min (N q * P p / SCALE) (2 ^ 63 - 1) = P-value (neg_ℤ q) p g ∙ ap (λ (n : ℕ). min (n * P p / SCALE) (2 ^ 63 - 1)) (P-neg q) in
    let t : N (value (neg_ℤ q) p) ≡ min (P q * P p / SCALE) (2 ^ 63) = N-value (neg_ℤ q) p g ∙ ap (λ (n : ℕ). min (n * P p / SCALE) (2 ^ 63)) (N-neg q) in
    eq_of (value (neg_ℤ q) p) (neg_ℤ (value q p)) (omega (arith, P-neg (value q p), N-neg (value q p), P-value q p g, N-value q p g))

-- ---- a notional
pub P-notional : (q p : ℤ) → P (notional q p) ≡ min (nat_abs q * nat_abs p / SCALE) (2 ^ 63 - 1)
unfolding notional
P-notional q p = omega (arith, P_clamp (pos (nat_abs q * nat_abs p / SCALE)), P_pos (nat_abs q * nat_abs p / SCALE))

pub N-notional : (q p : ℤ) → N (notional q p) ≡ 0
unfolding notional
N-notional q p = omega (arith, N_clamp (pos (nat_abs q * nat_abs p / SCALE)), N-pos (nat_abs q * nat_abs p / SCALE))

pub notional-fits : (q p : ℤ) → SFits w64 (notional q p)
unfolding notional
notional-fits q p = clamp_fits _

pub notional_nonneg : (q p : ℤ) → le_z (pos 0) (notional q p) ≡ true
notional_nonneg q p = from_zero (notional q p) (N-notional q p)

-- the value's absolute value, saturating
pub notional_is_magnitude : (q p : ℤ) → notional q p ≡ sat_abs (value q p)
notional_is_magnitude q p =
    eq_of (notional q p) (sat_abs (value q p))
    (omega (arith, P-notional q p, N-notional q p, P-sat_abs (value q p), N-sat_abs (value q p), size (value q p) _ _ (value-signed q p)))

pub notional_is_value : (q p : ℤ) → le_z (pos 0) q ≡ true → le_z (pos 0) p ≡ true → notional q p ≡ value q p
unfolding notional xor
notional_is_value (pos a) (pos b) h g = sym (value-signed (pos a) (pos b) ∙ ap clamp64 (signed-pos _))
notional_is_value (negsuc a) p h g = let z : ◌≡◌ {A = ℕ} 0 1 = cc in absurd (omega arith)
notional_is_value (pos a) (negsuc b) h g = let z : ◌≡◌ {A = ℕ} 0 1 = cc in absurd (omega arith)

pub notional_mono : (q q' p p' : ℤ) → nat_abs q ≤ nat_abs q' → nat_abs p ≤ nat_abs p' → le_z (notional q p) (notional q' p') ≡ true
notional_mono q q' p p' h g =
    le_is (notional q p) (notional q' p')
    (omega (arith, P-notional q p, N-notional q p, P-notional q' p', N-notional q' p', div_mono (nat_abs q * nat_abs p) (nat_abs q' * nat_abs p') SCALE (mul-le-mul h g)))

-- ---- a price
pub price_at-fits : (v q : ℤ) → SFits w64 (price_at v q)
unfolding price_at
price_at-fits v q = clamp_fits _

pub price_at-zero-quantity : (v : ℤ) → price_at v (pos 0) ≡ pos 0
price_at-zero-quantity v = price_at-signed v (pos 0) ∙ none _ _ (div-zero (nat_abs v * SCALE))

pub price_at-zero-value : (q : ℤ) → price_at (pos 0) q ≡ pos 0
price_at-zero-value q = price_at-signed (pos 0) q ∙ none _ _ (zero-div (nat_abs q))

-- its parts, for a long and for a short
pub P-price-long : (v q : ℤ) → le_z (pos 0) q ≡ true → P (price_at v q) ≡ min (P v * SCALE / P q) (2 ^ 63 - 1)
unfolding P N xor
P-price-long (pos a) (pos b) h = (up _ _ (price_at-signed (pos a) (pos b))).0
P-price-long (negsuc a) (pos b) h = omega (arith, down _ _ (price_at-signed (negsuc a) (pos b)), zero-div b)
P-price-long v (negsuc b) h = let z : ◌≡◌ {A = ℕ} 0 1 = cc in absurd (omega arith)

pub N-price-long : (v q : ℤ) → le_z (pos 0) q ≡ true → N (price_at v q) ≡ min (N v * SCALE / P q) (2 ^ 63)
unfolding P N xor
N-price-long (pos a) (pos b) h = omega (arith, up _ _ (price_at-signed (pos a) (pos b)), zero-div b)
N-price-long (negsuc a) (pos b) h = (down _ _ (price_at-signed (negsuc a) (pos b))).1
N-price-long v (negsuc b) h = let z : ◌≡◌ {A = ℕ} 0 1 = cc in absurd (omega arith)

pub P-price-short : (v q : ℤ) → le_z q (pos 0) ≡ true → P (price_at v q) ≡ min (N v * SCALE / N q) (2 ^ 63 - 1)
unfolding P N xor
P-price-short (pos a) (negsuc b) h = omega (arith, down _ _ (price_at-signed (pos a) (negsuc b)), zero-div (suc b))
P-price-short (negsuc a) (negsuc b) h = (up _ _ (price_at-signed (negsuc a) (negsuc b))).0
P-price-short v (pos zero) h = omega (arith, ap P (price_at-zero-quantity v), div-zero (N v * SCALE))
P-price-short v (pos (suc n)) h = absurd (omega (arith, leb-true (suc n) 0 h))

pub N-price-short : (v q : ℤ) → le_z q (pos 0) ≡ true → N (price_at v q) ≡ min (P v * SCALE / N q) (2 ^ 63)
unfolding P N xor
N-price-short (pos a) (negsuc b) h = (down _ _ (price_at-signed (pos a) (negsuc b))).1
N-price-short (negsuc a) (negsuc b) h = omega (arith, up _ _ (price_at-signed (negsuc a) (negsuc b)), zero-div (suc b))
N-price-short v (pos zero) h = omega (arith, ap N (price_at-zero-quantity v), div-zero (P v * SCALE))
N-price-short v (pos (suc n)) h = absurd (omega (arith, leb-true (suc n) 0 h))

pub price-long_nonneg : (v q : ℤ) → le_z (pos 0) q ≡ true → le_z (pos 0) v ≡ true → le_z (pos 0) (price_at v q) ≡ true
price-long_nonneg v q h g = from_zero (price_at v q) (omega (arith, N-price-long v q h, ap (λ (n : ℕ). n * SCALE / P q) (N-zero v g) ∙ zero-div (P q)))

pub price-short_nonneg : (v q : ℤ) → le_z q (pos 0) ≡ true → le_z v (pos 0) ≡ true → le_z (pos 0) (price_at v q) ≡ true
price-short_nonneg v q h g = from_zero (price_at v q) (omega (arith, N-price-short v q h, ap (λ (n : ℕ). n * SCALE / N q) (P-zero v g) ∙ zero-div (N q)))

-- a price that was truncated gives back no more than the value that it came from
back : (x d a : ℕ) → a ≤ x * SCALE / d → d * a / SCALE ≤ x
back x d a h = omega (arith, mul-le-mul_left d h, mul-div-le (x * SCALE) d)

-- "a long's total cost is at least, and a short's at most, its market value at its average"
pub average-long : (total q : ℤ) → le_z (pos 0) q ≡ true → le_z (pos 0) total ≡ true → le_z (value q (price_at total q)) total ≡ true
average-long total q h g =
    let a = price_at total q in
    let n = price-long_nonneg total q h g in
    let v = value_nonneg q a h n in
    let b = back (P total) (P q) (P a) (omega (arith, P-price-long total q h)) in
    le_is (value q a) total (omega (arith, P-value q a n, N-zero (value q a) v, N-zero total g))

pub average-short : (total q : ℤ) → le_z q (pos 0) ≡ true → le_z total (pos 0) ≡ true → le_z total (value q (price_at total q)) ≡ true
average-short total q h g =
    let a = price_at total q in
    let n = price-short_nonneg total q h g in
    let v = value_nonpos q a h n in
    let b = back (N total) (N q) (P a) (omega (arith, P-price-short total q h)) in
    le_is total (value q a) (omega (arith, N-value q a n, P-zero (value q a) v, P-zero total g))

-- ---- a step
pub snap_le : (n s : ℕ) → snap n s ≤ n
unfolding snap
snap_le n s = div-mul-le_self n s

pub snap_multiple : (n s : ℕ) → snap n s % s ≡ 0
unfolding snap
snap_multiple n s = mul-mod_left (n / s) s

pub snap-near : (n s : ℕ) → 0 < s → n < snap n s + s
unfolding snap
snap-near n s h = lt-div-mul-add h

pub snap_mono : (n m s : ℕ) → n ≤ m → snap n s ≤ snap m s
unfolding snap
snap_mono n m s h = mul-le-mul_right s (div_mono n m s h)

pub snap_fixed : (k s : ℕ) → snap (k * s) s ≡ k * s
unfolding snap
snap_fixed k zero = mul-zero _ ∙ sym (mul-zero k)
snap_fixed k (suc s) = ap (λ (x : ℕ). x * suc s) (mul-div_cancel k (omega arith))

-- the largest multiple up to n
pub snap-largest : (n s k : ℕ) → k * s ≤ n → k * s ≤ snap n s
snap-largest n s k h = omega (arith, snap_mono (k * s) n s h, snap_fixed k s)

pub snap_twice : (n s : ℕ) → snap (snap n s) s ≡ snap n s
unfolding snap
snap_twice n s = snap_fixed (n / s) s

pub snap-one : (n : ℕ) → snap n 1 ≡ n
unfolding snap
snap-one n = mul-one (n / 1) ∙ div-one n
