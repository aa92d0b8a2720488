-- Document 01, 'Sums', on whole numbers: what saturates, what truncates, what is clamped.
use Rattle.std.specs.Prelude.{ℕ, ◌-◌, ◌*◌, ◌/◌, ◌^◌, min, Bool, cond, ℤ, pos, negsuc, ◌+ℤ◌, ◌-ℤ◌, ◌*ℤ◌, neg_ℤ, int_div, unsigned_abs}

-- "clamped to i64": the number of an i64 that is nearest
unfoldable pub clamp64 : ℤ → ℤ
clamp64 (pos n) = pos (min n (2 ^ 63 - 1))
clamp64 (negsuc n) = negsuc (min n (2 ^ 63 - 1))

-- "Share sums, negation and absolute value saturate."
unfoldable pub sat_add : ℤ → ℤ → ℤ
sat_add a b = clamp64 (a +ℤ b)

unfoldable pub sat_sub : ℤ → ℤ → ℤ
sat_sub a b = clamp64 (a -ℤ b)

unfoldable pub sat_neg : ℤ → ℤ
sat_neg a = clamp64 (neg_ℤ a)

unfoldable pub sat_abs : ℤ → ℤ
sat_abs a = clamp64 (pos (unsigned_abs a))

-- "SCALE is 1,000,000."
abbrev pub SCALE : ℕ
SCALE = 1000000

-- "A value is quantity times price over SCALE, exact product, truncated toward zero, clamped to i64."
unfoldable pub value : ℤ → ℤ → ℤ
value q p = clamp64 (int_div (q *ℤ p) (pos SCALE))

-- The same of the magnitudes. That of the lowest number is exact: it is not saturated first.
unfoldable pub notional : ℤ → ℤ → ℤ
notional q p = clamp64 (pos (unsigned_abs q * unsigned_abs p / SCALE))

-- The price at which a quantity has this value: value times SCALE over quantity, truncated toward zero, clamped; 0 for quantity 0.
unfoldable pub price_at : ℤ → ℤ → ℤ
price_at v q = clamp64 (int_div (v *ℤ pos SCALE) q)

-- a magnitude with a sign
unfoldable pub signed : Bool → ℕ → ℤ
signed s n = cond s (neg_ℤ (pos n)) (pos n)

-- "snapped toward zero to the step": the largest multiple of the step up to n; 0 where the step is 0
unfoldable pub snap : ℕ → ℕ → ℕ
snap n step = n / step * step
