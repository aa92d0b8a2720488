-- Document 01, 'Planning': how many shares a value is, what an order over its maximum becomes, and how far it is from its target.
use Rattle.std.specs.Prelude.{ℕ, ◌-◌, ◌*◌, ◌/◌, ◌^◌, min, ℤ, pos, negsuc, int_lt, unsigned_abs, Float}
use Rattle.std.specs.Float.{binary64}
use Rattle.std.specs.Float.Ieee.{mul, div}
use Rattle.sums.specs.Sums.{SCALE, clamp64, signed, snap}
use Rattle.doubles.specs.Doubles.{of_i64, of_u64}
use Rattle.cost_model.specs.Costs.{ten_thousand}

-- the part of a number above zero
unfoldable pub above : ℤ → ℕ
above (pos n) = n
above (negsuc n) = 0

-- "shares, truncated, snapped toward zero to the step": none at a price or a step of 0
unfoldable pub shares_for : ℕ → ℕ → ℕ → ℕ
shares_for value price step = snap (value * SCALE / price) step

-- "the gap becomes shares, truncated, snapped toward zero to the step, then clamped": of gap, price and step
unfoldable pub sized : ℤ → ℤ → ℤ → ℤ
sized gap price step = clamp64 (signed (int_lt gap (pos 0)) (shares_for (unsigned_abs gap) (above price) (above step)))

-- "the quantity keeps its sign and becomes maximum × SCALE / price, truncated and snapped to the step": of quantity, price, step and maximum
unfoldable pub cut_to : ℤ → ℤ → ℤ → ℤ → ℤ
cut_to quantity price step max =
    signed (int_lt quantity (pos 0)) (min (shares_for (above max) (unsigned_abs price) (above step)) (2 ^ 63 - 1))

-- "Drift is (absolute value / equity) × 10,000, divided first."
unfoldable pub drift : ℤ → ℤ → Float
drift value equity = mul binary64 (div binary64 (of_u64 (unsigned_abs value)) (of_i64 equity)) ten_thousand
