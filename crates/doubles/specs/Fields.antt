-- The fields of a binary64 pattern and the size that they stand for: IEEE 754-2019 3.4. Definitions only.
use Rattle.std.specs.Prelude.{Bool, cond, ℕ, zero, suc, ◌+◌, ◌-◌, ◌*◌, ◌/◌, ◌%◌, ◌^◌, min, ℤ, pos, neg_ℤ}

-- The biased exponent: the eleven bits between the sign and the fraction.
abbrev pub exponent_of : ℕ → ℕ
exponent_of b = b % 2 ^ 63 / 2 ^ 52

-- The trailing significand: the low 52 bits.
abbrev pub fraction_of : ℕ → ℕ
fraction_of b = b % 2 ^ 52

-- The size in units of 2 ^ -1074, the least subnormal. An exponent field of 0 has no leading digit, any other has one.
abbrev pub units_of : ℕ → ℕ → ℕ
units_of zero t = t
units_of (suc e) t = (2 ^ 52 + t) * 2 ^ e

-- The size of a pattern, cut to a whole number and held to 2 ^ 63, the largest that a cast can give.
unfoldable pub whole_of : ℕ → ℕ
whole_of b = min (units_of (exponent_of b) (fraction_of b) / 2 ^ 1074) (2 ^ 63)

-- The size of a pattern to the nearest whole number, the upper one at a tie: the size and a half, cut.
unfoldable pub nearest_of : ℕ → ℕ
nearest_of b = (2 * units_of (exponent_of b) (fraction_of b) + 2 ^ 1074) / (2 * 2 ^ 1074)

-- The number of that sign and size, held to i64's range.
abbrev pub signed_size : Bool → ℕ → ℤ
signed_size s n = cond s (neg_ℤ (pos (min n (2 ^ 63)))) (pos (min n (2 ^ 63 - 1)))
