-- Share counts: document 01, "`Shares` with its constants `SCALE` and `ZERO`" and "`from_whole` saturates here".
use Rattle.std.specs.Prelude.{Bool, false, ℤ, pos, negsuc, ◌*ℤ◌, eqb, Float}
use Rattle.std.specs.Int.Signed.{quot_z, lt_z}
use Rattle.std.specs.Float.{binary64}
use Rattle.std.specs.Float.Ieee.{div}
use Rattle.doubles.specs.Doubles.{of_i64}
use Rattle.sums.specs.Sums.{clamp64, SCALE}

-- whole shares as micro-shares
unfoldable pub from_whole : ℤ → ℤ
from_whole n = clamp64 (n *ℤ pos SCALE)

-- the whole shares in a count of micro-shares, any fraction dropped
unfoldable pub whole_shares : ℤ → ℤ
whole_shares n = quot_z n (pos SCALE)

-- a fractional share count: both numbers as doubles, then divided
unfoldable pub to_f64 : ℤ → Float
to_f64 n = div binary64 (of_i64 n) (of_i64 (pos SCALE))

unfoldable pub is_zero : ℤ → Bool
is_zero (pos n) = eqb n 0
is_zero (negsuc n) = false

abbrev pub is_positive : ℤ → Bool
is_positive n = lt_z (pos 0) n

abbrev pub is_negative : ℤ → Bool
is_negative n = lt_z n (pos 0)
