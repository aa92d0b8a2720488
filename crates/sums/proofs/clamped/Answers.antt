-- Below 2 ^ 63 the magnitude is exact; from there on it is past the top, and at or past the bottom.
use Rattle.std.proofs.Common.{arith, to_z-of_z}
use Rattle.sums.specs.Sums.{clamp64, signed}
use Rattle.sums.proofs.clamped.Goals as goal

pub returns-then-negative : goal.returns-then-negative
unfolding clamp64 signed
returns-then-negative c = grind (arith, to_z-of_z)

pub returns-else-negative : goal.returns-else-negative
unfolding clamp64 signed
returns-else-negative c = grind (arith, to_z-of_z)

pub returns-then-negative-2 : goal.returns-then-negative-2
unfolding clamp64 signed
returns-then-negative-2 c = grind (arith, to_z-of_z)

pub returns-else-negative-2 : goal.returns-else-negative-2
unfolding clamp64 signed
returns-else-negative-2 c = grind (arith, to_z-of_z)
