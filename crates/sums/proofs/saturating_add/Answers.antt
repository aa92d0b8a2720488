-- The library saturates to the number of an i64 that is nearest, which is the clamp.
use Rattle.std.proofs.Common.{arith, to_z-of_z}
use Rattle.sums.specs.Sums.{clamp64, sat_add}
use Rattle.sums.proofs.saturating_add.Goals as goal

pub returns : goal.returns
unfolding sat_add clamp64
returns c = grind (arith, to_z-of_z)
