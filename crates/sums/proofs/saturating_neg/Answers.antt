-- The library saturates 0 less the number to the number of an i64 that is nearest, which is the clamp.
use Rattle.std.proofs.Common.{arith, to_z-of_z}
use Rattle.sums.specs.Sums.{clamp64, sat_neg}
use Rattle.sums.proofs.saturating_neg.Goals as goal

pub returns : goal.returns
unfolding sat_neg clamp64
returns c = grind (arith, to_z-of_z)
