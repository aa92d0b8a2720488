-- A number below zero has its negative as magnitude, another has itself.
use Rattle.std.proofs.Common.{arith, to_z-of_z}
use Rattle.sums.specs.Sums.{clamp64, sat_neg, sat_abs}
use Rattle.sums.proofs.saturating_abs.Goals as goal

pub returns-then-a-lt0 : goal.returns-then-a-lt0
unfolding sat_abs sat_neg clamp64
returns-then-a-lt0 c = grind (arith, to_z-of_z)

pub returns-else-a-lt0 : goal.returns-else-a-lt0
unfolding sat_abs clamp64
returns-else-a-lt0 c = grind (arith, to_z-of_z)
