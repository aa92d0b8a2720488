-- A number is below zero exactly where it is not `non_neg`.
use Rattle.std.proofs.Common.{arith, to_z-of_z}
use mathlib.Core.Bool.{xor}
use Rattle.sums.proofs.opposite.Goals as goal

pub returns : goal.returns
unfolding xor
returns c = grind (arith, to_z-of_z)
