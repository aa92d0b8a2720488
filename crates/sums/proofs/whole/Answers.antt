-- The quotient of the magnitude, with the sign. It fits, so the clamp leaves it.
use Rattle.std.proofs.Common.{arith, to_z-of_z}
use Rattle.sums.specs.Sums.{clamp64, signed}
use Rattle.sums.specs.Wide.{value_of}
use Rattle.sums.proofs.whole.Goals as goal

pub returns : goal.returns
unfolding value_of clamp64 signed
returns c = grind (arith, to_z-of_z, c.clamped.ensures, c.scale_word.ensures, c.unsigned_abs.ensures)
