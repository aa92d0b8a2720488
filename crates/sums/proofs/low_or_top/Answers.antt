-- An upper word of 0 leaves the lower one; any other is past the top.
use Rattle.std.proofs.Common.{arith}
use Rattle.sums.specs.Wide.{value_of}
use Rattle.sums.proofs.low_or_top.Goals as goal

pub returns-then-n-eq0 : goal.returns-then-n-eq0
unfolding value_of
returns-then-n-eq0 c = omega (arith, c.well_formed, c.if-n-eq0.true)

pub returns-else-n-eq0 : goal.returns-else-n-eq0
unfolding value_of
returns-else-n-eq0 c = omega (arith, c.if-n-eq0.false)
