-- The two tests: that there is no ceiling is told by its bits.
use Rattle.std.proofs.Common.{arith, to_z-of_z}
use Rattle.position.proofs.Counts.{zero_bits}
use Rattle.cost_model.specs.Costs.{good_ceiling}
use Rattle.cost_model.proofs.good_ceiling.Goals as goal

pub returns-then-ceiling-eq0 : goal.returns-then-ceiling-eq0
unfolding good_ceiling
returns-then-ceiling-eq0 c =
    let zero = zero_bits c.args.ceiling c.ranges.ceiling in
    grind (arith, to_z-of_z)

pub returns-else-ceiling-eq0 : goal.returns-else-ceiling-eq0
unfolding good_ceiling
returns-else-ceiling-eq0 c =
    let zero = zero_bits c.args.ceiling c.ranges.ceiling in
    grind (arith, to_z-of_z)
