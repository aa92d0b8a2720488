-- The lesser of commission and ceiling, where there is one: that there is none is told by the ceiling's bits.
use Rattle.std.proofs.Common.{arith, to_z-of_z}
use Rattle.position.proofs.Counts.{zero_bits}
use Rattle.cost_model.specs.Costs.{at_most}
use Rattle.cost_model.proofs.at_most.Goals as goal

pub returns-then-ceiling-eq0 : goal.returns-then-ceiling-eq0
unfolding at_most
returns-then-ceiling-eq0 c =
    let zero = zero_bits c.args.ceiling c.ranges.ceiling in
    grind (arith, to_z-of_z)

pub returns-else-ceiling-eq0 : goal.returns-else-ceiling-eq0
unfolding at_most
returns-else-ceiling-eq0 c =
    let zero = zero_bits c.args.ceiling c.ranges.ceiling in
    grind (arith, to_z-of_z)
