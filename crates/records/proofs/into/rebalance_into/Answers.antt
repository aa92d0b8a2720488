-- The call on the first places of two arrays of zeros, and what it filed there stored into the run.
use mathlib.Core.Path.{ap, ◌∙◌}
use native.Mathlib.Omega.{arith}
use lib.IntN.{pos}
use lib.ListN.{length, replicate}
use Rattle.portfolio.specs.Rebalance.{rebalanced}
use Rattle.portfolio.proofs.Rooms.{rebalance-room}
use Rattle.records.proofs.Writing.{all_is_handed}
use Rattle.records.proofs.into.rebalance_into.Goals as goal

pub returns : goal.returns
returns c =
    let x = c.args in
    let t = c.rebalance_simple-traded in
    let after = rebalanced x.a x.targets.now x.weights.now x.symbols.now x.prices.now x.period x.kind in
    all_is_handed after c.min-places.result (replicate 256 0) t.new.words (replicate 512 (pos 0)) t.new.ints x.out.now c.collect.new.out t.result
    (omega arith) (omega arith) t.auto.words (omega arith)
    (ap after c.min-places.ensures ∙ rebalance-room x.a x.targets.now x.weights.now x.symbols.now x.prices.now x.period x.kind (length x.out.now))
    t.ensures c.collect.ensures
