-- Each answers the same, whatever the one before it left in the lent slices.
use lib.ListN.{length}
use mathlib.Core.Path.{◌≡◌}
use Rattle.account.specs.Calls.{answered}
use Rattle.c_timed.specs.Calls.{rebalance_call}
use Rattle.c_timed.proofs.rebalancing.rebalances.Given as goal

abbrev pub invariant-loop : goal.invariant-loop
invariant-loop l = (length l.words ≡ 256) × (length l.ints ≡ 512) × (answered l.last.answer l.last.account ≡ rebalance_call l.a l.targets l.weights l.symbols l.prices)
