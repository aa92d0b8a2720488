-- The plan so far, with the orders for the targets that are left added to it, is the plan with all of them.
use Prim.Native.Nat.{◌-◌}
use mathlib.Core.Path.{◌≡◌}
use Rattle.table.specs.Inner.Places.{shorter}
use lib.ListN.{length, take}
use Rattle.table.specs.Inner.Keyed.{Rising}
use Rattle.call_lists.specs.Lists.{price_of}
use Rattle.admission.specs.Inner.Columns.{plan_cols, counted_plan, from}
use Rattle.plan.specs.Inner.Adding.{added_all_to, target_at, targets_at}
use Rattle.plan.proofs.target.plan_targets.Given as goal

abbrev pub invariant-loop-i : goal.invariant-loop-i
invariant-loop-i l =
    Rising l.symbols → Rising (take l.n l.key) → added_all_to l.s
    (from (target_at l.s l.equity (price_of l.symbols l.prices) (take l.n l.key) l.held l.targets l.weights) (length l.yielded) (shorter (length l.targets) (length l.weights) - length l.yielded))
    (counted_plan l.count (plan_cols l.symbol l.quantity l.price l.drift))
    ≡ added_all_to l.s (targets_at l.s l.equity (price_of l.symbols l.prices) (take l.n l.key) l.held l.targets l.weights)
    (counted_plan l.m (plan_cols l.initial.symbol l.initial.quantity l.initial.price l.initial.drift))
