-- The plan so far, with the closes that are left added to it, is the plan with all of them.
use Prim.Native.Nat.{◌-◌}
use mathlib.Core.Path.{◌≡◌}
use lib.ListN.{length}
use Rattle.table.specs.Inner.Keyed.{Rising}
use Rattle.call_lists.specs.Lists.{price_of}
use Rattle.admission.specs.Inner.Columns.{plan_cols, counted_plan, from}
use Rattle.plan.specs.Inner.Adding.{added_all_to, close_at, closes_at}
use Rattle.plan.proofs.close.plan_closes.Given as goal

abbrev pub invariant-loop-i : goal.invariant-loop-i
invariant-loop-i l =
    Rising l.symbols → added_all_to l.s (from (close_at l.s l.equity (price_of l.symbols l.prices) l.targets l.key l.held) (length l.yielded) (l.places - length l.yielded))
    (counted_plan l.count (plan_cols l.symbol l.quantity l.price l.drift))
    ≡ added_all_to l.s (closes_at l.s l.equity (price_of l.symbols l.prices) l.targets l.n l.key l.held)
    (counted_plan l.m (plan_cols l.initial.symbol l.initial.quantity l.initial.price l.initial.drift))
