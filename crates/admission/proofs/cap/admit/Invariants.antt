-- The orders passed, which are admitted whole, with what is admitted of those that are left, are what is admitted of all.
use Prim.Native.Nat.{ℕ, ◌≤◌, ◌-◌}
use mathlib.Core.Path.{◌≡◌}
use mathlib.Core.List.{List, ◌++◌}
use lib.Ieee.{Float}
use lib.ListN.{length}
use Rattle.admission.specs.Inner.Columns.{plan_cols, order_at, from, plans}
use Rattle.admission.specs.Admission.{admitted_from, admitted}
use Rattle.admission.proofs.cap.admit.Given as goal

abbrev pub invariant-loop-i : goal.invariant-loop-i
invariant-loop-i l =
    (l.i ≤ l.m) × (l.m ≤ 64) × (length l.initial.quantity ≡ 64) × (l.quantity ≡ l.initial.quantity)
    × ((k : List ℕ) (d : List Float)
    → from (order_at (plan_cols k l.initial.quantity l.price d)) 0 l.i ++ admitted_from l.s l.i l.left (from (order_at (plan_cols k l.initial.quantity l.price d)) l.i (l.m - l.i))
    ≡ admitted l.s (plans l.n (plan_cols k l.initial.quantity l.price d)))
