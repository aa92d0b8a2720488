-- Those counted so far, and those lacking of the targets that are left, are all.
use Prim.Native.Nat.{◌+◌, ◌≤◌}
use mathlib.Core.Path.{◌≡◌}
use lib.ListN.{length, take, drop}
use Rattle.table.specs.Inner.Keyed.{Rising}
use Rattle.portfolio.specs.Inner.Planned.{lacking}
use Rattle.portfolio.proofs.refusal.count_not_held.Given as goal

abbrev pub invariant-loop-i : goal.invariant-loop-i
invariant-loop-i l =
    (l.i ≤ length l.targets) × (l.count ≤ l.i) × (Rising (take l.n l.key) → l.count + lacking (drop l.i l.targets) (take l.n l.key) ≡ lacking l.targets (take l.n l.key))
