-- The columns hold the weights of the places passed.
use Prim.Native.Nat.{ℕ, ◌≤◌}
use mathlib.Core.Path.{◌≡◌}
use lib.IntN.{ℤ}
use lib.ListN.{take}
use Rattle.table.specs.Rows.{cols, rows}
use Rattle.queries.specs.Queries.{open_ones, weigh}
use Rattle.queries.specs.Answers.{weighed}
use Rattle.queries.specs.Inner.Places.{PositionPrices}
use Rattle.queries.proofs.weight.weigh.Given as goal

abbrev pub invariant-loop-i : goal.invariant-loop-i
invariant-loop-i l =
    let ps = rows l.n l.columns in
    (l.weights.count ≤ l.i)
    × ((listed : ℕ → ℤ) → PositionPrices listed ps l.price → l.weights ≡ weighed (weigh listed l.equity (open_ones (take l.i ps))))
