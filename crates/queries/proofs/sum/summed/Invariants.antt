-- The sums so far, with those of the places that are left, are the sums of all.
use Prim.Native.Nat.{ℕ, ◌+◌, ◌≤◌}
use mathlib.Core.Path.{◌≡◌}
use lib.IntN.{ℤ, pos}
use lib.ListN.{length, drop}
use Rattle.table.specs.Rows.{cols, rows}
use Rattle.wanted.specs.Equity.{worth_from}
use Rattle.queries.specs.Queries.{open_ones, profit_from}
use Rattle.queries.specs.Inner.Places.{PositionPrices}
use Rattle.queries.proofs.sum.summed.Given as goal

abbrev pub invariant-loop-i : goal.invariant-loop-i
invariant-loop-i l =
    let ps = rows l.n l.columns in
    (l.open_count ≤ l.i)
    × ((listed : ℕ → ℤ) → PositionPrices listed ps l.price → worth_from listed l.worth (drop l.i ps) ≡ worth_from listed (pos 0) ps)
    × (l.open_count + length (open_ones (drop l.i ps)) ≡ length (open_ones ps))
    × (profit_from l.profit (drop l.i ps) ≡ profit_from (pos 0) ps)
