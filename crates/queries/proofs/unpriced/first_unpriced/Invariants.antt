-- The places passed are flat or have a price.
use Prim.Native.Nat.{ℕ}
use mathlib.Core.Path.{◌≡◌}
use lib.IntN.{ℤ}
use lib.ListN.{drop}
use Rattle.table.specs.Rows.{cols, rows}
use Rattle.queries.specs.Queries.{first_unpriced}
use Rattle.queries.specs.Inner.Places.{PositionPrices}
use Rattle.queries.proofs.unpriced.first_unpriced.Given as goal

abbrev pub invariant-loop-i : goal.invariant-loop-i
invariant-loop-i l =
    let ps = rows l.n l.columns in
    (listed : ℕ → ℤ) → PositionPrices listed ps l.price → first_unpriced listed (drop l.i ps) ≡ first_unpriced listed ps
