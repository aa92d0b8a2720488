-- The places passed have their prices.
use mathlib.Core.Path.{◌≡◌}
use lib.ListN.{length}
use Rattle.table.specs.Inner.Keyed.{Rising}
use Rattle.call_lists.specs.Lists.{price_of}
use Rattle.queries.specs.Inner.Places.{PricesOf}
use Rattle.queries.proofs.price.looked_up.Given as goal

abbrev pub invariant-loop-i : goal.invariant-loop-i
invariant-loop-i l = (length l.price ≡ 64) × (Rising l.symbols → PricesOf (price_of l.symbols l.prices) l.i l.symbol l.price)
