-- The sum so far is the worth of the places passed, at the prices of a list that ascends.
use Rattle.std.proofs.Common.{◌≡◌, length}
use Rattle.table.specs.Inner.Keyed.{Rising}
use Rattle.call_lists.specs.Lists.{price_of}
use Rattle.wanted.specs.Inner.Equity.{worth_places}
use Rattle.wanted.proofs.equity.total_worth.Given as goal

abbrev pub invariant-loop-key : goal.invariant-loop-key
invariant-loop-key l =
    Rising l.symbols → l.sum ≡ worth_places (price_of l.symbols l.prices) (length l.yielded) l.symbol l.quantity
