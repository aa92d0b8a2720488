-- Where the symbols ascend the search gives the place that the definition has, and the price there is the listed one.
use mir.Syntax.{w64}
use mir.Val.{SFits}
use mir.Facts.{to_z-of_z}
use borrow.Author.Rules.{rules}
use Rattle.call_lists.proofs.Prices.{quote_at, quote_absent}
use Rattle.call_lists.proofs.lookup.quote.Goals as goal

pub returns-in-At : goal.returns-in-At
returns-in-At c =
    let a = c.args in
    let f : SFits w64 c.price_at.result = search rules in
    record { settled = λ r. simp (to_z-of_z f) (simp c.price_at.ensures (quote_at a.symbols.now a.prices.now a.symbol _ c.find.ensures c.in-At.i c.in-At.is r)) }

pub returns-in-Absent : goal.returns-in-Absent
returns-in-Absent c =
    let a = c.args in
    record { settled = quote_absent a.symbols.now a.prices.now a.symbol _ c.find.ensures c.in-Absent.i c.in-Absent.is }
