-- By the sign of the cash afterwards.
use mathlib.Core.Path.{sym, ◌∙◌}
use mir.Syntax.{w64}
use mir.Val.{SFits}
use mir.Facts.{to_z-of_z}
use Rattle.fills.proofs.Deals.{sold_skips, sold_fills}
use borrow.Author.Rules.{rules}
use Rattle.fills.proofs.deal.sold.Goals as goal

pub returns-then-d-lt0 : goal.returns-then-d-lt0
returns-then-d-lt0 c =
    let a = c.args in
    let after : SFits w64 c.dealt-d.result.cash_after = search rules in
    let ed = simp (to_z-of_z c.ranges.price, to_z-of_z c.ranges.cash) at c.dealt-d.ensures in
    let h = simp (to_z-of_z after) at c.if-d-lt0.true in
    (simp (to_z-of_z c.ranges.price, to_z-of_z c.ranges.cash) at c.no_deal.ensures) ∙ sym (sold_skips a.t a.quantity.0 a.price a.cash c.dealt-d.result ed h)

pub returns : goal.returns
returns c =
    let a = c.args in
    let after : SFits w64 c.dealt-d.result.cash_after = search rules in
    let ed = simp (to_z-of_z c.ranges.price, to_z-of_z c.ranges.cash) at c.dealt-d.ensures in
    let h = simp (to_z-of_z after) at c.if-d-lt0.false in
    sym (sold_fills a.t a.quantity.0 a.price a.cash c.dealt-d.result ed h)
