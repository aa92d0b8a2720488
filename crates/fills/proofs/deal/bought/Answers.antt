-- By whether the need fits cash.
use mathlib.Core.Path.{◌∙◌}
use mir.Syntax.{w64}
use mir.Val.{SFits}
use mir.Facts.{to_z-of_z}
use Rattle.fills.specs.Inner.Deal.{buy_deal}
use borrow.Author.Rules.{rules}
use Rattle.fills.proofs.deal.bought.Goals as goal

pub returns-then-need-cash : goal.returns-then-need-cash
unfolding buy_deal
returns-then-need-cash c =
    let fn : SFits w64 c.buy_cash_required-need.result = search rules in
    let en = simp (to_z-of_z c.ranges.price) at c.buy_cash_required-need.ensures in
    let bn = to_z-of_z fn ∙ en in
    let h = simp (bn, to_z-of_z c.ranges.cash) at c.if-need-cash.true in
    rw h (simp (to_z-of_z c.ranges.price, to_z-of_z c.ranges.cash) at c.dealt.ensures)

pub returns : goal.returns
unfolding buy_deal
returns c =
    let fn : SFits w64 c.buy_cash_required-need.result = search rules in
    let en = simp (to_z-of_z c.ranges.price) at c.buy_cash_required-need.ensures in
    let bn = to_z-of_z fn ∙ en in
    let h = simp (bn, to_z-of_z c.ranges.cash) at c.if-need-cash.false in
    let step : SFits w64 c.args.t.quantity_step = search rules in
    let ea = simp (to_z-of_z c.ranges.price, to_z-of_z c.ranges.cash, to_z-of_z step) at c.largest_affordable_buy_qty-got.ensures in
    rw h (simp (to_z-of_z c.ranges.price, to_z-of_z c.ranges.cash, ea) at c.trimmed_to.ensures)
