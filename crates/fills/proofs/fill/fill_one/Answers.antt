-- Nothing is written where nothing fills; else the deal, the position found and the one posted make the fill.
use mathlib.Core.Path.{refl, sym, ap, ◌∙◌}
use mir.Syntax.{w64}
use mir.Val.{SFits}
use mir.Facts.{to_z-of_z}
use borrow.Author.Rules.{rules}
use Rattle.std.specs.Bool.{then_some}
use Rattle.table.specs.Rows.{cols}
use Rattle.fills.specs.Inner.Runs.{settled_in}
use Rattle.fills.proofs.Filling.{none_filled, one_filled}
use Rattle.fills.proofs.fill.fill_one.Goals as goal

pub returns-then-is_zero : goal.returns-then-is_zero
returns-then-is_zero c s =
    let a = c.args in
    let cash : SFits w64 a.b.cash = search rules in
    let deal = simp (to_z-of_z cash) at c.deal_of-d.ensures in
    let made = simp (to_z-of_z cash) at c.record_of-made.ensures in
    none_filled a.t a.o a.b a.columns.now c.deal_of-d.result deal s _
    (sym c.is_zero.ensures ∙ c.if-is_zero.true) c.counted-c.ensures made refl

pub returns : goal.returns
returns c s =
    let a = c.args in
    let d = c.deal_of-d.result in
    let cash : SFits w64 a.b.cash = search rules in
    let price : SFits w64 d.price = search rules in
    let after : SFits w64 d.cash_after = search rules in
    let deal = simp (to_z-of_z cash) at c.deal_of-d.ensures in
    let made = simp (to_z-of_z cash) at c.record_of-made.ensures in
    let ew = simp (to_z-of_z price) at c.fill-z.ensures in
    let eb = simp (to_z-of_z after) at c.settled_in.ensures in
    one_filled a.t a.o a.b a.columns.now d deal s _
    (sym c.is_zero.ensures ∙ c.if-is_zero.false)
    c.find-f.result c.held-p.result c.fill-z.result c.post-count.result c.place_after.result _ c.find-f.ensures c.held-p.ensures ew c.post-count.ensures
    (eb ∙ ap (settled_in d.cash_after c.post-count.result a.t.recording c.place_after.result) c.counted-c.ensures)
    made (c.then_some.ensures ∙ ap (then_some a.t.recording) made)
