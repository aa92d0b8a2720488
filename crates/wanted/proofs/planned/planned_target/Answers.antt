-- Passed over where it is unpriced; within the band of no quantity; else the gap as shares, at the drift of the gap.
use mathlib.Core.Path.{◌≡◌, sym, ap, ◌∙◌}
use mathlib.Core.Bool.{not}
use borrow.Author.Rules.{rules}
use lib.IntN.{pos}
use mir.Syntax.{w64}
use mir.Val.{SFits}
use mir.Facts.{to_z-of_z}
use Rattle.sizing.specs.Sizing.{sized, drift}
use Rattle.call_lists.proofs.Lists.{below_one}
use Rattle.wanted.specs.Plan.{planned, gap_of, allowed_order, planned_target}
use Rattle.wanted.proofs.Plans.{priced}
use Rattle.wanted.proofs.planned.planned_target.Goals as goal

pub returns-then-price-lt1 : goal.returns-then-price-lt1
unfolding planned_target
returns-then-price-lt1 c =
    let e = below_one c.args.price ∙ ap not (simp (to_z-of_z c.ranges.price) at c.if-price-lt1.true) in
    simp e c.passed_over.ensures

pub returns-then-within_band : goal.returns-then-within_band
unfolding planned_target allowed_order
returns-then-within_band c =
    let w = c.within_band in
    let d = c.drift_bps_of-drift in
    let g = c.gap_of-gap in
    let e = below_one c.args.price ∙ ap not (simp (to_z-of_z c.ranges.price) at c.if-price-lt1.false) in
    let fg : SFits w64 g.result = record { sfits = g.type_inv } in
    let gap = gap_of c.args.equity c.args.held.0 c.args.price c.args.weight in
    let told : d.result ≡ drift gap c.args.equity =
    d.ensures ∙ simp (to_z-of_z fg, to_z-of_z c.ranges.equity) (simp (g.ensures, to_z-of_z c.ranges.price, to_z-of_z c.ranges.equity)) in
    let t = sym w.ensures ∙ c.if-within_band.true in
    let order = allowed_order c.args.s c.args.symbol.0 (sized gap c.args.price c.args.s.quantity_step) c.args.price in
    let none : planned c.args.symbol.0 (pos 0) c.args.price d.result ≡ order d.result = simp t in
    simp (e, to_z-of_z c.ranges.price) (ap (priced c.args.price d.result) c.passed_over-then-within_band.ensures ∙ none ∙ ap order told)

pub returns : goal.returns
unfolding planned_target
returns c =
    let q = c.size_qty-quantity in
    let d = c.drift_bps_of-drift in
    let g = c.gap_of-gap in
    let e = below_one c.args.price ∙ ap not (simp (to_z-of_z c.ranges.price) at c.if-price-lt1.false) in
    let fg : SFits w64 g.result = record { sfits = g.type_inv } in
    let fs : SFits w64 c.args.s.quantity_step = search rules in
    simp e
    (c.allowed_order.ensures
    ∙ simp (q.ensures, d.ensures, to_z-of_z c.ranges.price) (simp (to_z-of_z fg, to_z-of_z c.ranges.equity, to_z-of_z fs) (simp (g.ensures, to_z-of_z c.ranges.price, to_z-of_z c.ranges.equity))))
