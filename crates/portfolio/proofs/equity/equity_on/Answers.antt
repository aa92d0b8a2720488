-- The prices as listed, or the sorted ones that serve for them.
use mathlib.Core.Path.{◌∙◌, sym, ap}
use mathlib.Core.List.{[]}
use mir.Facts.{to_z-of_z}
use mir.Syntax.{w64}
use mir.Val.{SFits}
use borrow.Author.Rules.{rules}
use Rattle.sums.specs.Sums.{sat_add}
use Rattle.table.proofs.Keyed.{ascending_rises}
use Rattle.call_lists.proofs.Checks.{done_accepted}
use Rattle.call_lists.proofs.Sorted.{sorted_usable}
use Rattle.portfolio.proofs.Worths.{worth-same}
use Rattle.portfolio.proofs.equity.equity_on.Goals as goal

pub returns-then-is_ascending : goal.returns-then-is_ascending
returns-then-is_ascending c =
    let r = ascending_rises c.args.symbols.now (sym c.is_ascending.ensures ∙ c.if-is_ascending.true) in
    let fa : SFits w64 c.saturating_add.result = search rules in
    let fw : SFits w64 c.total_worth.result = search rules in
    let e = simp (to_z-of_z fw, to_z-of_z c.ranges.cash) at c.saturating_add.ensures in
    simp (to_z-of_z fa) (e ∙ ap (sat_add c.args.cash) (c.total_worth.ensures.settled r))

pub slice_bounds-keys-end : goal.slice_bounds-keys-end
slice_bounds-keys-end c = (sorted_usable (done_accepted [] [] c.args.symbols.now c.args.prices.now c.requires) _ _ _ c.sort_prices-m.ensures).keys_room

pub slice_bounds-total_worth-end : goal.slice_bounds-total_worth-end
slice_bounds-total_worth-end c = (sorted_usable (done_accepted [] [] c.args.symbols.now c.args.prices.now c.requires) _ _ _ c.sort_prices-m.ensures).keys_lent

pub slice_bounds-values-end : goal.slice_bounds-values-end
slice_bounds-values-end c = (sorted_usable (done_accepted [] [] c.args.symbols.now c.args.prices.now c.requires) _ _ _ c.sort_prices-m.ensures).values_room

pub slice_bounds-total_worth-end-2 : goal.slice_bounds-total_worth-end-2
slice_bounds-total_worth-end-2 c = (sorted_usable (done_accepted [] [] c.args.symbols.now c.args.prices.now c.requires) _ _ _ c.sort_prices-m.ensures).values_lent

pub returns : goal.returns
returns c =
    let v = sorted_usable (done_accepted [] [] c.args.symbols.now c.args.prices.now c.requires) _ _ _ c.sort_prices-m.ensures in
    let fa : SFits w64 c.saturating_add-2.result = search rules in
    let fw : SFits w64 c.total_worth-2.result = search rules in
    let e = simp (to_z-of_z fw, to_z-of_z c.ranges.cash) at c.saturating_add-2.ensures in
    simp (to_z-of_z fa) (e ∙ ap (sat_add c.args.cash) (c.total_worth-2.ensures.settled v.rising ∙ worth-same _ _ v.price _ _ _))
