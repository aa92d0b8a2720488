-- A refusal leaves all as it was; else the rebalance at the prices as listed, or at the sorted ones that serve for them.
use borrow.Author.Rules.{rules}
use mathlib.Core.Path.{sym, ap, ◌∙◌, fun_ext}
use Rattle.table.specs.Rows.{Full, cols}
use Rattle.table.proofs.Keyed.{ascending_rises}
use Rattle.call_lists.proofs.Sorted.{sorted_usable}
use Rattle.account.specs.Inner.Account.{account_with}
use Rattle.portfolio.specs.Rebalance.{admitted_plan, after_rebalance, rebalanced}
use Rattle.portfolio.specs.Trades.{filed}
use Rattle.portfolio.proofs.Refusals.{full, no_error, rebalance-done, rebalance_ready}
use Rattle.portfolio.proofs.rebalance.rebalance_on.Goals as goal

pub returns-then-is_ascending : goal.returns-then-is_ascending
unfolding rebalanced
returns-then-is_ascending c =
    let d = no_error _ (simp c.places-room.ensures at c.in_default.ensures) in
    let r = ascending_rises c.args.symbols.now (sym c.if-is_ascending.ensures) in
    rw d (c.plan_and_fill.ensures (rebalance_ready _ _ _ _ _ _ (rebalance-done _ _ _ _ _ _ d) c.whole_columns.ensures _ r))

pub slice_bounds-keys-end : goal.slice_bounds-keys-end
slice_bounds-keys-end c = (sorted_usable (rebalance-done _ _ _ _ _ _ (no_error _ c.in_default.ensures)).lists _ _ _ c.sort_prices-m.ensures).keys_room

pub slice_bounds-plan_and_fill-end : goal.slice_bounds-plan_and_fill-end
slice_bounds-plan_and_fill-end c = (sorted_usable (rebalance-done _ _ _ _ _ _ (no_error _ c.in_default.ensures)).lists _ _ _ c.sort_prices-m.ensures).keys_lent

pub slice_bounds-values-end : goal.slice_bounds-values-end
slice_bounds-values-end c = (sorted_usable (rebalance-done _ _ _ _ _ _ (no_error _ c.in_default.ensures)).lists _ _ _ c.sort_prices-m.ensures).values_room

pub slice_bounds-plan_and_fill-end-2 : goal.slice_bounds-plan_and_fill-end-2
slice_bounds-plan_and_fill-end-2 c = (sorted_usable (rebalance-done _ _ _ _ _ _ (no_error _ c.in_default.ensures)).lists _ _ _ c.sort_prices-m.ensures).values_lent

pub returns : goal.returns
unfolding rebalanced
returns c =
    let x = c.args in
    let a = account_with x.h x.columns.now in
    let d = no_error _ (simp c.places-room.ensures at c.in_default.ensures) in
    let r = rebalance-done _ _ _ _ _ _ d in
    let v = sorted_usable r.lists _ _ _ c.sort_prices-m.ensures in
    rw d
    (c.plan_and_fill-2.ensures (rebalance_ready _ _ _ _ _ _ r c.whole_columns.ensures _ v.rising)
    ∙ ap (λ price. filed (after_rebalance a (admitted_plan a x.targets.now x.weights.now price) x.period x.kind) x.words.now x.ints.now) (fun_ext v.price))
