-- The prices as listed, or the sorted ones that serve for them.
use mathlib.Core.Path.{◌∙◌, sym}
use mathlib.Core.List.{[]}
use Rattle.table.proofs.Keyed.{ascending_rises}
use Rattle.call_lists.proofs.Checks.{done_accepted}
use Rattle.call_lists.proofs.Sorted.{sorted_usable}
use Rattle.queries.proofs.price.prices_of.Goals as goal

pub returns-then-is_ascending : goal.returns-then-is_ascending
returns-then-is_ascending c = c.looked_up.ensures.settled (ascending_rises c.args.symbols.now (sym c.is_ascending.ensures ∙ c.if-is_ascending.true))

pub slice_bounds-keys-end : goal.slice_bounds-keys-end
slice_bounds-keys-end c = (sorted_usable (done_accepted [] [] c.args.symbols.now c.args.prices.now c.requires.1) _ _ _ c.sort_prices-m.ensures).keys_room

pub slice_bounds-looked_up-end : goal.slice_bounds-looked_up-end
slice_bounds-looked_up-end c = (sorted_usable (done_accepted [] [] c.args.symbols.now c.args.prices.now c.requires.1) _ _ _ c.sort_prices-m.ensures).keys_lent

pub slice_bounds-values-end : goal.slice_bounds-values-end
slice_bounds-values-end c = (sorted_usable (done_accepted [] [] c.args.symbols.now c.args.prices.now c.requires.1) _ _ _ c.sort_prices-m.ensures).values_room

pub slice_bounds-looked_up-end-2 : goal.slice_bounds-looked_up-end-2
slice_bounds-looked_up-end-2 c = (sorted_usable (done_accepted [] [] c.args.symbols.now c.args.prices.now c.requires.1) _ _ _ c.sort_prices-m.ensures).values_lent

pub returns : goal.returns
returns c =
    let v = sorted_usable (done_accepted [] [] c.args.symbols.now c.args.prices.now c.requires.1) _ _ _ c.sort_prices-m.ensures in
    λ i h. c.looked_up-2.ensures.settled v.rising i h ∙ v.price _
