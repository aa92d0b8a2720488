-- The columns were zeros; a list that is not whole gives none.
use mathlib.Core.Path.{sym, ap, ◌∙◌}
use lib.IntN.{ℤ, pos}
use mathlib.Core.List.{[]}
use Rattle.table.specs.Keyed.{pick}
use Rattle.list_bytes.specs.Entries.{whole_list}
use Rattle.list_bytes.specs.Lists.{symbols_in, prices_in}
use Rattle.list_bytes.specs.Inner.Lists.{EntryColumns, prices_into, prices_of}
use Rattle.list_bytes.proofs.Columns.{padded_is}
use Rattle.list_bytes.proofs.price.read_prices.Goals as goal

pub returns-then-not-is_whole : goal.returns-then-not-is_whole
unfolding prices_of
returns-then-not-is_whole c = simp (sym c.is_whole.ensures ∙ c.if-not-is_whole.true)

pub returns : goal.returns
unfolding prices_into prices_of
returns c =
    let e = c.prices_into-count.ensures in
    let b = c.args.bytes.now in
    let w = sym c.is_whole.ensures ∙ c.if-not-is_whole.false in
    let s = ap (λ (t : EntryColumns ℤ). t.symbol) e ∙ padded_is 128 0 (pick (whole_list 128 b) (symbols_in b) []) in
    let v = ap (λ (t : EntryColumns ℤ). t.value) e ∙ padded_is 128 (pos 0) (pick (whole_list 128 b) (prices_in b) []) in
    simp (ap (λ (t : EntryColumns ℤ). t.count) e, s, v, w)
