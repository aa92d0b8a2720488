-- The columns were zeros; a list that is not whole gives none.
use mathlib.Core.Path.{sym, ap, ◌∙◌}
use lib.Ieee.{Float, binary64, of_bits}
use mathlib.Core.List.{[]}
use Rattle.table.specs.Keyed.{pick}
use Rattle.list_bytes.specs.Entries.{whole_list}
use Rattle.list_bytes.specs.Lists.{symbols_in, weights_in}
use Rattle.list_bytes.specs.Inner.Lists.{EntryColumns, targets_into, targets_of}
use Rattle.list_bytes.proofs.Columns.{padded_is}
use Rattle.list_bytes.proofs.target.read_targets.Goals as goal

pub returns-then-not-is_whole : goal.returns-then-not-is_whole
unfolding targets_of
returns-then-not-is_whole c = simp (sym c.is_whole.ensures ∙ c.if-not-is_whole.true)

pub returns : goal.returns
unfolding targets_into targets_of
returns c =
    let e = c.targets_into-count.ensures in
    let b = c.args.bytes.now in
    let w = sym c.is_whole.ensures ∙ c.if-not-is_whole.false in
    let s = ap (λ (t : EntryColumns Float). t.symbol) e ∙ padded_is 64 0 (pick (whole_list 64 b) (symbols_in b) []) in
    let v = ap (λ (t : EntryColumns Float). t.value) e ∙ padded_is 64 (of_bits binary64 0) (pick (whole_list 64 b) (weights_in b) []) in
    simp (ap (λ (t : EntryColumns Float). t.count) e, s, v, w)
