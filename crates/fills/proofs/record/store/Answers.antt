-- By whether there is room in both slices.
use mathlib.Core.Path.{sym}
use Rattle.fills.proofs.Storing.{no_words, no_ints, with_room}
use Rattle.fills.proofs.record.store.Goals.{then-words-at-via-then-words-at, then-words-at-via-else-words-at+then-ints-at}
use Rattle.fills.proofs.record.store.Goals as goal

pub returns-then-words-at : goal.returns-then-words-at
returns-then-words-at c =
    let a = c.args in
    elim c.then-words-at.branch [
      | then-words-at-via-then-words-at w ↦ sym (no_words a.r a.words.now a.ints.now a.at w.if-words-at.true)
      | then-words-at-via-else-words-at+then-ints-at w ↦ sym (no_ints a.r a.words.now a.ints.now a.at w.if-ints-at.true)
    ]

pub returns : goal.returns
returns c =
    simp (c.store_values.ensures, c.store_values-2.ensures, c.words_of.ensures, c.ints_of.ensures) (sym (with_room c.args.r c.args.words.now c.args.ints.now c.args.at c.if-words-at.false c.if-ints-at.false))
