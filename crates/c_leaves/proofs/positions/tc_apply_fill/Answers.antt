-- The numbers are taken as a position, filled, and put back; each signed number is read back from its bits.
use borrow.Author.Rules.{rules}
use mathlib.Core.Path.{◌≡◌, ◌∙◌, ap}
use lib.IntN.{pos}
use lib.ListN.{length, get_or}
use mir.Syntax.{w64}
use mir.Val.{SFits}
use mir.Facts.{to_z-of_z}
use Rattle.answer.specs.Places.{word_of}
use Rattle.position.specs.declared.position.Filled.{Filled}
use Rattle.position.specs.Rows.{numbers_of}
use Rattle.position.specs.Fills.{apply_fill}
use borrow.Author.Tests.{eq-eqb, ne_eqb}
use Rattle.c_leaves.specs.Lent.{position_from, answer_to_fill, after_fill}
use Rattle.c_leaves.proofs.positions.tc_apply_fill.Goals as goal

pub returns-then-numbers-ne4 : goal.returns-then-numbers-ne4
unfolding answer_to_fill after_fill
returns-then-numbers-ne4 c =
    let no = ne_eqb (length c.args.numbers.now) 4 c.if-numbers-ne4.true in
    (c.word.ensures ∙ simp no, simp no)

pub returns : goal.returns
unfolding answer_to_fill after_fill
returns c =
    let yes = eq-eqb (length c.args.numbers.now) 4 c.if-numbers-ne4.false in
    let ns = c.args.numbers.now in
    let held : SFits w64 (get_or ns 0 (pos 0)) = search rules in
    let average : SFits w64 (get_or ns 1 (pos 0)) = search rules in
    let realized : SFits w64 (get_or ns 2 (pos 0)) = search rules in
    let total : SFits w64 (get_or ns 3 (pos 0)) = search rules in
    let f : c.apply_fill-filled.result ≡ apply_fill (position_from c.args.symbol ns) c.args.quantity c.args.price =
    simp (
      c.position_of-position.ensures,
      c.from_raw.ensures,
      to_z-of_z held,
      to_z-of_z average,
      to_z-of_z realized,
      to_z-of_z total,
      to_z-of_z c.ranges.quantity,
      to_z-of_z c.ranges.price,
    ) at c.apply_fill-filled.ensures in
    (c.word-2.ensures ∙ ap (λ (x : Filled). word_of x.answer) f ∙ simp yes, c.put.ensures ∙ ap (λ (x : Filled). numbers_of x.position) f ∙ simp yes)
