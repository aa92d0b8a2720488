-- By the lengths of the places, then by the answer.
use Rattle.std.proofs.lemmas.Result.{err_from_is_err_and}
use mathlib.Core.Path.{ap, ◌∙◌}
use Rattle.std.specs.Prelude.{Err}
use mir.Syntax.{w64}
use mir.Val.{SFits}
use mir.Facts.{to_z-of_z}
use borrow.Author.Rules.{rules}
use Rattle.c_fill.specs.Single.{Slots, slots}
use Rattle.c_fill.specs.Inner.Single.{seen_by, sight_of}
use Rattle.c_fill.proofs.Alone.{short-money, short-tallies, refused-as_seen, filled-as_seen}
use Rattle.c_fill.proofs.fill_checked.Goals.{then-money-ne6-via-then-money-ne6, then-money-ne6-via-else-money-ne6+then-tallies-ne2}
use Rattle.c_fill.proofs.fill_checked.Goals as goal

pub returns-then-money-ne6 : goal.returns-then-money-ne6
returns-then-money-ne6 c =
    let x = c.args in
    let l : Slots = slots x.money.now x.tallies.now x.words.now x.ints.now in
    elim c.then-money-ne6.branch [
      | then-money-ne6-via-then-money-ne6 w ↦ short-money x.a l w.if-money-ne6.true
      | then-money-ne6-via-else-money-ne6+then-tallies-ne2 w ↦ short-tallies x.a l w.if-money-ne6.false w.if-tallies-ne2.true
    ]

pub returns-in_err-check : goal.returns-in_err-check
returns-in_err-check c =
    let x = c.args in
    let l : Slots = slots x.money.now x.tallies.now x.words.now x.ints.now in
    let cash : SFits w64 c.book_of-b.result.cash = search rules in
    let r = simp (to_z-of_z cash) at c.in_err-check.ensures in
    let e = simp (c.book_of-b.ensures, c.position_in-p.ensures) at r in
    let p = err_from_is_err_and c.from_residual.result c.from_residual.ensures.1 in
    ap sight_of p.1 ∙ refused-as_seen x.a l c.if-money-ne6.false c.if-tallies-ne2.false p.0 (ap Err p.2 ∙ e)

pub returns : goal.returns
returns c =
    let x = c.args in
    let l : Slots = slots x.money.now x.tallies.now x.words.now x.ints.now in
    let cash : SFits w64 c.book_of-b.result.cash = search rules in
    let r = simp (to_z-of_z cash) at c.in_ok-check.ensures in
    let e = simp (c.book_of-b.ensures, c.position_in-p.ensures) at r in
    let v = simp (c.book_of-b.ensures, c.position_in-p.ensures) at c.fill_alone.ensures in
    filled-as_seen x.a l c.if-money-ne6.false c.if-tallies-ne2.false (seen_by c.fill_alone.result) c.in_ok-check.field-0 e v
