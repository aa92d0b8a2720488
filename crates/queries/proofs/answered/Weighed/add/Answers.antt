-- A flat position adds nothing; an open one its symbol and weight at the next place.
use mathlib.Core.Path.{sym, ap, ◌∙◌}
use mir.Syntax.{w64}
use mir.Val.{SFits}
use mir.Facts.{to_z-of_z}
use borrow.Author.Rules.{rules}
use Rattle.doubles.specs.Doubles.{of_i64}
use Rattle.queries.specs.Inner.Places.{added_weight}
use Rattle.queries.proofs.answered.Weighed.add.Goals as goal

pub returns-then-is_zero : goal.returns-then-is_zero
unfolding added_weight
returns-then-is_zero c = let e = sym c.is_zero.ensures ∙ c.if-is_zero.true in rw e

pub returns : goal.returns
unfolding added_weight
returns c =
    let e = sym c.is_zero.ensures ∙ c.if-is_zero.false in
    let fv : SFits w64 c.value-value.result = search rules in
    let fq : SFits w64 c.raw.result = search rules in
    let ev = simp (to_z-of_z fq ∙ c.raw.ensures, to_z-of_z c.ranges.price) at c.value-value.ensures in
    let ef = (simp (to_z-of_z fv) at c.i64_to_f64.ensures) ∙ ap of_i64 ev in
    rw e (simp ef)
