-- By whether there is a record.
use mathlib.Core.Path.{refl, ◌∙◌}
use mir.Syntax.{w64}
use mir.Val.{SFits}
use mir.Facts.{to_z-of_z}
use borrow.Author.Rules.{rules}
use Rattle.fills.proofs.Storing.{keeps_none, keeps_one}
use Rattle.fills.proofs.fill.keep.Goals as goal

pub returns-in-None : goal.returns-in-None
returns-in-None c = (refl, keeps_none c.args.f _ c.in-None.is)

pub returns-in-Some : goal.returns-in-Some
returns-in-Some c =
    let cash : SFits w64 c.args.f.book.cash = search rules in
    let shortfall : SFits w64 c.args.f.book.shortfall = search rules in
    (simp (to_z-of_z cash, to_z-of_z shortfall), c.store.ensures ∙ keeps_one c.args.f _ c.in-Some.r c.in-Some.is)
