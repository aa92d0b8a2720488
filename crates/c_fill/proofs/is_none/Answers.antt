-- The two tests in turn.
use mathlib.Core.Path.{◌∙◌, sym}
use mir.Syntax.{w64}
use mir.Val.{SFits}
use borrow.Author.Rules.{rules}
use Rattle.position.proofs.Counts.{zero_bits}
use Rattle.c_fill.proofs.is_none.Goals as goal

pub returns-then-is_zero : goal.returns-then-is_zero
returns-then-is_zero c =
    let f : SFits w64 c.args.p.realized_pnl = search rules in
    rw (sym c.is_zero.ensures ∙ c.if-is_zero.true) (zero_bits c.args.p.realized_pnl f)
