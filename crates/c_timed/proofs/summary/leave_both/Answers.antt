-- Figures and weights, or nothing of a refusal.
use mathlib.Core.Path.{sym, ◌∙◌}
use mir.Syntax.{w64}
use mir.Val.{SFits}
use mir.Facts.{to_z-of_z}
use borrow.Author.Rules.{rules}
use Rattle.c_timed.specs.Made.{left_both}
use Rattle.c_timed.proofs.summary.leave_both.Goals as goal

pub returns-then-not-is_done : goal.returns-then-not-is_done
unfolding left_both
returns-then-not-is_done c = simp (sym c.is_done.ensures ∙ c.if-not-is_done.true, c.word.ensures)

pub returns : goal.returns
unfolding left_both
returns c =
    let s = c.args.s in
    let d = sym c.is_done.ensures ∙ c.if-not-is_done.false in
    let cash : SFits w64 s.cash = search rules in
    let equity : SFits w64 s.equity = search rules in
    let realized : SFits w64 s.total_realized_pnl = search rules in
    simp (d, c.write_figures.ensures, to_z-of_z cash, to_z-of_z equity, to_z-of_z realized, c.write_weights.ensures, c.word-2.ensures)
