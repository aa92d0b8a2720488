-- The account's bytes, or nothing of a refusal.
use mathlib.Core.Path.{sym, ◌∙◌}
use Rattle.c_timed.specs.Made.{left}
use Rattle.c_timed.proofs.made.leave.Goals as goal

pub returns-then-not-is_done : goal.returns-then-not-is_done
unfolding left
returns-then-not-is_done c = simp (sym c.is_done.ensures ∙ c.if-not-is_done.true, c.word.ensures)

pub returns : goal.returns
unfolding left
returns c =
    let d = sym c.is_done.ensures ∙ c.if-not-is_done.false in
    simp (d, c.write_account.ensures, c.word-2.ensures)
