-- The weights, or nothing.
use mathlib.Core.Path.{sym, ◌∙◌}
use Rattle.c_queries.specs.Reports.{weights_told}
use Rattle.c_queries.proofs.weighing.put_weights.Goals as goal

pub returns-then-not-is_done : goal.returns-then-not-is_done
unfolding weights_told
returns-then-not-is_done c = simp (sym c.is_done.ensures ∙ c.if-not-is_done.true, c.word.ensures)

pub returns : goal.returns
unfolding weights_told
returns c =
    let d = sym c.is_done.ensures ∙ c.if-not-is_done.false in
    simp (d, c.write_weights.ensures)
