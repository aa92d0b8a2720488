-- The three tests in turn.
use mathlib.Core.Path.{sym, ◌∙◌}
use borrow.Author.Tests.{lt-leb, le-leb}
use Rattle.std.proofs.lemmas.Bool.{false≢true}
use Rattle.table.specs.Rows.{ordered}
use Rattle.table.proofs.table.Columns.is_ordered.Goals as goal
use Rattle.table.proofs.table.Columns.is_ordered.Goals.{then-n-le64, else-n-le64}

pub returns-then-ascends : goal.returns-then-ascends
unfolding ordered
returns-then-ascends c =
    elim c.if-n-le64.branch [
      | then-n-le64 w ↦ simp (le-leb _ _ w.if-n-le64.true, sym w.ascends.ensures ∙ sym w.value-is ∙ c.if-ascends.true) c.is_unused_zero.ensures
      | else-n-le64 w ↦ absurd (false≢true (sym (lt-leb _ _ w.if-n-le64.false) ∙ sym w.value-is ∙ c.if-ascends.true))
    ]

pub returns-else-ascends : goal.returns-else-ascends
unfolding ordered
returns-else-ascends c =
    elim c.if-n-le64.branch [
      | then-n-le64 w ↦ simp (le-leb _ _ w.if-n-le64.true, sym w.ascends.ensures ∙ sym w.value-is ∙ c.if-ascends.false) c.if-ascends.false
      | else-n-le64 w ↦ simp (lt-leb _ _ w.if-n-le64.false) c.if-ascends.false
    ]
