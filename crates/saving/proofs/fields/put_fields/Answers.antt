-- The first field left is written, and the rest goes on behind it; with none left all are written.
use borrow.Author.Rules.{rules}
use Rattle.saving.proofs.FieldRuns as F
use Rattle.saving.proofs.fields.put_fields.Goals as goal

pub loop-i-preserved : goal.loop-i-preserved
loop-i-preserved c =
    F.write-next c.loop-i.invariant (search rules) c.put_field-at.ensures

pub returns : goal.returns
returns c = F.write_done c.loop-i.invariant (search rules)
