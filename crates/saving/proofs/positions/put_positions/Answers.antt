-- The first position left is written, and the rest goes on behind it; with none left all are written.
use borrow.Author.Rules.{rules}
use Rattle.saving.proofs.PositionRuns as R
use Rattle.saving.proofs.positions.put_positions.Goals as goal

pub loop-i-preserved : goal.loop-i-preserved
loop-i-preserved c =
    R.write-next c.loop-i.invariant c.requires.2 (search rules) c.held-position.result (search rules) c.held-position.ensures c.put_position-at.ensures

pub returns : goal.returns
returns c = R.write_done c.loop-i.invariant c.requires.2 (search rules) (search rules)
