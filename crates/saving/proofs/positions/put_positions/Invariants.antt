-- The loop's invariant: the positions left, written from here on, make of the bytes what is asked; each took 58 bytes at most.
use Rattle.table.specs.Rows.{cols}
use Rattle.saving.proofs.PositionRuns as R
use Rattle.saving.proofs.positions.put_positions.Given as goal

abbrev pub invariant-loop-i : goal.invariant-loop-i
invariant-loop-i l = R.Writing l.initial.bytes l.place l.n l.columns l.bytes l.at l.i
