-- The loop's invariant: the fields left, written from here on, make of the bytes what is asked; each took ten bytes at most.
use Rattle.saving.proofs.FieldRuns as F
use Rattle.saving.proofs.fields.put_fields.Given as goal

abbrev pub invariant-loop-i : goal.invariant-loop-i
invariant-loop-i l = F.Writing l.initial.bytes l.place l.first l.values l.bytes l.at l.before l.i
