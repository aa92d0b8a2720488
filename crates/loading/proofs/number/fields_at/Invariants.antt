-- The loop's invariant: what is left of the run, over what was stored, is the whole.
use Rattle.loading.proofs.Numbers as N
use Rattle.loading.proofs.number.fields_at.Given as goal

abbrev pub invariant-loop-i : goal.invariant-loop-i
invariant-loop-i l = N.Moving l.bytes l.form l.first l.place l.initial.out l.out l.i l.before l.at
