-- The loop's invariant: the positions left, read from here on, make of the columns what the whole run makes of them.
use Rattle.loading.proofs.Entries as E
use Rattle.loading.proofs.positions.positions_at.Given as goal

abbrev pub invariant-loop-i : goal.invariant-loop-i
invariant-loop-i l =
    E.Filing l.bytes l.form l.place l.count
    l.initial.columns
    l.columns l.i l.at
