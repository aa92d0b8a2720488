-- What was found before the place, and the rest, give what the whole list gives.
use Rattle.doubles.proofs.Finite.{Looking}
use Rattle.doubles.proofs.all_finite.Given as goal

abbrev pub invariant-loop-x : goal.invariant-loop-x
invariant-loop-x l = Looking l.xs l.finite l.x-index
