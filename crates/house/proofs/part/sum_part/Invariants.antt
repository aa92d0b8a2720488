-- The invariant: the sums of the accounts before the place, and their totals.
use Rattle.house.specs.Places.{group_in}
use Rattle.house.proofs.Adding.{Adding}
use Rattle.house.proofs.part.sum_part.Given as goal

abbrev pub invariant-loop-a : goal.invariant-loop-a
invariant-loop-a l = Adding l.n l.p (group_in l.n l.marks l.equities) l.initial.totals l.totals l.first l.gain l.a
