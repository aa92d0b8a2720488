-- The invariant: the sums of the parts before the place, and the accounts' totals over them.
use Rattle.house.specs.Places.{group_in}
use Rattle.house.proofs.Summing.{Summing}
use Rattle.house.proofs.part.sum_exactly.Given as goal

abbrev pub invariant-loop-p : goal.invariant-loop-p
invariant-loop-p l = Summing l.n l.m (group_in l.n l.marks l.equities) l.totals l.firsts l.gains l.p
