-- The invariant: the low words of the accounts before the place, and how far their equities are from 0.
use Rattle.house.specs.Places.{group_in}
use Rattle.house.proofs.LowAdding.{LowAdding}
use Rattle.house.proofs.low.sum_low_part.Given as goal

abbrev pub invariant-loop-a : goal.invariant-loop-a
invariant-loop-a l = LowAdding (group_in l.n l.marks l.equities l.p) l.initial.lo l.lo l.first l.gain l.spread l.a
