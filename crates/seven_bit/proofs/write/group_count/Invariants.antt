-- The loop's invariant: the groups of what is left, and those counted, are the number's.
use Rattle.seven_bit.proofs.Writing as W
use Rattle.seven_bit.proofs.write.group_count.Given as goal

abbrev pub invariant-loop-rest : goal.invariant-loop-rest
invariant-loop-rest l = W.Counting l.n l.rest l.count

abbrev pub decreases-loop-rest : goal.decreases-loop-rest
decreases-loop-rest l = l.rest
