-- The invariants: the low words of the parts before the place, and how far their equities are from 0; then the changes of the accounts before the place.
use Rattle.std.proofs.Common.{◌≡◌, pos}
use Rattle.house.specs.Places.{group_in, column}
use Rattle.house.specs.Inner.Raised.{lowered}
use Rattle.house.specs.Inner.Low.{step_word, low_sum}
use Rattle.house.proofs.LowAdding.{LowSumming}
use Rattle.house.proofs.low.sum_low.Given as goal

abbrev pub invariant-loop-p : goal.invariant-loop-p
invariant-loop-p l = LowSumming l.n l.m (group_in l.n l.marks l.equities) l.lo l.firsts l.gains l.spread l.p

abbrev pub invariant-loop-a : goal.invariant-loop-a
invariant-loop-a l = l.changes ≡ column 32 (pos 0) l.a (λ a. lowered (low_sum l.m (λ p. step_word (group_in l.n l.marks l.equities p a))))
