-- The invariant: the sum of the changes before the place, which are numbers of an i64.
use Rattle.std.proofs.Common.{ℕ, ◌<◌, get_or, pos, w64, SFits}
use Rattle.house.specs.Inner.Raised.{raised}
use Rattle.house.proofs.Raised.{Holds}
use Rattle.house.proofs.total.sum_group.Given as goal

abbrev pub invariant-loop-p : goal.invariant-loop-p
invariant-loop-p l = record {
  known : (i : ℕ) → i < l.p → SFits w64 (get_or l.gains i (pos 0));
  sum : Holds l.m (λ i. raised (get_or l.gains i (pos 0))) l.p l.sum;
}
