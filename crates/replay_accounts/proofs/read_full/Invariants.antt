-- What is still to be read shrinks with each read, and no more is read than there is room for.
use Rattle.std.proofs.Common.{◌≤◌, ◌-◌, length}
use Rattle.replay_accounts.proofs.read_full.Given as goal

abbrev pub invariant-loop-at : goal.invariant-loop-at
invariant-loop-at l = l.at ≤ length l.initial.bytes

abbrev pub decreases-loop-at : goal.decreases-loop-at
decreases-loop-at l = length l.initial.bytes - l.at
