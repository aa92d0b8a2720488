-- The loop's invariant: the groups of what is left, written from here on, make of the bytes what is asked.
use Prim.Native.Nat.{◌+◌, ◌≤◌}
use lib.ListN.{length}
use Rattle.seven_bit.specs.Groups.{groups}
use Rattle.seven_bit.proofs.Writing as W
use Rattle.seven_bit.proofs.write.put_number.Given as goal

abbrev pub invariant-loop-rest : goal.invariant-loop-rest
invariant-loop-rest l = (l.place + length (groups l.n) ≤ length l.initial.bytes) × W.Putting l.initial.bytes l.place l.n l.bytes l.at l.rest

abbrev pub decreases-loop-rest : goal.decreases-loop-rest
decreases-loop-rest l = l.rest
