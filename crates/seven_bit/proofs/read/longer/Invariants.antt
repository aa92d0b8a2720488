-- The loop's invariant: what is left of the number at this place, over what was read of it, is the number.
use Prim.Native.Nat.{◌+◌, ◌-◌}
use Rattle.seven_bit.proofs.Reading.{Reading}
use Rattle.seven_bit.proofs.read.longer.Given as goal

abbrev pub invariant-loop-at : goal.invariant-loop-at
invariant-loop-at l = Reading l.bytes l.place l.at l.sum l.scale (l.place + 9 - l.at)
