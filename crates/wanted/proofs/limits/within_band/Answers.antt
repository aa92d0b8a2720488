-- The two tests in turn.
use Rattle.wanted.specs.Plan.{within_band}
use lib.Ieee.{of_bits}
use Rattle.wanted.proofs.limits.within_band.Goals as goal

pub returns-then-s : goal.returns-then-s
unfolding within_band of_bits
returns-then-s c = let t = c.if-s.true in simp t

pub returns-else-s : goal.returns-else-s
unfolding within_band of_bits
returns-else-s c = let t = c.if-s.false in simp t
