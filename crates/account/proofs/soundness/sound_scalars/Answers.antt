-- The two tests in turn.
use mir.Facts.{to_z-of_z}
use Rattle.account.specs.Account.{sound_scalars}
use Rattle.account.proofs.soundness.sound_scalars.Goals as goal

pub returns-then-cash-ge0 : goal.returns-then-cash-ge0
unfolding sound_scalars
returns-then-cash-ge0 c = let t = simp (to_z-of_z c.ranges.cash) at c.if-cash-ge0.true in rw t c.is_good.ensures

pub returns-else-cash-ge0 : goal.returns-else-cash-ge0
unfolding sound_scalars
returns-else-cash-ge0 c = let t = simp (to_z-of_z c.ranges.cash) at c.if-cash-ge0.false in rw t c.if-cash-ge0.false
