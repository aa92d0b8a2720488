-- The library saturates to the number of an i64 that is nearest, which is the clamp.
use Rattle.std.proofs.Common.{ap, arith, to_z-of_z}
use Rattle.sums.specs.Sums.{clamp64}
use Rattle.position.specs.Rows.{shares}
use Rattle.position.specs.Shares.{from_whole}
use Rattle.position.proofs.shares.Shares.from_whole.Goals as goal

pub returns : goal.returns
unfolding from_whole clamp64
returns c = ap shares (grind (arith, to_z-of_z))
