-- By low words where they are enough.
use Rattle.house.proofs.LowEnough.{low-enough}
use Rattle.house.proofs.part.sum_parts.Goals as goal

pub returns-then-spread-lt-SMALL : goal.returns-then-spread-lt-SMALL
returns-then-spread-lt-SMALL c =
    low-enough c.args.n c.args.m _ c.requires.sizes.0 c.requires.sizes.1 _ _ _ _ (c.sum_low-spread.ensures c.if-spread-lt-SMALL.true) c.if-spread-lt-SMALL.true
