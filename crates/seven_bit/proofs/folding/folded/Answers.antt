-- A number below 0 is one less than its complement, which is the size of what it lacks.
use Rattle.seven_bit.proofs.Signed as S
use Rattle.seven_bit.proofs.folding.folded.Goals as goal

pub returns-then-n-lt0 : goal.returns-then-n-lt0
returns-then-n-lt0 c = let l = S.below c.args.n c.ranges.n c.if-n-lt0.true in rw l.is (S.folded_below l)

pub returns-else-n-lt0 : goal.returns-else-n-lt0
returns-else-n-lt0 c = let l = S.above c.args.n c.ranges.n c.if-n-lt0.false in rw l.is (S.folded-above l)
