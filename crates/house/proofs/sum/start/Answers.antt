-- (n + 1) halves are so many pairs of them, and one more where n + 1 is odd.
use Rattle.std.proofs.Common.{arith}
use Rattle.sums.proofs.TwoWords.{words_of}
use Rattle.house.proofs.sum.start.Goals as goal

pub returns : goal.returns
returns c = words_of _ _ _ (omega arith) (omega arith)
