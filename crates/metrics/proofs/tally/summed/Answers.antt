-- Each arm goes by the test that led there, and the other one's -0.0 leaves the sum.
use Rattle.std.proofs.Common.{T, rules}
use lib.Ieee.{binary64, fits, neg, of_bits}
use Rattle.metrics.proofs.NothingAdded.{plus_minus_zero}
use Rattle.metrics.proofs.tally.summed.Goals as goal
use Rattle.metrics.proofs.tally.summed.Goals.{then-counts, else-counts}

pub returns : goal.returns
unfolding neg of_bits
returns c =
    let f : T (fits binary64 c.args.sum) = search rules in
    elim c.if-counts.branch [
      | then-counts w ↦ simp (w.added-is, w.if-counts.true)
      | else-counts w ↦ simp (w.added-is, w.if-counts.false, plus_minus_zero c.args.sum f)
    ]
