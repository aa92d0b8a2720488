-- What is gathered before the place, gone on with from the place, is what the whole series gives.
use Rattle.metrics.proofs.Gathering.{Gathering}
use Rattle.metrics.proofs.series.gather.Given as goal

abbrev pub invariant-loop-r : goal.invariant-loop-r
invariant-loop-r l = Gathering l.returns l.curve l.tally l.r-index
