-- By the tests that led there; the infinity's pattern is the infinity.
use Rattle.std.proofs.Common.{◌∙◌}
use lib.Ieee.{of_bits}
use Rattle.metrics.specs.Ratio.{gain_over_loss}
use Rattle.metrics.proofs.Double.{absolute_is}
use Rattle.metrics.proofs.ratio.gain_over_loss.Goals as goal

pub returns-then-loss : goal.returns-then-loss
unfolding gain_over_loss of_bits
returns-then-loss c = rw (c.if-loss.true, c.abs.ensures.value ∙ absolute_is c.args.loss)

pub returns-then-gain : goal.returns-then-gain
unfolding gain_over_loss of_bits
returns-then-gain c = rw (c.if-loss.false, c.if-gain.true)
