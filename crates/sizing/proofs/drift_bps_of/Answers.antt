-- The magnitude over equity, then times 10,000.
use lib.Ieee.{of_bits}
use Rattle.sizing.specs.Sizing.{drift}
use Rattle.sizing.proofs.Bits.{read_back}
use Rattle.sizing.proofs.drift_bps_of.Goals as goal

pub returns : goal.returns
unfolding drift of_bits
returns c =
    rw (
      c.u64_to_f64.ensures,
      c.i64_to_f64.ensures,
      c.unsigned_abs.ensures.value,
      read_back c.args.value c.ranges.value.sfits,
      read_back c.args.equity c.ranges.equity.sfits,
    )
