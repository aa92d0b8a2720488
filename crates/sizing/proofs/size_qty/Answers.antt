-- The gap's magnitude as shares, with the gap's sign.
use Rattle.sums.proofs.TwoWords.{value_of-wide}
use Rattle.sizing.specs.Sizing.{sized}
use Rattle.sizing.proofs.Bits.{read_back}
use Rattle.sizing.proofs.size_qty.Goals as goal

pub returns : goal.returns
unfolding sized
returns c =
    let k = c.clamped in
    rw (
      c.from_raw.ensures,
      read_back k.result k.type_inv,
      k.ensures,
      c.shares_for-snapped.ensures,
      value_of-wide,
      c.unsigned_abs.ensures.value,
      c.above.ensures,
      c.above-2.ensures,
      read_back c.args.diff_value c.ranges.diff_value.sfits,
      read_back c.args.price c.ranges.price.sfits,
      read_back c.args.step c.ranges.step.sfits,
    )
