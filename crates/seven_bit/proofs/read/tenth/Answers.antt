-- A tenth group of 1 counts 2^63, and no other is good.
use mathlib.Core.Path.{ap}
use borrow.Author.Rules.{rules}
use Rattle.seven_bit.specs.Placed.{number_or_fault}
use Rattle.seven_bit.proofs.Reading as R
use Rattle.seven_bit.proofs.read.tenth.Goals as goal

pub returns-then-bytes-at : goal.returns-then-bytes-at
returns-then-bytes-at c =
    rw c.ends_early.ensures (ap number_or_fault (R.ended c.args.bytes.now c.args.place c.args.at c.args.sum 9223372036854775808 0 c.if-bytes-at.true))

pub returns-then-bytes-at-ne1 : goal.returns-then-bytes-at-ne1
returns-then-bytes-at-ne1 c =
    rw c.bad_number.ensures (ap number_or_fault (R.tenth_refused c.args.bytes.now c.args.place c.args.at c.args.sum (search rules) c.if-bytes-at-ne1.true))

pub returns : goal.returns
returns c =
    ap number_or_fault (R.tenth_read c.args.bytes.now c.args.place c.args.at c.args.sum (search rules) (search rules) (search rules))
