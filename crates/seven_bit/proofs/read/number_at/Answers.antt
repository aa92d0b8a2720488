-- A number of one group, or one whose first group goes on.
use mathlib.Core.Path.{refl, ap}
use borrow.Author.Rules.{rules}
use Rattle.seven_bit.specs.Placed.{number_or_fault}
use Rattle.seven_bit.proofs.Reading as R
use Rattle.seven_bit.proofs.read.number_at.Goals as goal

pub returns-then-bytes-place : goal.returns-then-bytes-place
returns-then-bytes-place c = rw c.ends_early.ensures (ap number_or_fault (R.none_left c.args.bytes.now c.args.place c.if-bytes-place.true))

pub returns-then-group-lt128 : goal.returns-then-group-lt128
returns-then-group-lt128 c = ap number_or_fault (R.one_group c.args.bytes.now c.args.place _ refl (search rules) c.if-group-lt128.true)
