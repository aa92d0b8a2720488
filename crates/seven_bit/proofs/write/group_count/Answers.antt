-- A number from 128 on has one group more than what is left of it, and a lower one is the last group.
use borrow.Author.Rules.{rules}
use Rattle.seven_bit.proofs.Writing as W
use Rattle.seven_bit.proofs.write.group_count.Goals as goal

pub loop-rest-preserved : goal.loop-rest-preserved
loop-rest-preserved c = W.count-more c.loop-rest.invariant (search rules)

pub returns : goal.returns
returns c = (W.counted c.loop-rest.invariant (search rules), search rules)
