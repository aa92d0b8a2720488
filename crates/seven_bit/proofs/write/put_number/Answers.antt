-- Each step writes a group where there is room for it, and what is left has one group less; the last group ends it.
use mathlib.Core.Path.{refl}
use native.Mathlib.Omega.{arith}
use borrow.Author.Rules.{rules}
use Rattle.seven_bit.proofs.Writing as W
use Rattle.seven_bit.proofs.write.put_number.Goals as goal
use Rattle.seven_bit.proofs.write.put_number.Goals.{then-bytes-count-via-then-bytes-count, then-bytes-count-via-else-bytes-count+then-bytes-count-2}

pub returns-then-bytes-count : goal.returns-then-bytes-count
returns-then-bytes-count c =
    W.put_full _ _ _ (elim c.then-bytes-count.branch [ then-bytes-count-via-then-bytes-count w ↦ omega arith | then-bytes-count-via-else-bytes-count+then-bytes-count-2 w ↦ omega arith ])

pub bounds-bytes-at : goal.bounds-bytes-at
bounds-bytes-at c = W.put-room c.loop-rest.invariant.1 c.loop-rest.invariant.0

pub loop-rest-preserved : goal.loop-rest-preserved
loop-rest-preserved c = (c.loop-rest.invariant.0, W.put-more c.loop-rest.invariant.1 c.loop-rest.invariant.0 (search rules) _ refl)

pub bounds-bytes-at-2 : goal.bounds-bytes-at-2
bounds-bytes-at-2 c = W.put-room c.loop-rest.invariant.1 c.loop-rest.invariant.0

pub returns : goal.returns
returns c = W.put_last c.loop-rest.invariant.1 c.loop-rest.invariant.0 (search rules) _ refl
