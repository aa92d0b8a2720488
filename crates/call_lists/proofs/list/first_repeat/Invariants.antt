-- Each symbol passed is new after those before it, so the first repeat is among those that are left.
use Rattle.call_lists.proofs.Firsts.{New}
use Rattle.call_lists.proofs.list.first_repeat.Given as goal

abbrev pub invariant-loop-i : goal.invariant-loop-i
invariant-loop-i l = New l.symbols l.i
