-- The prices passed are at least 1, so the first below it is among those that are left.
use lib.IntN.{pos}
use lib.Signed.{le_z}
use Rattle.call_lists.proofs.Lists.{Passed}
use Rattle.call_lists.proofs.list.first_unpriced.Given as goal

abbrev pub invariant-loop-i : goal.invariant-loop-i
invariant-loop-i l = Passed (le_z (pos 1)) l.prices l.i
