-- The invariant: what was found of the marks before the place.
use Rattle.std.proofs.Common.{◌≡◌, leb, get_or}
use Rattle.house.specs.Group.{every}
use Rattle.house.proofs.good_marks.Given as goal

abbrev pub invariant-loop-mark : goal.invariant-loop-mark
invariant-loop-mark l = l.good ≡ every l.mark-index (λ k. leb (get_or l.marks k 0) 1)
