-- What was found so far, with the test of the places that are left, is the test of all.
use mathlib.Core.Path.{◌≡◌}
use lib.ListN.{drop}
use Rattle.table.specs.Keyed.{both, all}
use Rattle.table.proofs.ordered.is_zero_from.Given as goal

abbrev pub invariant-loop-x : goal.invariant-loop-x
invariant-loop-x g l = let test = λ (x : _). g.T.PartialEq.eq x l.zero in
    both l.none (all test (drop l.x-index l.x-items)) ≡ all test l.x-items
