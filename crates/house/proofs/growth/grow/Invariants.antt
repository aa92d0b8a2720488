-- The invariant: the growths and their product, of the parts before the place, all of whose first sums are positive.
use Rattle.std.proofs.Common.{◌≡◌, true, get_or, pos}
use Rattle.metrics.specs.Double.{zero}
use Rattle.house.specs.Group.{every, growth_of, product_to}
use Rattle.house.specs.Places.{column}
use Rattle.house.specs.Inner.Parts.{is_positive}
use Rattle.house.proofs.growth.grow.Given as goal

abbrev pub invariant-loop-p : goal.invariant-loop-p
invariant-loop-p l = record {
  positive : every l.p (is_positive l.firsts) ≡ true;
  product : l.product ≡ product_to l.p (λ i. growth_of (get_or l.gains i (pos 0)) (get_or l.firsts i (pos 0)));
  growths : l.growths ≡ column 64 zero l.p (λ i. growth_of (get_or l.gains i (pos 0)) (get_or l.firsts i (pos 0)));
}
