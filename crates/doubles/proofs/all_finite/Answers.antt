-- What was found before the place, and the rest, give what the whole list gives.
use Rattle.doubles.proofs.Finite.{finite_on, finite-last}
use Rattle.doubles.proofs.all_finite.Goals as goal

pub loop-x-preserved : goal.loop-x-preserved
loop-x-preserved c =
    simp c.is_finite-finite.ensures (finite_on _ _ _ _ c.loop-x-test.true c.loop-x.invariant)

pub returns : goal.returns
returns c = finite-last _ _ _ c.loop-x-test.false c.loop-x.invariant
