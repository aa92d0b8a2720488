-- None at equity 0.
use mathlib.Core.Path.{sym, ◌∙◌}
use mir.Facts.{to_z-of_z}
use borrow.Author.Tests.{eq-eqb, ne_eqb}
use Rattle.position.proofs.Counts.{zero_bits}
use Rattle.queries.specs.Queries.{weights_of}
use Rattle.queries.proofs.weight.weights_on.Goals as goal

pub returns-then-equity-eq0 : goal.returns-then-equity-eq0
unfolding weights_of
returns-then-equity-eq0 c =
    let z = sym (zero_bits _ c.ranges.equity) ∙ eq-eqb _ _ c.if-equity-eq0.true in
    record { settled = λ price e. rw z c.no_weights.ensures }

pub returns : goal.returns
unfolding weights_of
returns c =
    let z = sym (zero_bits _ c.ranges.equity) ∙ ne_eqb _ _ c.if-equity-eq0.false in
    record { settled = λ price e. rw z (simp (to_z-of_z c.ranges.equity) at (c.weigh.ensures.settled price e)) }
