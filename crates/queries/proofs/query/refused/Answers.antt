-- Zero figures, and no weights.
use Rattle.queries.specs.Answers.{no_snapshot}
use Rattle.queries.proofs.query.refused.Goals as goal

pub returns : goal.returns
unfolding no_snapshot
returns c = simp c.no_weights.ensures
