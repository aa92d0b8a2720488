-- The weights of the snapshot.
use mathlib.Core.Path.{◌∙◌, ap}
use Rattle.queries.specs.declared.answered.Snapshot.{Snapshot}
use Rattle.queries.specs.Answers.{answered_weights}
use Rattle.queries.proofs.Snapshots.{weights-told}
use Rattle.queries.proofs.query.current_weights.Goals as goal

pub returns : goal.returns
returns c = ap (λ (k : Snapshot). answered_weights k.answer k.weights) c.snapshot-s.ensures ∙ weights-told c.args.a c.args.symbols.now c.args.prices.now
