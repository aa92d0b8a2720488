-- A refusal, or the snapshot.
use mathlib.Core.Path.{◌∙◌, ap}
use Rattle.portfolio.specs.Answers.{query_answer}
use Rattle.queries.specs.Answers.{no_snapshot, told_snapshot}
use Rattle.queries.proofs.Checked.{was_refused, was_done}
use Rattle.queries.proofs.query.snapshot.Goals as goal

pub returns-in-Err : goal.returns-in-Err
unfolding told_snapshot
returns-in-Err c =
    let k = was_refused (query_answer c.args.a c.args.symbols.now c.args.prices.now) c.in-Err.answer c.in-Err.ensures in
    rw k.0 (c.refused.ensures ∙ ap no_snapshot k.1)

pub snapshot_of-requires : goal.snapshot_of-requires
snapshot_of-requires c = (was_done (query_answer c.args.a c.args.symbols.now c.args.prices.now) c.in-Ok.field-0 c.in-Ok.ensures).1

pub returns-in-Ok : goal.returns-in-Ok
unfolding told_snapshot
returns-in-Ok c =
    let k = was_done (query_answer c.args.a c.args.symbols.now c.args.prices.now) c.in-Ok.field-0 c.in-Ok.ensures in
    rw k.0 c.snapshot_of.ensures
