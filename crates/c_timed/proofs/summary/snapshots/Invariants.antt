-- Each is the snapshot, so the last one is.
use mathlib.Core.Path.{◌≡◌}
use Rattle.queries.specs.Answers.{told_snapshot}
use Rattle.c_timed.proofs.summary.snapshots.Given as goal

abbrev pub invariant-loop : goal.invariant-loop
invariant-loop l = l.last ≡ told_snapshot l.a l.symbols l.prices
