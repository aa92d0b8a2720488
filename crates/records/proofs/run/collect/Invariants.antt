-- The run after i records.
use mathlib.Core.Path.{◌≡◌}
use Rattle.fills.specs.Records.{fronted}
use Rattle.records.specs.Run.{records_at}
use Rattle.records.proofs.run.collect.Given as goal

abbrev pub invariant-loop-i : goal.invariant-loop-i
invariant-loop-i l = l.out ≡ fronted (records_at l.words l.ints l.i) l.fn.out
