-- Each answers the same, whatever the one before it left in the series.
use lib.ListN.{length}
use mathlib.Core.Path.{◌≡◌}
use Rattle.c_timed.specs.Calls.{return_call}
use Rattle.c_timed.proofs.recording.returns.Given as goal

abbrev pub invariant-loop : goal.invariant-loop
invariant-loop l = (length l.equities ≡ 64) × (length l.changes ≡ 64) × (l.last ≡ return_call l.a l.symbols l.prices)
