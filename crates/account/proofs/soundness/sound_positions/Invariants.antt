-- The places passed hold sound positions.
use mathlib.Core.Path.{◌≡◌}
use mathlib.Core.Bool.{true}
use Rattle.table.specs.Rows.{cols}
use Rattle.account.specs.Account.{sound_places}
use Rattle.account.proofs.soundness.sound_positions.Given as goal

abbrev pub invariant-loop-i : goal.invariant-loop-i
invariant-loop-i l = sound_places l.i l.columns ≡ true
