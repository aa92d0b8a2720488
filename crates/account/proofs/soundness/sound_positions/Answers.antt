-- The places passed hold sound positions.
use mathlib.Core.Path.{◌≡◌, refl, sym, ap, ◌∙◌}
use mathlib.Core.Bool.{true, false}
use native.Mathlib.Omega.{arith}
use Rattle.position.specs.Fills.{sound}
use Rattle.table.specs.Rows.{cols}
use Rattle.table.specs.declared.table.Columns.{Columns}
use Rattle.table.specs.Inner.Rows.{held_at}
use Rattle.table.specs.declared.found.Found.TheVariants.{At}
use Rattle.account.specs.Account.{sound_places}
use Rattle.account.proofs.Columns.{sound_on, sound_not}
use Rattle.account.proofs.soundness.sound_positions.Goals as goal

pub loop-i-init : goal.loop-i-init
unfolding sound_places
loop-i-init c = refl

pub returns-then-not-is_sound : goal.returns-then-not-is_sound
returns-then-not-is_sound c =
    let h = c.loop-i-test.true in
    let d : Columns = c.args.columns.now in
    let e : sound (held_at (At c.loop-i.i) 0 d) ≡ false =
    sym (ap sound c.held-p.ensures) ∙ sym c.is_sound.ensures ∙ c.if-not-is_sound.true in
    sym (sound_not c.loop-i.i d (omega arith) e c.args.n h)

pub loop-i-preserved : goal.loop-i-preserved
loop-i-preserved c =
    let d : Columns = c.args.columns.now in
    let e : sound (held_at (At c.loop-i.i) 0 d) ≡ true =
    sym (ap sound c.held-p.ensures) ∙ sym c.is_sound.ensures ∙ c.if-not-is_sound.false in
    sound_on c.loop-i.i d (omega arith) c.loop-i.invariant e
