-- The scalars, then the columns.
use mathlib.Core.Path.{◌∙◌, sym}
use mir.Syntax.{w64}
use mir.Val.{SFits}
use mir.Facts.{to_z-of_z}
use borrow.Author.Rules.{rules}
use Rattle.account.specs.Account.{sound_account}
use Rattle.account.proofs.account.Account.sound.Goals as goal

pub returns-then-sound_scalars : goal.returns-then-sound_scalars
unfolding sound_account
returns-then-sound_scalars c =
    let f : SFits w64 c.args.self.now.cash = search rules in
    let e = simp (to_z-of_z f) at c.sound_scalars.ensures in
    let t = sym e ∙ c.if-sound_scalars.true in
    rw t c.sound_columns.ensures

pub returns-else-sound_scalars : goal.returns-else-sound_scalars
unfolding sound_account
returns-else-sound_scalars c =
    let f : SFits w64 c.args.self.now.cash = search rules in
    let e = simp (to_z-of_z f) at c.sound_scalars.ensures in
    let t = sym e ∙ c.if-sound_scalars.false in
    rw t c.if-sound_scalars.false
