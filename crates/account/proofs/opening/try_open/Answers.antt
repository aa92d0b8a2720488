-- By the two refusals; only an opening that is done writes the buffer.
use Prim.Native.Nat.{◌<◌, ◌≤◌}
use mathlib.Core.Path.{◌≡◌, ◌∙◌, sym, ap}
use mathlib.Core.Bool.{Bool}
use native.Mathlib.Omega.{arith}
use lib.IntN.{ℤ}
use lib.ListN.{length}
use mir.Facts.{to_z-of_z}
use borrow.Author.Tests.{lt-ltb, le-ltb, eqb-true, eqb-false}
use Rattle.account.specs.declared.settings.Rules.{Rules}
use Rattle.account.specs.declared.settings.Settings.{Settings}
use Rattle.account.specs.Settings.{opening_settings}
use Rattle.account.specs.Account.{sound_scalars}
use Rattle.account.specs.Calls.{open_account, opening}
use Rattle.account.proofs.opening.try_open.Goals as goal

-- the test of the settings that the account opens with
same_test : {s : Settings} {w b : Bool} (cash step : ℤ) (r : Rules) → s ≡ opening_settings r step → w ≡ sound_scalars cash s → w ≡ b → sound_scalars cash (opening_settings r step) ≡ b
same_test cash step r e h g = sym (h ∙ ap (sound_scalars cash) e) ∙ g

pub returns-then-not-sound_scalars : goal.returns-then-not-sound_scalars
unfolding opening
returns-then-not-sound_scalars c =
    let e = simp (to_z-of_z c.ranges.quantity_step) at c.opening_settings-settings.ensures in
    let h = simp (to_z-of_z c.ranges.cash) at c.sound_scalars.ensures in
    let t = same_test c.args.cash c.args.quantity_step c.args.rules e h c.if-not-sound_scalars.true in
    rw t

pub returns-then-is_empty : goal.returns-then-is_empty
unfolding opening
returns-then-is_empty c =
    let e = simp (to_z-of_z c.ranges.quantity_step) at c.opening_settings-settings.ensures in
    let h = simp (to_z-of_z c.ranges.cash) at c.sound_scalars.ensures in
    let t = same_test c.args.cash c.args.quantity_step c.args.rules e h c.if-not-sound_scalars.false in
    let l : length c.args.equity.now ≤ 0 = omega (arith, eqb-true _ _ (sym c.is_empty.ensures ∙ c.if-is_empty.true)) in
    rw (t, le-ltb 0 (length c.args.equity.now) l)

pub returns : goal.returns
unfolding opening
returns c =
    let e = simp (to_z-of_z c.ranges.quantity_step) at c.opening_settings-settings.ensures in
    let h = simp (to_z-of_z c.ranges.cash) at c.sound_scalars.ensures in
    let t = same_test c.args.cash c.args.quantity_step c.args.rules e h c.if-not-sound_scalars.false in
    let k = eqb-false _ _ (sym c.is_empty.ensures ∙ c.if-is_empty.false) in
    let l : 0 < length c.args.equity.now = omega (arith, k) in
    let o : c.opened.result ≡ open_account c.args.cash (opening_settings c.args.rules c.args.quantity_step) =
    c.opened.ensures ∙ simp (to_z-of_z c.ranges.cash, e) in
    rw (t, lt-ltb 0 (length c.args.equity.now) l) (simp (to_z-of_z c.ranges.cash, o))
