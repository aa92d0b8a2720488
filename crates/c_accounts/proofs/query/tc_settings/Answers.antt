-- By the soundness of the account, then by the length of the places.
use Prim.Native.Nat.{ℕ}
use mathlib.Core.Path.{sym, ap, ◌∙◌}
use Rattle.c_accounts.specs.Entries.{account_told}
use Rattle.c_accounts.proofs.Telling.{settings_unsound, settings-short, settings-done}
use Rattle.c_accounts.proofs.query.tc_settings.Goals as goal

pub returns-in-Err : goal.returns-in-Err
returns-in-Err c =
    let s = c.args in
    ap (λ (n : ℕ). account_told n s.out.now) c.word.ensures ∙ settings_unsound s.account.now s.out.now c.account_in-a.result c.account_in-a.ensures (sym c.check_sound.ensures ∙ c.in-Err.is)

pub returns-then-out-ne-SETTINGS_BYTES : goal.returns-then-out-ne-SETTINGS_BYTES
returns-then-out-ne-SETTINGS_BYTES c =
    let s = c.args in
    ap (λ (n : ℕ). account_told n s.out.now) c.word-then-out-ne-SETTINGS_BYTES.ensures
    ∙ settings-short s.account.now s.out.now c.account_in-a.result c.account_in-a.ensures (sym c.check_sound.ensures ∙ c.in_default.is) c.if-out-ne-SETTINGS_BYTES.true

pub returns : goal.returns
returns c =
    let s = c.args in
    let l = c.write_settings.new.bytes in
    ap (λ (n : ℕ). account_told n l) c.word-2.ensures
    ∙ settings-done s.account.now s.out.now c.account_in-a.result c.account_in-a.ensures l (sym c.check_sound.ensures ∙ c.in_default.is) c.if-out-ne-SETTINGS_BYTES.false c.write_settings.ensures
