-- By the refusals; only an opening that is done writes.
use Prim.Native.Nat.{ℕ}
use mathlib.Core.Path.{sym, ◌∙◌, ap}
use native.Mathlib.Omega.{arith}
use lib.ListN.{set}
use mir.Facts.{to_z-of_z}
use borrow.Author.Tests.{eqb-true, eqb-false}
use Rattle.account.specs.declared.account.Account.{Account}
use Rattle.account_bytes.specs.Account.{written_account}
use Rattle.c_accounts.specs.Opening.{open_told}
use Rattle.c_accounts.proofs.Openings.{open_none, open_bad, open_short, open_full, open_done}
use Rattle.c_accounts.proofs.opening.tc_open.Goals as goal

pub returns-then-account-ne-ACCOUNT_BYTES : goal.returns-then-account-ne-ACCOUNT_BYTES
returns-then-account-ne-ACCOUNT_BYTES c =
    let s = c.args in
    ap (λ (n : ℕ). open_told n s.account.now s.equities.now) c.word.ensures
    ∙ open_short s.cash s.settings.now s.account.now s.equities.now c.if-account-ne-ACCOUNT_BYTES.true

pub returns-in_default : goal.returns-in_default
returns-in_default c =
    let s = c.args in
    ap (λ (n : ℕ). open_told n s.account.now s.equities.now) c.word-in_default.ensures
    ∙ open_none s.cash s.settings.now s.account.now s.equities.now c.if-account-ne-ACCOUNT_BYTES.false (sym c.read_settings.ensures ∙ c.in_default.is)

pub returns-then-not-sound_scalars : goal.returns-then-not-sound_scalars
returns-then-not-sound_scalars c =
    let s = c.args in
    let t = simp (to_z-of_z c.ranges.cash) at c.sound_scalars.ensures in
    ap (λ (n : ℕ). open_told n s.account.now s.equities.now) c.word-then-not-sound_scalars.ensures
    ∙ open_bad s.cash s.settings.now s.account.now s.equities.now c.if-account-ne-ACCOUNT_BYTES.false (sym c.read_settings.ensures ∙ c.in-Some.is) (sym t ∙ c.if-not-sound_scalars.true)

pub returns-then-is_empty : goal.returns-then-is_empty
returns-then-is_empty c =
    let s = c.args in
    let t = simp (to_z-of_z c.ranges.cash) at c.sound_scalars.ensures in
    let n = eqb-true _ _ (sym c.is_empty.ensures ∙ c.if-is_empty.true) in
    ap (λ (n : ℕ). open_told n s.account.now s.equities.now) c.word-then-is_empty.ensures
    ∙ open_full s.cash s.settings.now s.account.now s.equities.now c.if-account-ne-ACCOUNT_BYTES.false (sym c.read_settings.ensures ∙ c.in-Some.is) (sym t ∙ c.if-not-sound_scalars.false)
    (omega (arith, n))

pub returns : goal.returns
returns c =
    let s = c.args in
    let t = simp (to_z-of_z c.ranges.cash) at c.sound_scalars.ensures in
    let a = simp (to_z-of_z c.ranges.cash) at c.opened.ensures in
    let l = c.write_account.new.bytes in
    let n = eqb-false _ _ (sym c.is_empty.ensures ∙ c.if-is_empty.false) in
    simp (to_z-of_z c.ranges.cash)
    (ap (λ (n : ℕ). open_told n l (set s.equities.now 0 s.cash)) c.word-2.ensures
    ∙ open_done s.cash s.settings.now s.account.now s.equities.now l c.if-account-ne-ACCOUNT_BYTES.false (sym c.read_settings.ensures ∙ c.in-Some.is) (sym t ∙ c.if-not-sound_scalars.false)
    (omega (arith, n)) (c.write_account.ensures ∙ ap (λ (x : Account). written_account x s.account.now) a))
