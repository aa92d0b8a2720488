-- A place below the count holds the list's position.
use mathlib.Core.Path.{◌∙◌, ap}
use borrow.Author.Tests.{lt-ltb, le-ltb}
use Rattle.std.proofs.lemmas.Result.{err_from_is_err_and}
use Rattle.table.specs.Rows.{columns_of}
use Rattle.account.specs.Account.{sound_account}
use Rattle.account.specs.Calls.{present, position_at_of}
use Rattle.account.proofs.Checks.{check_ok, check_err}
use Rattle.account.proofs.Full.{account-full}
use Rattle.account.proofs.Holdings.{place_holds}
use Rattle.account.proofs.SoundAccounts.{account-ordered}
use Rattle.account.proofs.account.Account.nth_position.Goals as goal

pub returns-in_err-check : goal.returns-in_err-check
unfolding position_at_of
returns-in_err-check c =
    let h = check_err (sound_account c.args.self) c.in_err-check.ensures in
    let p = err_from_is_err_and c.from_residual.result c.from_residual.ensures.1 in
    rw (p.1, p.2) (simp (h.0, h.1))

pub returns-then-index-t : goal.returns-then-index-t
unfolding position_at_of
returns-then-index-t c =
    let e = check_ok (sound_account c.args.self) c.in_ok-check.ensures in
    let r = account-ordered c.args.self e (account-full c.args.self _ c.well_formed.0) in
    rw (e, lt-ltb _ _ c.if-index-t.true) (ap present (c.row.ensures ∙ place_holds _ _ (columns_of c.args.self.positions) r c.if-index-t.true))

pub returns-else-index-t : goal.returns-else-index-t
unfolding position_at_of
returns-else-index-t c =
    let e = check_ok (sound_account c.args.self) c.in_ok-check.ensures in
    rw (e, le-ltb _ _ c.if-index-t.false)
