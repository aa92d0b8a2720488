-- The table of a sound account is ordered, so what the search finds is what the list holds.
use mathlib.Core.Path.{◌∙◌, sym}
use Rattle.std.proofs.lemmas.Result.{err_from_is_err_and}
use Rattle.table.specs.Rows.{columns_of}
use Rattle.account.specs.Account.{sound_account}
use Rattle.account.specs.Calls.{position_of}
use Rattle.account.proofs.Checks.{check_ok, check_err}
use Rattle.account.proofs.Full.{account-full}
use Rattle.account.proofs.Holdings.{found-holds}
use Rattle.account.proofs.SoundAccounts.{account-ordered}
use Rattle.account.proofs.account.Account.find_position.Goals as goal

pub returns-in_err-check : goal.returns-in_err-check
unfolding position_of
returns-in_err-check c =
    let h = check_err (sound_account c.args.self) c.in_err-check.ensures in
    let p = err_from_is_err_and c.from_residual.result c.from_residual.ensures.1 in
    rw (p.1, p.2) (simp (h.0, h.1))

pub returns-then-not-is_good : goal.returns-then-not-is_good
unfolding position_of
returns-then-not-is_good c =
    let e = check_ok (sound_account c.args.self) c.in_ok-check.ensures in
    let g = sym c.is_good.ensures ∙ c.if-not-is_good.true in
    simp (e, g)

pub returns : goal.returns
unfolding position_of
returns c =
    let e = check_ok (sound_account c.args.self) c.in_ok-check.ensures in
    let g = sym c.is_good.ensures ∙ c.if-not-is_good.false in
    let r = account-ordered c.args.self e (account-full c.args.self _ c.well_formed.0) in
    rw (e, g) (c.found_in.ensures ∙ found-holds _ _ (columns_of c.args.self.positions) _ r (c.find.ensures.settled r.rising))
