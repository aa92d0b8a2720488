-- What is refused before the call, and the call.
use mathlib.Core.Path.{sym, ◌∙◌}
use Rattle.std.proofs.lemmas.Result.{err_from_is_err_and}
use Rattle.list_bytes.specs.Entries.{whole_list}
use Rattle.c_trades.specs.Returns.{return_in}
use Rattle.c_trades.proofs.Holding.{read-holds}
use Rattle.c_trades.proofs.Calling.{no_account_lem, refused-call, all_whole, made_in, return-call}
use Rattle.c_trades.proofs.recording.return_in.Goals as goal

pub returns-then-not-is_account : goal.returns-then-not-is_account
unfolding return_in
returns-then-not-is_account c =
    let s = c.args in
    no_account_lem (return-call s.account.now s.prices.now s.equities.now s.returns.now) 0 (whole_list 128 s.prices.now) (sym c.if-not-is_account.ensures)

pub returns-in_err-check_early : goal.returns-in_err-check_early
unfolding return_in
returns-in_err-check_early c =
    let s = c.args in
    let k = return-call s.account.now s.prices.now s.equities.now s.returns.now in
    let r = read-holds s.account.now _ (sym c.if-not-is_account.ensures) c.read_ledger-h.ensures c.read_columns.ensures in
    let p = err_from_is_err_and c.from_residual.result c.from_residual.ensures.1 in
    rw (p.1, p.2) (refused-call k 0 (whole_list 128 s.prices.now) _ _ r _ (simp c.is_whole-listed.ensures at c.in_err-check_early.ensures))

pub file_return-requires : goal.file_return-requires
file_return-requires c =
    let s = c.args in
    let k = return-call s.account.now s.prices.now s.equities.now s.returns.now in
    let r = read-holds s.account.now _ (sym c.if-not-is_account.ensures) c.read_ledger-h.ensures c.read_columns.ensures in
    (all_whole k 0 (whole_list 128 s.prices.now) _ _ r (simp c.is_whole-listed.ensures at c.in_ok-check_early.ensures), r)

pub returns : goal.returns
unfolding return_in
returns c =
    let s = c.args in
    let k = return-call s.account.now s.prices.now s.equities.now s.returns.now in
    let r = read-holds s.account.now _ (sym c.if-not-is_account.ensures) c.read_ledger-h.ensures c.read_columns.ensures in
    c.file_return.ensures ∙ made_in k 0 (whole_list 128 s.prices.now) _ _ r (simp c.is_whole-listed.ensures at c.in_ok-check_early.ensures)
