-- What is refused before the call, and the call.
use lib.ListN.{length}
use mir.Facts.{to_z-of_z}
use mathlib.Core.Path.{sym, ◌∙◌}
use Rattle.std.proofs.lemmas.Result.{err_from_is_err_and}
use Rattle.c_trades.specs.Asked.{whole_run}
use Rattle.c_trades.specs.Calls.{close_in}
use Rattle.c_trades.proofs.Holding.{read-holds}
use Rattle.c_trades.proofs.Calling.{no_account_lem, refused-call, made-call, close-call}
use Rattle.c_trades.proofs.closing.close_in.Goals as goal

pub returns-then-not-is_account : goal.returns-then-not-is_account
unfolding close_in
returns-then-not-is_account c =
    let s = c.args in
    no_account_lem (close-call s.account.now s.records.now s.period s.kind s.symbol s.price) s.kind (whole_run (length s.records.now)) (sym c.if-not-is_account.ensures)

pub returns-in_err-check_early : goal.returns-in_err-check_early
unfolding close_in
returns-in_err-check_early c =
    let s = c.args in
    let k = close-call s.account.now s.records.now s.period s.kind s.symbol s.price in
    let r = read-holds s.account.now _ (sym c.if-not-is_account.ensures) c.read_ledger-h.ensures c.read_columns.ensures in
    let p = err_from_is_err_and c.from_residual.result c.from_residual.ensures.1 in
    rw (p.1, p.2) (refused-call k s.kind (whole_run (length s.records.now)) _ _ r _ (simp c.whole_run-whole.ensures at c.in_err-check_early.ensures))

pub returns : goal.returns
unfolding close_in
returns c =
    let s = c.args in
    let k = close-call s.account.now s.records.now s.period s.kind s.symbol s.price in
    let r = read-holds s.account.now _ (sym c.if-not-is_account.ensures) c.read_ledger-h.ensures c.read_columns.ensures in
    (simp (to_z-of_z c.ranges.price) at c.close_in_room.ensures)
    ∙ made-call k s.kind (whole_run (length s.records.now)) _ _ r (simp c.whole_run-whole.ensures at c.in_ok-check_early.ensures)
