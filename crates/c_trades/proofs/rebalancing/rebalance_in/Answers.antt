-- What is refused before the call, and the call.
use lib.ListN.{length}
use mathlib.Core.Path.{sym, ◌∙◌}
use Rattle.std.proofs.lemmas.Result.{err_from_is_err_and}
use Rattle.table.specs.Keyed.{both}
use Rattle.table.proofs.Keyed.{both_true}
use Rattle.list_bytes.specs.Entries.{whole_list}
use Rattle.c_trades.specs.Asked.{whole_run}
use Rattle.c_trades.specs.Calls.{rebalance_in}
use Rattle.c_trades.proofs.Holding.{read-holds}
use Rattle.c_trades.proofs.Calling.{no_account_lem, refused-call, all_whole, made-call, rebalance-call}
use Rattle.c_trades.proofs.rebalancing.rebalance_in.Goals as goal

pub returns-then-not-is_account : goal.returns-then-not-is_account
unfolding rebalance_in
returns-then-not-is_account c =
    let s = c.args in
    let whole = both (both (whole_list 64 s.targets.now) (whole_list 128 s.prices.now)) (whole_run (length s.records.now)) in
    no_account_lem (rebalance-call s.account.now s.records.now s.period s.kind s.targets.now s.prices.now) s.kind whole (sym c.if-not-is_account.ensures)

pub returns-in_err-check_early : goal.returns-in_err-check_early
unfolding rebalance_in
returns-in_err-check_early c =
    let s = c.args in
    let k = rebalance-call s.account.now s.records.now s.period s.kind s.targets.now s.prices.now in
    let whole = both (both (whole_list 64 s.targets.now) (whole_list 128 s.prices.now)) (whole_run (length s.records.now)) in
    let r = read-holds s.account.now _ (sym c.if-not-is_account.ensures) c.read_ledger-h.ensures c.read_columns.ensures in
    let p = err_from_is_err_and c.from_residual.result c.from_residual.ensures.1 in
    rw (p.1, p.2) (refused-call k s.kind whole _ _ r _ (simp c.are_whole-whole.ensures at c.in_err-check_early.ensures))

pub rebalance_in_room-requires : goal.rebalance_in_room-requires
rebalance_in_room-requires c =
    let s = c.args in
    let k = rebalance-call s.account.now s.records.now s.period s.kind s.targets.now s.prices.now in
    let whole = both (both (whole_list 64 s.targets.now) (whole_list 128 s.prices.now)) (whole_run (length s.records.now)) in
    let r = read-holds s.account.now _ (sym c.if-not-is_account.ensures) c.read_ledger-h.ensures c.read_columns.ensures in
    both_true _ _ (both_true _ _ (all_whole k s.kind whole _ _ r (simp c.are_whole-whole.ensures at c.in_ok-check_early.ensures))).0

pub returns : goal.returns
unfolding rebalance_in
returns c =
    let s = c.args in
    let k = rebalance-call s.account.now s.records.now s.period s.kind s.targets.now s.prices.now in
    let whole = both (both (whole_list 64 s.targets.now) (whole_list 128 s.prices.now)) (whole_run (length s.records.now)) in
    let r = read-holds s.account.now _ (sym c.if-not-is_account.ensures) c.read_ledger-h.ensures c.read_columns.ensures in
    c.rebalance_in_room.ensures ∙ made-call k s.kind whole _ _ r (simp c.are_whole-whole.ensures at c.in_ok-check_early.ensures)
