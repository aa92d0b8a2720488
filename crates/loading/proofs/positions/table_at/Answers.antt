-- Columns of zeros with the positions put into them are those of the table that holds the positions.
use mathlib.Core.Path.{sym}
use Rattle.std.proofs.lemmas.Result.{err_from_is_err_and}
use Rattle.loading.proofs.Entries as E
use Rattle.loading.proofs.positions.table_at.Goals as goal

pub returns-in_err-next : goal.returns-in_err-next
returns-in_err-next c =
    let p = err_from_is_err_and c.from_residual.result c.from_residual.ensures.1 in
    rw (p.1, p.2) (E.table_refused _ _ _ _ _ c.min-most.ensures _ c.positions_at-filed.ensures.0 _ (sym c.in_err-next.was))

pub returns : goal.returns
returns c = E.table_held _ _ _ _ _ c.min-most.ensures _ _ c.empty-table.ensures c.positions_at-filed.ensures.1 _ c.positions_at-filed.ensures.0 _ (sym c.in_ok-next.was)
