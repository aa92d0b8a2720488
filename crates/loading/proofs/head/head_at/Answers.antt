-- The run of the first 23 fields, into a column that was zeros; the last is told by itself too.
use Rattle.std.proofs.lemmas.Result.{err_from_is_err_and}
use Rattle.loading.proofs.Numbers as N
use Rattle.loading.proofs.head.head_at.Goals as goal

pub returns-in_err-next : goal.returns-in_err-next
returns-in_err-next c =
    let p = err_from_is_err_and c.from_residual.result c.from_residual.ensures.1 in
    rw (p.1, p.2) (N.head_refused _ _ _ _ c.in_err-next.ensures.1 _ c.in_err-next.ensures.0)

pub returns : goal.returns
returns c = N.head_read _ _ _ _ c.in_ok-next.ensures.1 _ c.in_ok-next.ensures.0
