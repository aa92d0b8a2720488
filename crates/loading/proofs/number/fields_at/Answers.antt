-- The first number left is refused, or it is stored and the run goes on behind it; with no place left the run is done.
use borrow.Author.Rules.{rules}
use Rattle.std.proofs.lemmas.Result.{err_from_is_err_and}
use Rattle.std.proofs.lemmas.List.{set-get_or}
use Rattle.loading.proofs.Numbers as N
use Rattle.loading.proofs.number.fields_at.Goals as goal

pub loop-i-init : goal.loop-i-init
loop-i-init c = N.sets_out _ _ _ _ _

pub returns-in_err-number : goal.returns-in_err-number
returns-in_err-number c =
    let p = err_from_is_err_and c.from_residual.result c.from_residual.ensures.1 in
    rw (p.1, p.2, set-get_or) (N.stops c.loop-i.invariant _ c.in_err-number.ensures (search rules))

pub loop-i-preserved : goal.loop-i-preserved
loop-i-preserved c = N.moves c.loop-i.invariant _ c.in_ok-number.ensures (search rules)

pub returns : goal.returns
returns c = N.ends_here c.loop-i.invariant (search rules)
