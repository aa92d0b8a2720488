-- The first position left is refused, or it is put at its place and the run goes on behind it; with none left the run is done.
use borrow.Author.Rules.{rules}
use Rattle.loading.proofs.Entries as E
use Rattle.loading.proofs.positions.positions_at.Goals as goal

pub loop-i-init : goal.loop-i-init
loop-i-init c = E.begin _ _ _ _ _

pub returns-in-Err : goal.returns-in-Err
returns-in-Err c = E.stops c.loop-i.invariant _ c.in-Err.ensures (search rules)

pub loop-i-preserved : goal.loop-i-preserved
loop-i-preserved c = E.next c.loop-i.invariant _ c.in-Ok.ensures (search rules) (search rules) _ _ c.post.ensures

pub returns : goal.returns
returns c = E.ends c.loop-i.invariant (search rules)
