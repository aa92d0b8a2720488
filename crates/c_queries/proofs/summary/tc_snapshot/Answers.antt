-- What is refused before the query, and the query.
use mathlib.Core.Path.{◌∙◌}
use lib.Dec.{eqb}
use lib.ListN.{length}
use borrow.Author.Tests.{eqb-true}
use mathlib.Core.Path.{◌≡◌}
use borrow.Author.Rules.{rules}
use Rattle.table.specs.Keyed.{both}
use Rattle.table.proofs.Keyed.{both_true}
use Rattle.c_queries.specs.Reports.{snapshot_in}
use Rattle.c_queries.proofs.Given.{prices-small}
use Rattle.c_queries.proofs.Asking.{made, refused_query, made_query}
use Rattle.c_queries.proofs.Telling.{snapshot_query, few_in_snapshot}
use Rattle.c_queries.proofs.summary.tc_snapshot.Goals as goal

pub returns-in-Err : goal.returns-in-Err
unfolding snapshot_in
returns-in-Err c =
    let x = c.args in
    refused_query (snapshot_query x.figures.now x.weights.now) x.account.now x.prices.now (both (eqb (length x.figures.now) 40) (eqb (length x.weights.now) 1024)) c.account_in-a.ensures c.in-Err.answer (rw c.is_room.ensures at c.in-Err.ensures) c.word.ensures

pub shared_ref_as_front-snapshot : goal.shared_ref_as_front-snapshot
shared_ref_as_front-snapshot c = prices-small c.args.prices.now (made c.account_in-a.result c.args.prices.now c.is_room.result c.in-Ok.p c.in-Ok.ensures).1

pub put_snapshot-requires : goal.put_snapshot-requires
put_snapshot-requires c =
    let x = c.args in
    let n : length c.snapshot-s.result.weights.symbol ≡ 64 = search rules in
    let room = (made c.account_in-a.result x.prices.now (both (eqb (length x.figures.now) 40) (eqb (length x.weights.now) 1024)) c.in-Ok.p (rw c.is_room.ensures at c.in-Ok.ensures)).0 in
    (eqb-true _ _ (both_true _ _ room).0, few_in_snapshot _ _ _ c.snapshot-s.ensures n)

pub returns-in-Ok : goal.returns-in-Ok
unfolding snapshot_in
returns-in-Ok c =
    let x = c.args in
    c.put_snapshot.ensures ∙ made_query (snapshot_query x.figures.now x.weights.now) x.account.now x.prices.now (both (eqb (length x.figures.now) 40) (eqb (length x.weights.now) 1024)) c.account_in-a.ensures c.in-Ok.p (rw c.is_room.ensures at c.in-Ok.ensures) c.snapshot-s.ensures
