-- What is refused before the query, and the query.
use mathlib.Core.Path.{◌∙◌}
use lib.Dec.{eqb}
use lib.ListN.{length}
use borrow.Author.Tests.{eqb-true}
use Rattle.c_queries.specs.Reports.{equity_in}
use Rattle.c_queries.proofs.Given.{prices-small}
use Rattle.c_queries.proofs.Asking.{made, refused_query, made_query}
use Rattle.c_queries.proofs.Telling.{equity_query}
use Rattle.c_queries.proofs.worth.tc_total_equity.Goals as goal

pub returns-in-Err : goal.returns-in-Err
unfolding equity_in
returns-in-Err c =
    let x = c.args in
    refused_query (equity_query x.out.now) x.account.now x.prices.now (eqb (length x.out.now) 8) c.account_in-a.ensures c.in-Err.answer c.in-Err.ensures c.word.ensures

pub shared_ref_as_front-total_equity : goal.shared_ref_as_front-total_equity
shared_ref_as_front-total_equity c = prices-small c.args.prices.now (made c.account_in-a.result c.args.prices.now (eqb (length c.args.out.now) 8) c.in-Ok.p c.in-Ok.ensures).1

pub put_equity-requires : goal.put_equity-requires
put_equity-requires c = eqb-true _ _ (made c.account_in-a.result c.args.prices.now (eqb (length c.args.out.now) 8) c.in-Ok.p c.in-Ok.ensures).0

pub returns-in-Ok : goal.returns-in-Ok
unfolding equity_in
returns-in-Ok c =
    let x = c.args in
    c.put_equity.ensures ∙ made_query (equity_query x.out.now) x.account.now x.prices.now (eqb (length x.out.now) 8) c.account_in-a.ensures c.in-Ok.p c.in-Ok.ensures c.total_equity-c.ensures
