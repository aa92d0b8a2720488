-- What is refused before the query, and the query.
use mathlib.Core.Path.{◌∙◌}
use lib.Dec.{eqb}
use lib.ListN.{length}
use borrow.Author.Tests.{eqb-true}
use Rattle.c_queries.specs.Reports.{unpriced_in}
use Rattle.c_queries.proofs.Given.{prices-small}
use Rattle.c_queries.proofs.Asking.{made, refused_query, made_query}
use Rattle.c_queries.proofs.Telling.{unpriced_query}
use Rattle.c_queries.proofs.unpriced.tc_unpriced_holding.Goals as goal

pub returns-in-Err : goal.returns-in-Err
unfolding unpriced_in
returns-in-Err c =
    let x = c.args in
    refused_query (unpriced_query x.out.now) x.account.now x.prices.now (eqb (length x.out.now) 16) c.account_in-a.ensures c.in-Err.answer c.in-Err.ensures c.word.ensures

pub shared_ref_as_front-unpriced_holding : goal.shared_ref_as_front-unpriced_holding
shared_ref_as_front-unpriced_holding c = prices-small c.args.prices.now (made c.account_in-a.result c.args.prices.now (eqb (length c.args.out.now) 16) c.in-Ok.p c.in-Ok.ensures).1

pub put_unpriced-requires : goal.put_unpriced-requires
put_unpriced-requires c = eqb-true _ _ (made c.account_in-a.result c.args.prices.now (eqb (length c.args.out.now) 16) c.in-Ok.p c.in-Ok.ensures).0

pub returns-in-Ok : goal.returns-in-Ok
unfolding unpriced_in
returns-in-Ok c =
    let x = c.args in
    c.put_unpriced.ensures ∙ made_query (unpriced_query x.out.now) x.account.now x.prices.now (eqb (length x.out.now) 16) c.account_in-a.ensures c.in-Ok.p c.in-Ok.ensures c.unpriced_holding-u.ensures
