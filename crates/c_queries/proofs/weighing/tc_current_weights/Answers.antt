-- What is refused before the query, and the query.
use mathlib.Core.Path.{◌∙◌}
use lib.Dec.{eqb}
use lib.ListN.{length}
use mathlib.Core.Path.{◌≡◌}
use borrow.Author.Rules.{rules}
use Rattle.c_queries.specs.Reports.{current_weights_in}
use Rattle.c_queries.proofs.Given.{prices-small}
use Rattle.c_queries.proofs.Asking.{made, refused_query, made_query}
use Rattle.c_queries.proofs.Telling.{weights_query, few-weights}
use Rattle.c_queries.proofs.weighing.tc_current_weights.Goals as goal

pub returns-in-Err : goal.returns-in-Err
unfolding current_weights_in
returns-in-Err c =
    let x = c.args in
    refused_query (weights_query x.out.now) x.account.now x.prices.now (eqb (length x.out.now) 1024) c.account_in-a.ensures c.in-Err.answer c.in-Err.ensures c.word.ensures

pub shared_ref_as_front-current_weights : goal.shared_ref_as_front-current_weights
shared_ref_as_front-current_weights c = prices-small c.args.prices.now (made c.account_in-a.result c.args.prices.now (eqb (length c.args.out.now) 1024) c.in-Ok.p c.in-Ok.ensures).1

pub put_weights-requires : goal.put_weights-requires
put_weights-requires c =
    let n : length c.current_weights-w.result.weights.symbol ≡ 64 = search rules in
    few-weights _ _ _ c.current_weights-w.ensures n

pub returns-in-Ok : goal.returns-in-Ok
unfolding current_weights_in
returns-in-Ok c =
    let x = c.args in
    c.put_weights.ensures ∙ made_query (weights_query x.out.now) x.account.now x.prices.now (eqb (length x.out.now) 1024) c.account_in-a.ensures c.in-Ok.p c.in-Ok.ensures c.current_weights-w.ensures
