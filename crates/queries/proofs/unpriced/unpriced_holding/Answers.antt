-- A refusal, or the search in the account's columns.
use mathlib.Core.Option.{none}
use mathlib.Core.Path.{◌∙◌, ap}
use Rattle.answer.specs.declared.Answer.TheVariants.{Done}
use Rattle.table.specs.Rows.{columns_of}
use Rattle.call_lists.specs.Lists.{price_of}
use Rattle.account.proofs.Full.{account-full}
use Rattle.account.proofs.SoundAccounts.{account-ordered}
use Rattle.portfolio.specs.Answers.{query_answer}
use Rattle.portfolio.proofs.Refusals.{query_done}
use Rattle.queries.specs.Answers.{answered_unpriced, told_unpriced}
use Rattle.queries.proofs.Checked.{was_refused, was_done}
use Rattle.queries.proofs.Walks.{places-priced}
use Rattle.queries.proofs.unpriced.unpriced_holding.Goals as goal

pub returns-in-Err : goal.returns-in-Err
unfolding told_unpriced
returns-in-Err c =
    let k = was_refused (query_answer c.args.a c.args.symbols.now c.args.prices.now) c.in-Err.answer c.in-Err.ensures in
    rw k.0 (c.told.ensures ∙ ap (λ w. answered_unpriced w none) k.1)

pub prices_of-listed-requires : goal.prices_of-listed-requires
prices_of-listed-requires c =
    let k = was_done (query_answer c.args.a c.args.symbols.now c.args.prices.now) c.in_default.field-0 c.in_default.ensures in
    let q = query_done c.args.a c.args.symbols.now c.args.prices.now k.0 in
    ((account-ordered c.args.a q.sound (account-full c.args.a _ c.well_formed.0)).small, q.prices)

pub first_unpriced-first-requires : goal.first_unpriced-first-requires
first_unpriced-first-requires c =
    let k = was_done (query_answer c.args.a c.args.symbols.now c.args.prices.now) c.in_default.field-0 c.in_default.ensures in
    let q = query_done c.args.a c.args.symbols.now c.args.prices.now k.0 in
    account-ordered c.args.a q.sound (account-full c.args.a _ c.well_formed.0)

pub returns : goal.returns
unfolding told_unpriced
returns c =
    let k = was_done (query_answer c.args.a c.args.symbols.now c.args.prices.now) c.in_default.field-0 c.in_default.ensures in
    let q = query_done c.args.a c.args.symbols.now c.args.prices.now k.0 in
    let o = account-ordered c.args.a q.sound (account-full c.args.a _ c.well_formed.0) in
    let t = c.args.a.positions in
    let price = price_of c.args.symbols.now c.args.prices.now in
    let e = c.first_unpriced-first.ensures.settled price (places-priced price t.count (columns_of t) c.prices_of-listed.result o c.prices_of-listed.ensures) in
    rw k.0 (c.told-2.ensures ∙ ap (answered_unpriced Done) e)
