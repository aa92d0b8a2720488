-- Nothing of a price list that is not whole or a place of another length; else what the last call left.
use mathlib.Core.Path.{sym, ap, ◌∙◌}
use borrow.Author.Tests.{eq-eqb, ne_eqb}
use Rattle.list_bytes.proofs.Lists.{prices-whole, no-prices, prices-small}
use Rattle.c_timed.specs.Made.{left}
use Rattle.c_timed.specs.Calls.{return_call, returns_in}
use Rattle.c_timed.proofs.Same.{called_at}
use Rattle.c_timed.proofs.recording.direct_return.Goals as goal

pub returns-in_default : goal.returns-in_default
unfolding returns_in
returns-in_default c = simp (c.too_long.ensures, c.account_in-a.ensures, no-prices _ (sym c.read_prices.ensures ∙ c.in_default.is))

pub returns-then-after-account : goal.returns-then-after-account
unfolding returns_in
returns-then-after-account c =
    simp (c.too_long-then-after-account.ensures, c.account_in-a.ensures, prices-whole _ (sym c.read_prices.ensures ∙ c.in-Some.is), ne_eqb _ _ c.if-after-account.true)

pub shared_ref_as_front-priced : goal.shared_ref_as_front-priced
shared_ref_as_front-priced c = prices-small _ (sym c.read_prices.ensures ∙ c.in-Some.is)

pub returns : goal.returns
unfolding returns_in
returns c =
    let s = c.args in
    let p = sym c.read_prices.ensures ∙ c.in-Some.is in
    let made = called_at return_call s.account.now s.prices.now c.account_in-a.ensures p c.returns.ensures in
    simp (prices-whole _ p, eq-eqb _ _ c.if-after-account.false) (c.leave.ensures ∙ ap (λ x. left x s.after.now) made)
