-- Nothing of lists that are not whole or a place of another length; else what the last call left.
use mathlib.Core.Path.{sym, ap, ◌∙◌}
use borrow.Author.Tests.{eq-eqb, ne_eqb}
use Rattle.list_bytes.proofs.Lists.{targets-whole, no-targets, targets-small, target_symbols, target_weights, prices-whole, no-prices, prices-small, price-symbols, price-prices}
use Rattle.c_timed.specs.Made.{left}
use Rattle.c_timed.specs.Calls.{rebalances_in}
use Rattle.c_timed.proofs.rebalancing.direct_rebalance.Goals as goal

pub returns-in_default : goal.returns-in_default
unfolding rebalances_in
returns-in_default c = simp (c.too_long.ensures, c.account_in-a.ensures, no-targets _ (sym c.read_targets.ensures ∙ c.in_default.is))

pub returns-in_default-read_prices : goal.returns-in_default-read_prices
unfolding rebalances_in
returns-in_default-read_prices c =
    simp (
      c.too_long-in_default-read_prices.ensures,
      c.account_in-a.ensures,
      targets-whole _ (sym c.read_targets.ensures ∙ c.in-Some.is),
      no-prices _ (sym c.read_prices.ensures ∙ c.in_default-read_prices.is),
    )

pub returns-then-after-account : goal.returns-then-after-account
unfolding rebalances_in
returns-then-after-account c =
    simp (
      c.too_long-then-after-account.ensures,
      c.account_in-a.ensures,
      targets-whole _ (sym c.read_targets.ensures ∙ c.in-Some.is),
      prices-whole _ (sym c.read_prices.ensures ∙ c.in-Some-read_prices.is),
      ne_eqb _ _ c.if-after-account.true,
    )

pub shared_ref_as_front-wanted : goal.shared_ref_as_front-wanted
shared_ref_as_front-wanted c = targets-small _ (sym c.read_targets.ensures ∙ c.in-Some.is)

pub shared_ref_as_front-priced : goal.shared_ref_as_front-priced
shared_ref_as_front-priced c = prices-small _ (sym c.read_prices.ensures ∙ c.in-Some-read_prices.is)

pub returns : goal.returns
unfolding rebalances_in
returns c =
    let s = c.args in
    let ts = s.targets.now in
    let ps = s.prices.now in
    let t = sym c.read_targets.ensures ∙ c.in-Some.is in
    let p = sym c.read_prices.ensures ∙ c.in-Some-read_prices.is in
    let made = simp (c.account_in-a.ensures, target_symbols ts t, target_weights ts t, price-symbols ps p, price-prices ps p) at c.rebalances.ensures in
    simp (targets-whole ts t, prices-whole ps p, eq-eqb _ _ c.if-after-account.false) (c.leave.ensures ∙ ap (λ x. left x s.after.now) made)
