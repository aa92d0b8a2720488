-- Nothing of a price list that is not whole or places of another length; else the last snapshot.
use mathlib.Core.Path.{sym, ap, ◌∙◌}
use borrow.Author.Tests.{eq-eqb, ne_eqb}
use Rattle.list_bytes.proofs.Lists.{prices-whole, no-prices, prices-small}
use Rattle.queries.specs.Answers.{told_snapshot}
use Rattle.c_timed.specs.Made.{left_both}
use Rattle.c_timed.specs.Calls.{snapshots_in}
use Rattle.c_timed.proofs.Same.{called_at}
use Rattle.c_timed.proofs.summary.direct_snapshot.Goals as goal

pub returns-in_default : goal.returns-in_default
unfolding snapshots_in
returns-in_default c = simp (c.too_long.ensures, c.account_in-a.ensures, no-prices _ (sym c.read_prices.ensures ∙ c.in_default.is))

pub returns-then-figures-ne32 : goal.returns-then-figures-ne32
unfolding snapshots_in
returns-then-figures-ne32 c =
    simp (c.too_long-then-figures-ne32.ensures, c.account_in-a.ensures, prices-whole _ (sym c.read_prices.ensures ∙ c.in-Some.is), ne_eqb _ _ c.if-figures-ne32.true)

pub returns-then-weights-ne1024 : goal.returns-then-weights-ne1024
unfolding snapshots_in
returns-then-weights-ne1024 c =
    simp (
      c.too_long-then-weights-ne1024.ensures,
      c.account_in-a.ensures,
      prices-whole _ (sym c.read_prices.ensures ∙ c.in-Some.is),
      eq-eqb _ _ c.if-figures-ne32.false,
      ne_eqb _ _ c.if-weights-ne1024.true,
    )

pub shared_ref_as_front-priced : goal.shared_ref_as_front-priced
shared_ref_as_front-priced c = prices-small _ (sym c.read_prices.ensures ∙ c.in-Some.is)

pub returns : goal.returns
unfolding snapshots_in
returns c =
    let s = c.args in
    let p = sym c.read_prices.ensures ∙ c.in-Some.is in
    let made = called_at told_snapshot s.account.now s.prices.now c.account_in-a.ensures p c.snapshots.ensures in
    simp (prices-whole _ p, eq-eqb _ _ c.if-figures-ne32.false, eq-eqb _ _ c.if-weights-ne1024.false)
    (c.leave_both.ensures ∙ ap (λ x. left_both x s.figures.now s.weights.now) made)
