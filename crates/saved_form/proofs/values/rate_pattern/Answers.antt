-- The pattern, but that of -0.0 becomes 0.
use mathlib.Core.Path.{sym, ◌∙◌}
use borrow.Author.Tests.{eq-eqb, ne_eqb}
use Rattle.saved_form.specs.Values.{rate_pattern}
use Rattle.saved_form.proofs.values.rate_pattern.Goals as goal

pub returns-then-w : goal.returns-then-w
unfolding rate_pattern
returns-then-w c = simp (eq-eqb _ _ (sym c.pattern-w.ensures ∙ c.if-w.true))

pub returns-else-w : goal.returns-else-w
unfolding rate_pattern
returns-else-w c = simp (ne_eqb _ _ (λ e. c.if-w.false (c.pattern-w.ensures ∙ e))) c.pattern-w.ensures
