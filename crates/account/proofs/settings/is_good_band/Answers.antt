-- The two tests in turn.
use mathlib.Core.Path.{◌∙◌, sym}
use lib.Ieee.{of_bits}
use Rattle.cost_model.specs.Costs.{good_rate}
use Rattle.account.proofs.settings.is_good_band.Goals as goal

pub returns-then-is_finite : goal.returns-then-is_finite
unfolding good_rate of_bits
returns-then-is_finite c = let t = sym c.is_finite.ensures ∙ c.if-is_finite.true in simp t

pub returns-else-is_finite : goal.returns-else-is_finite
unfolding good_rate
returns-else-is_finite c = let t = sym c.is_finite.ensures ∙ c.if-is_finite.false in simp t c.if-is_finite.false
