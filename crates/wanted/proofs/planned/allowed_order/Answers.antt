-- Quantity 0 within the band, else what the limits leave.
use mathlib.Core.Path.{sym, ap, ◌∙◌}
use mir.Facts.{to_z-of_z}
use Rattle.wanted.specs.Plan.{planned, allowed_order}
use Rattle.wanted.proofs.Plans.{priced}
use Rattle.wanted.proofs.planned.allowed_order.Goals as goal

pub returns-then-within_band : goal.returns-then-within_band
unfolding allowed_order
returns-then-within_band c =
    let t = sym c.within_band.ensures ∙ c.if-within_band.true in
    simp (t, to_z-of_z c.ranges.price) (ap (priced c.args.price c.args.drift_bps) c.passed_over.ensures)

pub returns-else-within_band : goal.returns-else-within_band
unfolding allowed_order
returns-else-within_band c =
    let t = sym c.within_band.ensures ∙ c.if-within_band.false in
    let e = simp (to_z-of_z c.ranges.price) at c.limited.ensures in
    simp (t, to_z-of_z c.ranges.price) (ap (λ q. planned c.args.symbol.0 q c.args.price c.args.drift_bps) e)
