-- The cut by the same formula, then the two tests.
use mathlib.Core.Path.{sym, ap, ◌∙◌}
use lib.Signed.{lt_z}
use mir.Syntax.{w64}
use mir.Val.{SFits}
use mir.Facts.{to_z-of_z}
use Rattle.sums.proofs.Laws.{notional-fits}
use Rattle.admission.proofs.Admitting.{part_zero, part_small, part_kept}
use borrow.Author.Rules.{rules}
use mathlib.Core.Bool.{true≢false}
use Rattle.admission.proofs.cap.offer_part.Goals as goal
use Rattle.admission.proofs.cap.offer_part.Goals.{then-is_zero, else-is_zero}

pub returns-then-notional_of-s : goal.returns-then-notional_of-s
returns-then-notional_of-s c =
    let a = c.args in
    let step : SFits w64 a.s.quantity_step = search rules in
    let least : SFits w64 a.s.min_order_value = search rules in
    let cut = simp (to_z-of_z c.ranges.price, to_z-of_z c.ranges.left, to_z-of_z step) at c.truncate_qty_to_max_value-cut.ensures in
    elim c.if-is_zero.branch [
      | then-is_zero w ↦ part_zero a.s a.left a.quantity.0 a.price _ cut (sym c.is_zero.ensures ∙ w.if-is_zero.true)
      | else-is_zero w ↦
          let worth = simp (to_z-of_z c.ranges.price) at w.notional_of.ensures in
          let fit : SFits w64 w.notional_of.result = rw worth (notional-fits _ _) in
          part_small a.s a.left a.quantity.0 a.price _ cut (sym c.is_zero.ensures ∙ w.if-is_zero.false)
          (ap (λ v. lt_z v a.s.min_order_value) (sym worth) ∙ simp (to_z-of_z fit, to_z-of_z least) at (sym w.value-is ∙ c.if-notional_of-s.true))
    ]

pub returns-else-notional_of-s : goal.returns-else-notional_of-s
returns-else-notional_of-s c =
    let a = c.args in
    let step : SFits w64 a.s.quantity_step = search rules in
    let least : SFits w64 a.s.min_order_value = search rules in
    let cut = simp (to_z-of_z c.ranges.price, to_z-of_z c.ranges.left, to_z-of_z step) at c.truncate_qty_to_max_value-cut.ensures in
    elim c.if-is_zero.branch [
      | then-is_zero w ↦ absurd (true≢false (sym w.if-is_zero.true ∙ sym w.value-is ∙ c.if-notional_of-s.false))
      | else-is_zero w ↦
          let worth = simp (to_z-of_z c.ranges.price) at w.notional_of.ensures in
          let fit : SFits w64 w.notional_of.result = rw worth (notional-fits _ _) in
          part_kept a.s a.left a.quantity.0 a.price _ cut (sym c.is_zero.ensures ∙ w.if-is_zero.false)
          (ap (λ v. lt_z v a.s.min_order_value) (sym worth) ∙ simp (to_z-of_z fit, to_z-of_z least) at (sym w.value-is ∙ c.if-notional_of-s.false))
    ]
