-- The closes, then the targets, then the caps.
use mathlib.Core.Path.{sym, ap, ◌∙◌}
use mir.Facts.{to_z-of_z}
use Rattle.admission.specs.Inner.Offers.{cut_plan}
use Rattle.plan.specs.Inner.Adding.{added_all_to, wanted_at}
use Rattle.plan.proofs.Adding.{added-append}
use Rattle.plan.proofs.plan.admit_plan.Goals as goal

pub returns : goal.returns
unfolding wanted_at
returns c =
    let pt = c.plan_targets-wanted in
    let a = c.args in
    let fe = c.ranges.equity in
    record {
      settled = λ rs rk.
          let e = simp (to_z-of_z fe) at (c.plan_closes-closes.ensures.settled rs) in
          let g = simp (to_z-of_z fe) at (pt.ensures.settled rs rk) in
          c.admit.ensures _ _ ∙ ap (cut_plan a.s) (g ∙ ap (added_all_to a.s _) e ∙ sym (added-append a.s _ _ _));
    }
