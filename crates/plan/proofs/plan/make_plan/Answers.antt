-- The admitted plan with its sum, as it stands or run by cash.
use mathlib.Core.Path.{ap, ◌∙◌}
use borrow.Author.Rules.{rules}
use mir.Syntax.{w64}
use mir.Val.{SFits}
use mir.Facts.{to_z-of_z}
use Rattle.plan.specs.Inner.Planning.{summed, plan_made}
use Rattle.plan.proofs.Made.{as_planned, by_cash}
use Rattle.plan.proofs.plan.make_plan.Goals as goal

pub returns-then-s : goal.returns-then-s
unfolding plan_made
returns-then-s c =
    let v = c.notional_sum-notional in
    let f : SFits w64 v.result = search rules in
    record {
      settled = λ rs rk.
          simp (to_z-of_z f)
          (by_cash c.args.s _ _ _ (v.ensures _ _) _ c.if-s.true c.run_order-ran.ensures
          ∙ ap (summed c.args.s) ((simp (to_z-of_z c.ranges.equity) at c.admit_plan-count.ensures.settled) rs rk));
    }

pub returns : goal.returns
unfolding plan_made
returns c =
    let v = c.notional_sum-notional in
    let f : SFits w64 v.result = search rules in
    record {
      settled = λ rs rk.
          simp (to_z-of_z f)
          (as_planned c.args.s _ _ _ (v.ensures _ _) c.if-s.false
          ∙ ap (summed c.args.s) ((simp (to_z-of_z c.ranges.equity) at c.admit_plan-count.ensures.settled) rs rk));
    }
