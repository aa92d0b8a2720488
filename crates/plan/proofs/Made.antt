-- A plan that is made stands in its columns: the admitted orders, in running order.
use Prim.Native.Nat.{ℕ, ◌≤◌}
use mathlib.Core.Path.{◌≡◌, sym, ap, subst, ◌∙◌}
use mathlib.Core.Bool.{Bool, true, false}
use mathlib.Core.List.{List, []}
use native.Mathlib.Omega.{arith}
use lib.IntN.{ℤ, pos}
use lib.Ieee.{Float}
use lib.Seq.{take-nil}
use Rattle.table.specs.Keyed.{pick}
use Rattle.account.specs.declared.settings.Settings.{Settings}
use Rattle.wanted.specs.declared.planned.PlannedOrder.{PlannedOrder}
use Rattle.wanted.specs.Inner.Plan.{order_count_of}
use Rattle.admission.specs.Admission.{added_all, admitted}
use Rattle.admission.specs.Inner.Admission.{most_of}
use Rattle.admission.specs.Inner.Columns.{PlanCols, FullPlan, plans, CountedPlan, counted_plan}
use Rattle.admission.specs.Inner.Offers.{cut_plan}
use Rattle.admission.specs.Running.{cash_first_of, in_running_order, notional_from}
use Rattle.admission.specs.Inner.Running.{run_plan}
use Rattle.admission.proofs.Limited.{admitted-take}
use Rattle.admission.proofs.Plans.{plans-few}
use Rattle.admission.proofs.Standing.{Stood, cut_stands, run_stands}
use Rattle.plan.specs.declared.plan.Planned.{Planned}
use Rattle.plan.specs.Inner.Adding.{added_all_to, wanted_at}
use Rattle.plan.specs.Inner.Planning.{standing, summed, plan_made}
use Rattle.plan.proofs.Adding.{Added, all_lists, added-few}

-- ---- an admitted plan, run as it stands or by cash
module _ (s : Settings) (n : ℕ) (c : PlanCols) (v : ℤ) (sum : v ≡ notional_from (pos 0) (plans n c)) where
  pub as_planned : s.cash_first ≡ false → standing c (record { count = n; notional = v }) ≡ summed s (counted_plan n c)
  as_planned e = rw (e, sum)

  pub by_cash : (t : CountedPlan) → s.cash_first ≡ true → t ≡ run_plan s.rules.cost_model (counted_plan n c) → standing t.columns (record { count = t.count; notional = v }) ≡ summed s (counted_plan n c)
  by_cash t e h = rw (e, sum, h)

-- ---- what callers cite: full columns hold the plan
pub record PlanStands (s : Settings) (plan : List PlannedOrder) (c : PlanCols) (r : Planned) : Type 0 where
  pub full : FullPlan c
  pub few : r.count ≤ 64
  pub same : plans r.count c ≡ in_running_order s plan
  pub notional : r.notional ≡ notional_from (pos 0) plan

module _ (s : Settings) (wanted : List PlannedOrder) (c : PlanCols) (f : FullPlan c) (h : order_count_of wanted ≤ 64) where
  abbrev listed : CountedPlan
  listed = added_all_to s wanted (counted_plan 0 c)

  abbrev plan : List PlannedOrder
  plan = admitted s (added_all s wanted [])

  all : Added s wanted 0 [] listed
  all = all_lists s wanted 0 c [] f (omega arith) (plans-few 0 c (omega arith) ∙ sym (take-nil (most_of s)))

  stood : Stood plan (cut_plan s listed)
  stood =
      subst (λ l. Stood l (cut_plan s listed))
      (ap (admitted s) all.same ∙ admitted-take s (added_all s wanted []) (omega (arith, added-few s wanted [], h)))
      (cut_stands s listed.count listed.columns all.full)

  running : Stood (in_running_order s plan) (pick s.cash_first (run_plan s.rules.cost_model (cut_plan s listed)) (cut_plan s listed))
  unfolding in_running_order
  running = go s.cash_first
    where
      go : (b : Bool) → Stood (pick b (cash_first_of s.rules.cost_model plan) plan) (pick b (run_plan s.rules.cost_model (cut_plan s listed)) (cut_plan s listed))
      go true =
          subst (λ l. Stood (cash_first_of s.rules.cost_model l) (run_plan s.rules.cost_model (cut_plan s listed))) stood.same
          (run_stands s.rules.cost_model (cut_plan s listed).count (cut_plan s listed).columns stood.full)
      go false = stood

  stands : (d : PlanCols) (r : Planned) → standing d r ≡ summed s (cut_plan s listed) → PlanStands s plan d r
  stands d r e =
      let k : d ≡ (summed s (cut_plan s listed)).columns = ap (λ x. x.columns) e in
      let n : r.count ≡ (summed s (cut_plan s listed)).planned.count = ap (λ x. x.planned.count) e in
      record { full = rw k running.full; few = rw n running.few; same = rw (k, n) running.same; notional = ap (λ x. x.planned.notional) e ∙ ap (notional_from (pos 0)) stood.same }

pub made_stands : (s : Settings) (equity : ℤ) (price : ℕ → ℤ) (n : ℕ) (ks : List ℕ) (qs : List ℤ) (targets : List ℕ) (weights : List Float) (c : PlanCols) → FullPlan c
    → order_count_of (wanted_at s equity price n ks qs targets weights) ≤ 64 → (d : PlanCols) (r : Planned) → standing d r ≡ plan_made s equity price n ks qs targets weights c
    → PlanStands s (admitted s (added_all s (wanted_at s equity price n ks qs targets weights) [])) d r
unfolding plan_made
made_stands s equity price n ks qs targets weights c f h d r e = stands s (wanted_at s equity price n ks qs targets weights) c f h d r e
