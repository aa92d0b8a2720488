-- What a rebalance's plan comes to: its orders in running order, their count and their notional.
use Rattle.std.specs.Prelude.{ℕ, ◌≡◌, List, ℤ, pos, take, Float}
use Rattle.table.specs.Keyed.{pick}
use Rattle.table.specs.Inner.Keyed.{Rising}
use Rattle.call_lists.specs.Lists.{price_of}
use Rattle.account.specs.declared.settings.Settings.{Settings}
use Rattle.admission.specs.Running.{notional_from}
use Rattle.admission.specs.Inner.Columns.{PlanCols, plans, CountedPlan, counted_plan}
use Rattle.admission.specs.Inner.Offers.{cut_plan}
use Rattle.admission.specs.Inner.Running.{run_plan}
use Rattle.plan.specs.declared.plan.Planned.{Planned}
use Rattle.plan.specs.Inner.Adding.{added_all_to, wanted_at}

-- a plan where it stands: the columns, and the count and notional of its orders
pub record Standing : Type 0 where
  pub columns : PlanCols
  pub planned : Planned

abbrev pub standing : PlanCols → Planned → Standing
standing c r = record { columns = c; planned = r }

-- an admitted plan with what it comes to, put into running order in cash-first mode
abbrev pub summed : Settings → CountedPlan → Standing
summed s t =
    let u = pick s.cash_first (run_plan s.rules.cost_model t) t in
    standing u.columns (record { count = u.count; notional = notional_from (pos 0) (plans t.count t.columns) })

-- the plan of what is wanted, made in the columns c
unfoldable pub plan_made : Settings → ℤ → (ℕ → ℤ) → ℕ → List ℕ → List ℤ → List ℕ → List Float → PlanCols → Standing
plan_made s equity price n ks qs targets weights c = summed s (cut_plan s (added_all_to s (wanted_at s equity price n ks qs targets weights) (counted_plan 0 c)))

-- the columns c to d, where the symbols of the prices and those of the holdings ascend
pub record Plans (s : Settings) (equity : ℤ) (ks : List ℕ) (qs : List ℤ) (n : ℕ) (targets : List ℕ) (weights : List Float) (symbols : List ℕ) (prices : List ℤ) (c d : PlanCols) (r : Planned) : Type 0 where
  pub settled : Rising symbols → Rising (take n ks) → standing d r ≡ plan_made s equity (price_of symbols prices) n ks qs targets weights c
