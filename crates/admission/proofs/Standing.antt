-- A plan that was cut, or put into running order, stands in the first places of its columns.
use Prim.Native.Nat.{ℕ, ◌≤◌}
use mathlib.Core.Path.{◌≡◌, refl, ap}
use mathlib.Core.List.{List}
use native.Mathlib.Omega.{arith}
use lib.IntN.{pos}
use lib.Ieee.{nan}
use lib.ListN.{length}
use Rattle.cost_model.specs.declared.CostModel.{CostModel}
use Rattle.table.specs.Inner.Places.{shorter}
use Rattle.table.proofs.Places.{shorter-within}
use Rattle.account.specs.declared.settings.Settings.{Settings}
use Rattle.wanted.specs.declared.planned.PlannedOrder.{PlannedOrder}
use Rattle.admission.specs.Admission.{admitted}
use Rattle.admission.specs.Inner.Columns.{PlanCols, FullPlan, order_at, from, plans, CountedPlan, counted_plan, laid_plan}
use Rattle.admission.specs.Inner.Offers.{cut_plan}
use Rattle.admission.specs.Running.{cash_first_of}
use Rattle.admission.specs.Inner.Running.{run_plan}
use Rattle.admission.proofs.Plans.{from-length, plans-length}
use Rattle.admission.proofs.Laying.{same-cols, full-laid, plans-laid}
use Rattle.admission.proofs.Admitting.{kept_front}
use Rattle.admission.proofs.Kept.{admitted-length, cash_first-length}

-- the orders l stand in t
pub record Stood (l : List PlannedOrder) (t : CountedPlan) : Type 0 where
  pub full : FullPlan t.columns
  pub few : t.count ≤ 64
  pub same : plans t.count t.columns ≡ l

laid_stands : (l : List PlannedOrder) (c : PlanCols) → length l ≤ 64 → FullPlan c → Stood l (counted_plan (length l) (laid_plan l c))
laid_stands l c h f = record { full = full-laid l c h f; few = h; same = plans-laid l c h }

plans-most : (n : ℕ) (c : PlanCols) → length (plans n c) ≤ 64
plans-most n c = omega (arith, plans-length n c, shorter-within n 64)

module _ (s : Settings) (n : ℕ) (c : PlanCols) (f : FullPlan c) where
  abbrev m : ℕ
  m = shorter n 64

  abbrev l : List PlannedOrder
  l = admitted s (from (order_at c) 0 m)

  l_few : length l ≤ m
  l_few = omega (arith, admitted-length s (from (order_at c) 0 m), from-length (order_at c) 0 m)

  -- admission writes quantities alone, as the other columns hold those of its orders
  cut_laid : cut_plan s (counted_plan n c) ≡ counted_plan (length (admitted s (plans n c))) (laid_plan (admitted s (plans n c)) c)
  unfolding cut_plan plans
  cut_laid =
      ap (counted_plan (length l))
      (same-cols
      (kept_front s (λ o. o.symbol.0) (λ o cut. refl) c.symbol 0 (order_at c) (λ j. refl) m (omega (arith, f.symbol, shorter-within n 64)) l_few)
      refl
      (kept_front s (λ o. o.price) (λ o cut. refl) c.price (pos 0) (order_at c) (λ j. refl) m (omega (arith, f.price, shorter-within n 64)) l_few)
      (kept_front s (λ o. o.drift_bps) (λ o cut. refl) c.drift nan (order_at c) (λ j. refl) m (omega (arith, f.drift, shorter-within n 64)) l_few))

  pub cut_stands : Stood (admitted s (plans n c)) (cut_plan s (counted_plan n c))
  cut_stands = rw cut_laid (laid_stands (admitted s (plans n c)) c (omega (arith, admitted-length s (plans n c), plans-most n c)) f)

pub run_stands : (costs : CostModel) (n : ℕ) (c : PlanCols) → FullPlan c → Stood (cash_first_of costs (plans n c)) (run_plan costs (counted_plan n c))
unfolding run_plan
run_stands costs n c f = laid_stands (cash_first_of costs (plans n c)) c (omega (arith, cash_first-length costs (plans n c), plans-most n c)) f
