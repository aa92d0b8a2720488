-- Orders added to the columns of a plan one after another, and the orders that the places of a table and of the targets ask for.
use Rattle.std.specs.Prelude.{ℕ, ◌≡◌, List, [], ◌∷◌, ◌++◌, ℤ, pos, length, take, get_or, ltb, Float}
use Rattle.std.specs.Float.{nan}
use Rattle.table.specs.Keyed.{pick}
use Rattle.table.specs.Inner.Keyed.{Rising}
use Rattle.table.specs.Inner.Places.{shorter, found}
use Rattle.table.specs.declared.found.Found.{Found}
use Rattle.table.specs.declared.found.Found.TheVariants.{At, Absent}
use Rattle.call_lists.specs.Lists.{among, price_of}
use Rattle.account.specs.declared.settings.Settings.{Settings}
use Rattle.wanted.specs.declared.planned.PlannedOrder.{PlannedOrder}
use Rattle.wanted.specs.Plan.{planned_close, planned_target}
use Rattle.admission.specs.Admission.{capped}
use Rattle.admission.specs.Inner.Admission.{most_of}
use Rattle.admission.specs.Inner.Columns.{from, CountedPlan, counted_plan, added_to}
use Rattle.admission.specs.Inner.Offers.{cut_plan}

-- one order more, in a plan that is kept to the most that its trade cap admits
abbrev pub kept_with : Settings → PlannedOrder → CountedPlan → CountedPlan
kept_with s o t = let u = added_to (capped s) o t in counted_plan (shorter u.count (most_of s)) u.columns

unfoldable pub added_all_to : Settings → List PlannedOrder → CountedPlan → CountedPlan
added_all_to s [] t = t
added_all_to s (o ∷ os) t = added_all_to s os (kept_with s o t)

-- the close of the holding at a place of a column of symbols and a column of quantities
abbrev pub close_at : Settings → ℤ → (ℕ → ℤ) → List ℕ → List ℕ → List ℤ → ℕ → PlannedOrder
close_at s equity price targets ks qs i =
    planned_close s equity (get_or ks i 0) (get_or qs i (pos 0)) (price (get_or ks i 0)) (among (get_or ks i 0) targets)

-- those of the places in use, "in symbol order"
unfoldable pub closes_at : Settings → ℤ → (ℕ → ℤ) → List ℕ → ℕ → List ℕ → List ℤ → List PlannedOrder
closes_at s equity price targets n ks qs = from (close_at s equity price targets ks qs) 0 (shorter n 64)

-- the plan t to u: the closes are added, where the symbols of the prices ascend
pub record PlansCloses (s : Settings) (equity : ℤ) (ks : List ℕ) (qs : List ℤ) (n : ℕ) (targets symbols : List ℕ) (prices : List ℤ) (t u : CountedPlan) : Type 0 where
  pub settled : Rising symbols → u ≡ added_all_to s (closes_at s equity (price_of symbols prices) targets n ks qs) t

-- the quantity at a place that was found, 0 where none was
abbrev pub quantity_at : Found → List ℤ → ℤ
quantity_at (At i) qs = pick (ltb i 64) (get_or qs i (pos 0)) (pos 0)
quantity_at (Absent i) qs = pos 0

-- r is the quantity of the symbol among the first n places, where their symbols ascend
pub record HoldsQuantity (ks : List ℕ) (qs : List ℤ) (n s : ℕ) (r : ℤ) : Type 0 where
  pub settled : Rising (take n ks) → r ≡ quantity_at (found s (take n ks)) qs

-- the order for the target at a place of the list
abbrev pub target_at : Settings → ℤ → (ℕ → ℤ) → List ℕ → List ℤ → List ℕ → List Float → ℕ → PlannedOrder
target_at s equity price ks qs targets weights i =
    planned_target s equity (get_or targets i 0) (quantity_at (found (get_or targets i 0) ks) qs) (price (get_or targets i 0)) (get_or weights i nan)

-- "Then targets in list order", of the symbols and quantities that are held
unfoldable pub targets_at : Settings → ℤ → (ℕ → ℤ) → List ℕ → List ℤ → List ℕ → List Float → List PlannedOrder
targets_at s equity price ks qs targets weights = from (target_at s equity price ks qs targets weights) 0 (shorter (length targets) (length weights))

-- the plan t to u: the orders for the targets are added, where the symbols of the prices and those of the holdings ascend
pub record PlansTargets (s : Settings) (equity : ℤ) (ks : List ℕ) (qs : List ℤ) (n : ℕ) (targets : List ℕ) (weights : List Float) (symbols : List ℕ) (prices : List ℤ) (t u : CountedPlan) : Type 0 where
  pub settled : Rising symbols → Rising (take n ks) → u ≡ added_all_to s (targets_at s equity (price_of symbols prices) (take n ks) qs targets weights) t

-- all of them, in order
unfoldable pub wanted_at : Settings → ℤ → (ℕ → ℤ) → ℕ → List ℕ → List ℤ → List ℕ → List Float → List PlannedOrder
wanted_at s equity price n ks qs targets weights = closes_at s equity price targets n ks qs ++ targets_at s equity price (take n ks) qs targets weights

-- the plan t to u: these orders are added and cut to what the caps admit, where the symbols of the prices and those of the holdings ascend
pub record Makes (s : Settings) (equity : ℤ) (ks : List ℕ) (qs : List ℤ) (n : ℕ) (targets : List ℕ) (weights : List Float) (symbols : List ℕ) (prices : List ℤ) (t u : CountedPlan) : Type 0 where
  pub settled : Rising symbols → Rising (take n ks) → u ≡ cut_plan s (added_all_to s (wanted_at s equity (price_of symbols prices) n ks qs targets weights) t)
