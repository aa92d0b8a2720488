-- A rebalance as its functions go: targets that a column lacks, the plan of the places of two columns, and what a call that is not refused has.
use Rattle.std.specs.Prelude.{ℕ, ◌+◌, ◌≤◌, ◌≡◌, true, List, [], ◌∷◌, length, take, ℤ, pos, Float}
use Rattle.std.specs.Int.Signed.{le_z}
use Rattle.sums.specs.Sums.{sat_add}
use Rattle.table.specs.Keyed.{pick}
use Rattle.table.specs.Inner.Keyed.{Rising}
use Rattle.table.specs.Inner.Places.{shorter, found}
use Rattle.table.specs.declared.found.Found.{Found}
use Rattle.table.specs.declared.found.Found.TheVariants.{At, Absent}
use Rattle.table.specs.Rows.{columns_of, Full}
use Rattle.call_lists.specs.Lists.{distinct, price_of}
use Rattle.account.specs.declared.account.Account.{Account}
use Rattle.account.specs.declared.settings.Settings.{Settings}
use Rattle.account.specs.Account.{sound_account, held_in}
use Rattle.wanted.specs.Inner.Equity.{worth_places}
use Rattle.admission.specs.Inner.Columns.{PlanCols}
use Rattle.plan.specs.declared.plan.Planned.{Planned}
use Rattle.plan.specs.Inner.Planning.{Standing, standing, plan_made}
use Rattle.portfolio.specs.Answers.{has_room_of, not_held}

-- ---- targets that are not held
abbrev pub lacked_by : Found → ℕ
lacked_by (At i) = 0
lacked_by (Absent i) = 1

-- how many of them a column lacks
unfoldable pub lacking : List ℕ → List ℕ → ℕ
lacking [] ks = 0
lacking (t ∷ l) ks = lacked_by (found t ks) + lacking l ks

-- r of the targets are not among the first n places, where their symbols ascend
pub record Lacking (ks : List ℕ) (n : ℕ) (targets : List ℕ) (r : ℕ) : Type 0 where
  pub most : r ≤ length targets
  pub settled : Rising (take n ks) → r ≡ lacking targets (take n ks)

-- ---- the plan of the places of two columns
abbrev pub equity_at : (ℕ → ℤ) → ℤ → ℕ → List ℕ → List ℤ → ℤ
equity_at price cash n ks qs = sat_add cash (worth_places price (shorter n 64) ks qs)

-- "At equity 0 or below the call is done with no orders and both last-rebalance figures 0"
unfoldable pub plan_at : Settings → ℤ → (ℕ → ℤ) → ℕ → List ℕ → List ℤ → List ℕ → List Float → PlanCols → Standing
plan_at s cash price n ks qs targets weights c =
    let equity = equity_at price cash n ks qs in
    pick (le_z equity (pos 0)) (standing c (record { count = 0; notional = pos 0 })) (plan_made s equity price n ks qs targets weights c)

-- the columns c to d, where the symbols of the prices and those of the holdings ascend
pub record PlansFromCash (s : Settings) (cash : ℤ) (ks : List ℕ) (qs : List ℤ) (n : ℕ) (targets : List ℕ) (weights : List Float) (symbols : List ℕ) (prices : List ℤ) (c d : PlanCols) (r : Planned) : Type 0 where
  pub settled : Rising symbols → Rising (take n ks) → standing d r ≡ plan_at s cash (price_of symbols prices) n ks qs targets weights c

-- ---- a rebalance that is not refused, at prices whose symbols ascend
pub record Ready (a : Account) (targets : List ℕ) (weights : List Float) (symbols : List ℕ) (room : ℕ) : Type 0 where
  pub sound : sound_account a ≡ true
  pub full : Full (columns_of a.positions)
  pub paired : length targets ≡ length weights
  pub apart : distinct targets ≡ true
  pub priced : Rising symbols
  pub roomy : has_room_of a 64 room ≡ true
  pub few : length (held_in a.positions) + not_held targets (held_in a.positions) ≤ 64
