-- The plan of an account's columns is its plan, and running the columns that it stands in is the rebalance.
use Prim.Native.Nat.{ℕ, zero, suc, ◌+◌, ◌≤◌}
use mathlib.Core.Path.{◌≡◌, refl, sym, ap, subst, ◌∙◌}
use mathlib.Core.Bool.{Bool, true, false}
use mathlib.Core.List.{List, [], ◌∷◌, map}
use native.Mathlib.Omega.{arith}
use native.Mathlib.Numerals.{add-one}
use lib.Dec.{leb}
use lib.ListN.{length, drop}
use lib.IntN.{ℤ, pos}
use lib.Signed.{le_z}
use lib.Ieee.{Float}
use borrow.Author.Tests.{leb-true, le-leb}
use Rattle.table.specs.Keyed.{pick}
use Rattle.table.specs.Rows.{columns_of}
use Rattle.call_lists.specs.Lists.{price_of}
use Rattle.account.specs.declared.account.Account.{Account}
use Rattle.account.specs.declared.settings.Settings.{Settings}
use Rattle.account.specs.Account.{held_in}
use Rattle.account.proofs.SoundAccounts.{account-ordered}
use Rattle.wanted.specs.declared.planned.PlannedOrder.{PlannedOrder}
use Rattle.wanted.specs.Equity.{equity_of}
use Rattle.wanted.specs.Plan.{closings, targetings, wanted}
use Rattle.wanted.specs.Inner.Plan.{order_count_of}
use Rattle.wanted.proofs.Plans.{targetings-length}
use Rattle.wanted.proofs.Room.{count-append, count_most, orders_at_most}
use Rattle.fills.specs.declared.record.ExecutionKind.{ExecutionKind}
use Rattle.fills.specs.Inner.Runs.{orders}
use Rattle.fills.proofs.Running.{next-order, no_order}
use Rattle.admission.specs.Admission.{added_all, admitted}
use Rattle.admission.specs.Running.{parted, sorted_with, cash_first_of, in_running_order, notional_from}
use Rattle.admission.specs.Inner.Columns.{PlanCols, FullPlan, from, order_at, plans}
use Rattle.admission.proofs.Plans.{plans-few, plans-length, shorter-same}
use Rattle.admission.proofs.Kept.{running_length}
use Rattle.plan.specs.declared.plan.Planned.{Planned}
use Rattle.plan.specs.Inner.Adding.{wanted_at}
use Rattle.plan.specs.Inner.Planning.{standing, plan_made}
use Rattle.plan.proofs.Held.{wanted_of_rows, plan_of_rows}
use Rattle.plan.proofs.Made.{PlanStands, made_stands}
use Rattle.portfolio.specs.Answers.{has_room_of, not_held}
use Rattle.portfolio.specs.Rebalance.{order_of, admitted_plan, after_plan, after_rebalance}
use Rattle.portfolio.specs.Inner.Trades.{after_orders}
use Rattle.portfolio.specs.Inner.Planned.{equity_at, plan_at, PlansFromCash, Ready}
use Rattle.portfolio.proofs.Worths.{equity_of_places}

-- ---- the plan of the places
no_run : (s : Settings) → in_running_order s [] ≡ []
unfolding in_running_order cash_first_of parted sorted_with
no_run s = go s.cash_first
  where
    go : (b : Bool) → pick b (cash_first_of s.rules.cost_model []) [] ≡ []
    go true = refl
    go false = refl

no_plan : (s : Settings) (c : PlanCols) → FullPlan c → PlanStands s [] c (record { count = 0; notional = pos 0 })
unfolding notional_from
no_plan s c f = record { full = f; few = omega arith; same = plans-few 0 c (omega arith) ∙ sym (no_run s); notional = refl }

-- ---- of an account
module _ (a : Account) (ts : List ℕ) (ws : List Float) (ps : List ℕ) (room : ℕ) (y : Ready a ts ws ps room) (price : ℕ → ℤ) where
  abbrev own : ℤ
  own = equity_of price a.cash (held_in a.positions)

  abbrev at_places : ℤ
  at_places = equity_at price a.cash a.positions.count a.positions.columns.symbol a.positions.columns.quantity

  own_equity : at_places ≡ own
  own_equity = equity_of_places price a y.sound y.full

  abbrev wanted_at_lem : List PlannedOrder
  wanted_at_lem = wanted_at a.settings at_places price a.positions.count a.positions.columns.symbol a.positions.columns.quantity ts ws

  plan_of_account : pick (le_z at_places (pos 0)) [] (admitted a.settings (added_all a.settings wanted_at_lem [])) ≡ admitted_plan a ts ws price
  unfolding admitted_plan
  plan_of_account =
      rw own_equity
      (ap (pick (le_z own (pos 0)) []) (plan_of_rows a.settings own price ts (columns_of a.positions) ws a.positions.count (account-ordered a y.sound y.full) y.paired))

  few-wanted : (equity : ℤ) → order_count_of (wanted a.settings equity price (held_in a.positions) ts ws) ≤ 64
  unfolding wanted not_held
  few-wanted equity =
      let held = held_in a.positions in
      let cs = closings a.settings equity price ts held in
      let gs = targetings a.settings equity price held ts ws in
      omega (
        arith,
        count-append cs gs,
        count_most gs,
        targetings-length a.settings equity price held ts ws y.paired,
        orders_at_most held (λ l. not_held l held) (λ t l. refl) a.settings equity price ts y.apart,
        y.few,
      )

  few-orders : order_count_of wanted_at_lem ≤ 64
  few-orders =
      rw (wanted_of_rows a.settings at_places price ts (columns_of a.positions) ws a.positions.count (account-ordered a y.sound y.full) y.paired) (few-wanted at_places)

  -- at equity 0 or below, or else
  stands_by : (b : Bool) (k c : PlanCols) (r : Planned) → FullPlan k
      → standing c r ≡ pick b (standing k (record { count = 0; notional = pos 0 })) (plan_made a.settings at_places price a.positions.count a.positions.columns.symbol a.positions.columns.quantity ts ws k)
      → PlanStands a.settings (pick b [] (admitted a.settings (added_all a.settings wanted_at_lem []))) c r
  stands_by true k c r f e = rw (ap (λ x. x.columns) e, ap (λ x. x.planned) e) (no_plan a.settings k f)
  stands_by false k c r f e = made_stands a.settings at_places price a.positions.count a.positions.columns.symbol a.positions.columns.quantity ts ws k f few-orders c r e

-- what the function that plans it answers
pub account_stands : (a : Account) (ts : List ℕ) (ws : List Float) (ps : List ℕ) (vs : List ℤ) (room : ℕ) → Ready a ts ws ps room → (k c : PlanCols) (r : Planned)
    → FullPlan k → PlansFromCash a.settings a.cash a.positions.columns.symbol a.positions.columns.quantity a.positions.count ts ws ps vs k c r → PlanStands a.settings (admitted_plan a ts ws (price_of ps vs)) c r
unfolding plan_at
account_stands a ts ws ps vs room y k c r f p =
    let price = price_of ps vs in
    subst (λ plan. PlanStands a.settings plan c r) (plan_of_account a ts ws ps room y price)
    (stands_by a ts ws ps room y price (le_z (at_places a ts ws ps room y price) (pos 0)) k c r f (p.settled y.priced (account-ordered a y.sound y.full).rising))

-- ---- the columns of a plan as orders
orders-from : (c : PlanCols) → FullPlan c → (n i k : ℕ) → n ≤ 64 → i + k ≡ n → drop i (orders n c.symbol c.quantity c.price) ≡ map order_of (from (order_at c) i k)
orders-from c f n i zero h e = no_order n c.symbol c.quantity c.price f.symbol f.quantity f.price i (omega arith)
orders-from c f n i (suc k) h e =
    next-order n c.symbol c.quantity c.price f.symbol f.quantity f.price i (omega arith)
    ∙ ap (λ l. order_of (order_at c i) ∷ l) (rw add-one (orders-from c f n (suc i) k h (omega arith)))

pub orders_of_plan : (n : ℕ) (c : PlanCols) → FullPlan c → n ≤ 64 → orders n c.symbol c.quantity c.price ≡ map order_of (plans n c)
orders_of_plan n c f h = orders-from c f n 0 n h (omega arith) ∙ sym (ap (map order_of) (plans-few n c h))

-- ---- the run is the rebalance
pub room_for : (a : Account) (m room : ℕ) → m ≤ 64 → has_room_of a 64 room ≡ true → has_room_of a m room ≡ true
unfolding has_room_of
room_for a m room h e = go a.settings.recording e
  where
    go : (b : Bool) → pick b (leb 64 room) true ≡ true → pick b (leb m room) true ≡ true
    go true q = le-leb m room (omega (arith, leb-true 64 room q, h))
    go false q = refl

module _ (a : Account) (plan : List PlannedOrder) (c : PlanCols) (r : Planned) (h : PlanStands a.settings plan c r) where
  counted : r.count ≡ length plan
  counted = omega (arith, ap length h.same, running_length a.settings plan, plans-length r.count c, shorter-same r.count 64 h.few)

  pub run_rebalances : (period : ℕ) (kind : ExecutionKind) → after_orders a (orders r.count c.symbol c.quantity c.price) period kind r.count r.notional ≡ after_rebalance a plan period kind
  unfolding after_rebalance after_plan
  run_rebalances period kind =
      let run : orders r.count c.symbol c.quantity c.price ≡ map order_of (in_running_order a.settings plan) = orders_of_plan r.count c h.full h.few ∙ ap (map order_of) h.same in
      ap (λ os. after_orders a os period kind r.count r.notional) run
      ∙ ap (λ n. after_orders a (map order_of (in_running_order a.settings plan)) period kind n r.notional) counted
      ∙ ap (after_orders a (map order_of (in_running_order a.settings plan)) period kind (length plan)) h.notional
