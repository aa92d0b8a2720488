-- Cash-first mode runs those that lower no cash first, so condition 3 speaks of its running order; and the orders of a done rebalance are such as condition 3 asks.
use mathlib.Core.List.{List, [], ◌∷◌, ◌++◌, map, map-append}
use mathlib.Core.Bool.{Bool, true, false, not}
use mathlib.Core.Path.{◌≡◌, refl, sym, ap, ◌∙◌, subst}
use Rattle.table.specs.Keyed.{pick}
use Rattle.account.specs.declared.account.Account.{Account}
use Rattle.fills.specs.declared.terms.Order.{Order}
use Rattle.fills.specs.Fill.{fill_all}
use Rattle.call_lists.specs.Lists.{price_of}
use Rattle.wanted.specs.declared.planned.PlannedOrder.{PlannedOrder}
use Rattle.admission.specs.Running.{only, parted, by_symbol, cash_first_of, in_running_order}
use Rattle.portfolio.specs.Answers.{rebalance_answer}
use Rattle.portfolio.specs.Rebalance.{order_of, admitted_plan, account_after, after_plan, refused, after_rebalance, rebalanced}
use Rattle.portfolio.proofs.Refusals.{rebalance-done}
use Rattle.order.specs.Running.{Perm, then}
use Rattle.order.specs.Statement.{lowers, LowersLast, OrderIsFree}
use Rattle.order.specs.OnAccount.{Begins, OrdersOn}
use Rattle.order.specs.CashFirst.{Call, admitted_orders, run_orders, terms, begins, left, InCashFirst, FillsAll, Leaves, CarriesDemand3}
use Rattle.order.proofs.Perms.{perm_map, perm_parted, perm_sorted, parted-last}
use Rattle.order.proofs.Accounts.{order_is_free, same-account}
use Rattle.order.proofs.OwnOrders.{own_orders}

-- ---- the running order of the plan, as one of its orders
map-only : {A B : Type 0} (f : A → B) (test : B → Bool) (x : List A) → map f (only (λ a. test (f a)) x) ≡ only test (map f x)
map-only f test [] = refl
map-only {A} {B} f test (a ∷ x) = go (test (f a)) (map-only f test x)
  where
    go : (b : Bool) → map f (only (λ a. test (f a)) x) ≡ only test (map f x) → map f (pick b (a ∷ only (λ a. test (f a)) x) (only (λ a. test (f a)) x)) ≡ pick b (f a ∷ only test (map f x)) (only test (map f x))
    go true e = ap (λ z. f a ∷ z) e
    go false e = e

map-parted : {A B : Type 0} (f : A → B) (test : B → Bool) (x : List A) → map f (parted (λ a. test (f a)) x) ≡ parted test (map f x)
unfolding parted
map-parted f test x =
    map-append f (only (λ a. not (test (f a))) x) (only (λ a. test (f a)) x)
    ∙ ap (λ z. z ++ map f (only (λ a. test (f a)) x)) (map-only f (λ b. not (test b)) x)
    ∙ ap (λ z. only (λ b. not (test b)) (map f x) ++ z) (map-only f test x)

module _ (c : Call) (h : InCashFirst c) where
  abbrev plan : List PlannedOrder
  plan = admitted_plan c.account c.targets c.weights (price_of c.symbols c.prices)

  in_mode : in_running_order c.account.settings plan ≡ parted (λ o. lowers (terms c) (order_of o)) (by_symbol plan)
  unfolding in_running_order cash_first_of
  in_mode = ap (λ b. pick b (cash_first_of c.account.settings.rules.cost_model plan) plan) h.mode

  runs-parted : run_orders c ≡ parted (lowers (terms c)) (map order_of (by_symbol plan))
  runs-parted = ap (map order_of) in_mode ∙ map-parted order_of (lowers (terms c)) (by_symbol plan)

  runs-all : Perm Order (admitted_orders c) (run_orders c)
  runs-all = subst (Perm Order (admitted_orders c)) (sym runs-parted) (then (perm_map order_of (perm_sorted [] plan)) (perm_parted (lowers (terms c)) (map order_of (by_symbol plan))))

  lowers-last : LowersLast (terms c) (run_orders c)
  lowers-last = subst (LowersLast (terms c)) (sym runs-parted) (parted-last (lowers (terms c)) (map order_of (by_symbol plan)))

  -- ---- condition 3 of them
  orders_on : OrdersOn c.account (terms c) (admitted_orders c)
  orders_on =
      let a = c.account in
      let own = own_orders a h.columns c.targets c.weights c.symbols c.prices c.room h.done in
      record {
        sound = (rebalance-done a c.targets c.weights c.symbols c.prices c.room h.done).sound;
        orders = own.orders;
        different = own.different;
        room = own.room;
        cash_top = h.cash_top;
      }

  starts : Begins c.account (terms c) (begins c)
  starts = record { costs = refl; cash = refl; held = refl }

  free : OrderIsFree (terms c) (admitted_orders c) (begins c)
  free = order_is_free c.account (terms c) (admitted_orders c) (begins c) orders_on starts

  mode-fills : (w : List Order) → FillsAll c w → FillsAll c (run_orders c)
  mode-fills w f = record { runs = runs-all; whole = free.fills w f.runs f.whole (run_orders c) runs-all lowers-last }

  -- the account of a done call is what its run leaves
  call-leaves : Leaves (left c) (fill_all (terms c) (run_orders c) (begins c))
  unfolding rebalanced after_rebalance account_after after_plan
  call-leaves =
      let answer = rebalance_answer c.account c.targets c.weights c.symbols c.prices c.room in
      let e : left c ≡ (after_rebalance c.account plan c.period c.kind).account = ap (λ b. (pick b (after_rebalance c.account plan c.period c.kind) (refused answer c.account)).account) h.done in
      record { cash = ap (λ (a : Account). a.cash) e; table = ap (λ (a : Account). a.positions) e }

  pub carries_demand_3 : CarriesDemand3 c
  carries_demand_3 = record {
    fills = mode-fills;
    leaves = λ w f.
        let m = mode-fills w f in
        let e = same-account c.account (terms c) (admitted_orders c) (begins c) orders_on starts (run_orders c) w m.runs f.runs m.whole f.whole in
        record { cash = call-leaves.cash ∙ e.cash; table = call-leaves.table ∙ e.table };
    same = λ v w f g. same-account c.account (terms c) (admitted_orders c) (begins c) orders_on starts v w f.runs g.runs f.whole g.whole;
  }
