-- Demand 3 on an account that is read back: what it asks of the saved account is enough.
use mathlib.Core.Path.{◌≡◌, sym, ap, ◌∙◌, subst, fun_ext}
use mathlib.Core.List.{List, map}
use lib.IntN.{pos, ◌+ℤ◌}
use Rattle.sizing.specs.Sizing.{above}
use Rattle.account.specs.declared.account.Account.{Account}
use Rattle.call_lists.specs.Lists.{price_of}
use Rattle.fills.specs.declared.terms.Order.{Order}
use Rattle.fills.specs.declared.terms.Terms.{Terms}
use Rattle.fills.specs.Orders.{State}
use Rattle.portfolio.specs.Answers.{is_done}
use Rattle.portfolio.specs.Rebalance.{order_of}
use Rattle.order.specs.Running.{total, InRange}
use Rattle.order.specs.Statement.{cash_raised, OrderIsFree}
use Rattle.order.specs.OnAccount.{Begins, OrdersOn}
use Rattle.order.specs.CashFirst.{Call, admitted_orders, terms, InCashFirst, CarriesDemand3}
use Rattle.order.proofs.Accounts.{order_is_free}
use Rattle.order.proofs.CashFirst.{carries_demand_3}
use Rattle.zero_laws.specs.Zeros.{plain_account}
use Rattle.zero_laws.specs.Calls.{plain_terms, on_plain}
use Rattle.zero_laws.proofs.Costs.{plain-change}
use Rattle.zero_laws.proofs.Sound.{plain-sound, plain-rebalance-answer}
use Rattle.zero_laws.proofs.Trades.{plain-admitted}

plain-raised : (t : Terms) → cash_raised (plain_terms t) ≡ cash_raised t
unfolding cash_raised
plain-raised t = fun_ext (λ o. ap above (plain-change t.costs o.quantity.0 o.price))

-- ---- any orders on one sound account
module _ (a : Account) (t : Terms) (os : List Order) where
  plain-orders_on : OrdersOn a t os → OrdersOn (plain_account a) (plain_terms t) os
  plain-orders_on g = record {
    sound = plain-sound a ∙ g.sound;
    orders = g.orders;
    different = g.different;
    room = g.room;
    cash_top = subst (λ f. InRange (a.cash +ℤ pos (total f os))) (sym (plain-raised t)) g.cash_top;
  }

  pub order-free-read_back : (s : State) → OrdersOn a t os → Begins (plain_account a) (plain_terms t) s → OrderIsFree (plain_terms t) os s
  order-free-read_back s g b = order_is_free (plain_account a) (plain_terms t) os s (plain-orders_on g) b

-- ---- the plan of a rebalance in cash-first mode
module _ (c : Call) where
  same-orders : admitted_orders (on_plain c) ≡ admitted_orders c
  same-orders = ap (map order_of) (plain-admitted c.account c.targets c.weights (price_of c.symbols c.prices))

  plain-cash-first : InCashFirst c → InCashFirst (on_plain c)
  plain-cash-first h = record {
    columns = h.columns;
    mode = h.mode;
    done = ap is_done (plain-rebalance-answer c.account c.targets c.weights c.symbols c.prices c.room) ∙ h.done;
    cash_top = subst (λ n. InRange (c.account.cash +ℤ pos n)) (sym (λ i. total (plain-raised (terms c) i) (same-orders i))) h.cash_top;
  }

  pub demand_3_read_back : InCashFirst c → CarriesDemand3 (on_plain c)
  demand_3_read_back h = carries_demand_3 (on_plain c) (plain-cash-first h)
