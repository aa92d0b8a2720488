-- Document 02, 1: "The mode then carries demand 3 directly", of the plan that a rebalance makes for itself.
use Rattle.std.specs.Prelude.{ℕ, List, map, true, ◌≡◌, ℤ, pos, ◌+ℤ◌, Float}
use Rattle.table.specs.Rows.{columns_of, Full}
use Rattle.account.specs.declared.account.Account.{Account}
use Rattle.account.specs.Account.{table_of}
use Rattle.fills.specs.declared.terms.Order.{Order}
use Rattle.fills.specs.declared.terms.Terms.{Terms}
use Rattle.fills.specs.declared.record.ExecutionKind.{ExecutionKind}
use Rattle.fills.specs.Orders.{State}
use Rattle.fills.specs.Fill.{fill_all}
use Rattle.call_lists.specs.Lists.{price_of}
use Rattle.admission.specs.Running.{in_running_order}
use Rattle.portfolio.specs.Answers.{is_done, rebalance_answer}
use Rattle.portfolio.specs.Rebalance.{order_of, terms_of, state_of, admitted_plan, rebalanced}
use Rattle.order.specs.Running.{Perm, total, InRange}
use Rattle.order.specs.Statement.{cash_raised, AllWhole}
use Rattle.order.specs.OnAccount.{SameAccount}

-- a call of `rebalance_simple`
pub record Call : Type 0 where
  pub account : Account
  pub targets : List ℕ
  pub weights : List Float
  pub symbols : List ℕ
  pub prices : List ℤ
  pub period : ℕ
  pub kind : ExecutionKind
  pub room : ℕ

-- its admitted orders, and the same as they run
abbrev pub admitted_orders : Call → List Order
admitted_orders c = map order_of (admitted_plan c.account c.targets c.weights (price_of c.symbols c.prices))

abbrev pub run_orders : Call → List Order
run_orders c = map order_of (in_running_order c.account.settings (admitted_plan c.account c.targets c.weights (price_of c.symbols c.prices)))

abbrev pub terms : Call → Terms
terms c = terms_of c.account c.period c.kind

abbrev pub begins : Call → State
begins c = state_of c.account

-- the account that the call leaves
abbrev pub left : Call → Account
left c = (rebalanced c.account c.targets c.weights c.symbols c.prices c.period c.kind c.room).account

-- What is asked: columns of 64 places, as every account of the code has; the mode; a call that is done, so that its account is sound; and "cash plus all cash raised
-- inside the signed 64-bit range". That its orders are not zero, for different symbols and have table room follows.
pub record InCashFirst (c : Call) : Type 0 where
  pub columns : Full (columns_of c.account.positions)
  pub mode : c.account.settings.cash_first ≡ true
  pub done : is_done (rebalance_answer c.account c.targets c.weights c.symbols c.prices c.room) ≡ true
  pub cash_top : InRange (c.account.cash +ℤ pos (total (cash_raised (terms c)) (admitted_orders c)))

-- a running order in which each order fills whole
pub record FillsAll (c : Call) (w : List Order) : Type 0 where
  pub runs : Perm Order (admitted_orders c) w
  pub whole : AllWhole (terms c) w (begins c)

-- cash and the whole table, unused places included
pub record Leaves (a : Account) (s : State) : Type 0 where
  pub cash : a.cash ≡ s.cash
  pub table : a.positions ≡ table_of s.held

-- If some running order lets each fill whole, the mode's does, and the call leaves what that one leaves; all such running orders leave the same.
pub record CarriesDemand3 (c : Call) : Type 0 where
  pub fills : (w : List Order) → FillsAll c w → FillsAll c (run_orders c)
  pub leaves : (w : List Order) → FillsAll c w → Leaves (left c) (fill_all (terms c) w (begins c))
  pub same : (v w : List Order) → FillsAll c v → FillsAll c w → SameAccount (fill_all (terms c) v (begins c)) (fill_all (terms c) w (begins c))
