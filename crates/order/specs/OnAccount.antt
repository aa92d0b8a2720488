-- Condition 3 on one sound account, as the code tests it.
use Rattle.std.specs.Prelude.{List, true, ◌≡◌, length, pos, ◌+ℤ◌}
use Rattle.account.specs.declared.account.Account.{Account}
use Rattle.account.specs.Account.{sound_account, held_in, table_of}
use Rattle.fills.specs.declared.terms.Order.{Order}
use Rattle.fills.specs.declared.terms.Terms.{Terms}
use Rattle.fills.specs.Orders.{State}
use Rattle.order.specs.Running.{total, All, Pairs, Different, Room, InRange}
use Rattle.order.specs.Statement.{cash_raised, Tradable, symbol_of, places_asked}

-- fills that begin at the account: its costs, its cash, its positions
pub record Begins (a : Account) (t : Terms) (s : State) : Type 0 where
  pub costs : t.costs ≡ a.settings.rules.cost_model
  pub cash : s.cash ≡ a.cash
  pub held : s.held ≡ held_in a.positions

-- "Take non-zero orders for different symbols on one sound account, with table room for all and with cash plus all cash raised inside the signed 64-bit range."
pub record OrdersOn (a : Account) (t : Terms) (os : List Order) : Type 0 where
  pub sound : sound_account a ≡ true
  pub orders : All Order Tradable os
  pub different : Pairs Order (Different symbol_of) os
  pub room : Room (length (held_in a.positions)) (total (places_asked (held_in a.positions)) os)
  pub cash_top : InRange (a.cash +ℤ pos (total (cash_raised t) os))

-- "equal cash and equal positions": the whole table, unused places included
pub record SameAccount (x y : State) : Type 0 where
  pub cash : x.cash ≡ y.cash
  pub table : table_of x.held ≡ table_of y.held
