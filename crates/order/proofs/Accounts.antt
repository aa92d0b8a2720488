-- Condition 3 on one sound account: what the code's test for soundness gives is all that is asked of the account.
use Prim.Native.Nat.{ℕ}
use mathlib.Core.Bool.{true}
use mathlib.Core.List.{List}
use mathlib.Core.Path.{◌≡◌, sym, ap, ◌∙◌, subst}
use lib.ListN.{length}
use lib.IntN.{ℤ, pos, ◌+ℤ◌}
use Rattle.position.specs.declared.position.Position.{Position}
use Rattle.cost_model.specs.declared.CostModel.{CostModel}
use Rattle.cost_model.specs.Costs.{good_costs}
use Rattle.table.specs.Rows.{rows}
use Rattle.table.specs.declared.table.Columns.{Columns}
use Rattle.table.specs.Inner.Rows.{Ordered}
use Rattle.account.specs.declared.account.Account.{Account}
use Rattle.account.specs.Account.{table_of}
use Rattle.account.specs.Inner.Account.{table_with}
use Rattle.account.proofs.SoundAccounts.{account-cash, account-costs}
use Rattle.account.proofs.Tables.{ordered-table}
use Rattle.fills.specs.declared.terms.Order.{Order}
use Rattle.fills.specs.declared.terms.Terms.{Terms}
use Rattle.fills.specs.Orders.{State}
use Rattle.fills.specs.Fill.{fill_all}
use Rattle.order.specs.Running.{Perm, total, Room, NotBelow0, InRange}
use Rattle.order.specs.Statement.{cash_raised, places_asked, Batch, AllWhole, OrderIsFree}
use Rattle.order.specs.OnAccount.{Begins, OrdersOn, SameAccount}
use Rattle.order.proofs.OrderTheorem.{condition_3}

module _ (a : Account) (t : Terms) (os : List Order) (s : State) (g : OrdersOn a t os) (b : Begins a t s) where
  batch : Batch t os s
  batch =
      record {
        funded = record {
          costs = subst (λ (m : CostModel). good_costs m ≡ true) (sym b.costs) (account-costs a g.sound);
          orders = g.orders;
          cash-low = subst NotBelow0 (sym b.cash) (account-cash a g.sound);
          cash_top = subst (λ (z : ℤ). InRange (z +ℤ pos (total (cash_raised t) os))) (sym b.cash) g.cash_top;
        };
        different = g.different;
        room = subst (λ (ps : List Position). Room (length ps) (total (places_asked ps) os)) (sym b.held) g.room;
      }

  -- both halves
  pub order_is_free : OrderIsFree t os s
  order_is_free = condition_3 t os s batch

  -- the second, of the whole table
  pub same-account : (v w : List Order) → Perm Order os v → Perm Order os w → AllWhole t v s → AllWhole t w s → SameAccount (fill_all t v s) (fill_all t w s)
  same-account v w p q x y =
      let same = order_is_free.same v w p q x y in
      record { cash = same.cash; table = ap table_of same.held }

  -- and of the count and the five columns that two such runs leave
  pub same-columns : (v w : List Order) → Perm Order os v → Perm Order os w → AllWhole t v s → AllWhole t w s
      → (n m : ℕ) (c d : Columns) → Ordered n c → Ordered m d → rows n c ≡ (fill_all t v s).held → rows m d ≡ (fill_all t w s).held → table_with n c ≡ table_with m d
  same-columns v w p q x y n m c d o k e f =
      let same = order_is_free.same v w p q x y in
      sym (ordered-table n c o) ∙ ap table_of (e ∙ same.held ∙ sym f) ∙ ordered-table m d k
