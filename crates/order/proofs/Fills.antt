-- The code's fills keep the laws that condition 3 rests on: whether an order fills whole is one comparison, of the cash that it takes with the cash there is,
-- for buys and sells alike; and what it takes and makes does not depend on the orders before it.
use mathlib.Core.Bool.{true}
use mathlib.Core.Option.{Option, none, some}
use mathlib.Core.Path.{◌≡◌, refl, ap, ◌∙◌}
use Rattle.position.specs.declared.position.Position.{Position}
use Rattle.position.specs.Rows.{fresh, key_of}
use Rattle.position.proofs.Fills.{applied_keeps_symbol}
use Rattle.cost_model.specs.Costs.{good_costs}
use Rattle.sizing.specs.Cash.{cash_taken}
use Rattle.fills.specs.declared.terms.Order.{Order}
use Rattle.fills.specs.declared.terms.Terms.{Terms}
use Rattle.fills.specs.Orders.{State, buys, paid}
use Rattle.fills.specs.Fill.{fills_whole, made, settled, fill}
use Rattle.fills.proofs.Cash.{whole_is_taken, whole_settles}
use Rattle.order.specs.Statement.{Tradable}
use Rattle.order.proofs.Rule.{Rule}

module _ (t : Terms) (good : good_costs t.costs ≡ true) where
  -- a fill is of its order's symbol
  pub made-symbol : (o : Order) (q : Option Position) → ((p : Position) → q ≡ some p → key_of p ≡ o.symbol.0) → key_of (made t o o.quantity.0 q) ≡ o.symbol.0
  unfolding made
  made-symbol o none h = applied_keeps_symbol (fresh o.symbol.0) o.quantity.0 (paid t o)
  made-symbol o (some p) h = applied_keeps_symbol p o.quantity.0 (paid t o) ∙ h p refl

  -- an order that fills whole is settled whole
  pub settles : (o : Order) (s : State) → Tradable o → fills_whole t o s.cash ≡ true → fill t o s ≡ settled t o o.quantity.0 s
  settles o s k w = whole_settles t good o k.price s k.quantity w

  unfoldable pub fills : Rule Order Position State
  unfolding settled
  fills = record {
    symbol = λ o. o.symbol.0;
    key = key_of;
    taken = λ o. cash_taken t.costs o.quantity.0 (paid t o);
    apply = λ o. made t o o.quantity.0;
    cash = λ s. s.cash;
    held = λ s. s.held;
    whole = λ o s. fills_whole t o s.cash;
    run = fill t;
    Good = Tradable;
    made_key = made-symbol;
    whole_is = λ o s k. whole_is_taken t good o k.price s.cash;
    run-cash = λ o s k w. ap (λ (b : State). b.cash) (settles o s k w);
    run-held = λ o s k w. ap (λ (b : State). b.held) (settles o s k w);
  }
