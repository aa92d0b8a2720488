-- Condition 3, in its words, about the fills that the code is proved to make.
use Rattle.std.specs.Prelude.{ℕ, List, [], ◌∷◌, Bool, true, false, ◌&&◌, ◌≡◌, length, pos, ◌+ℤ◌}
use Rattle.std.specs.Int.Signed.{le_z}
use Rattle.position.specs.declared.position.Position.{Position}
use Rattle.position.specs.Rows.{key_of}
use Rattle.position.specs.Shares.{is_zero}
use Rattle.cost_model.specs.Costs.{good_costs}
use Rattle.sizing.specs.Sizing.{above}
use Rattle.sizing.specs.Cash.{cash_change, lowers_cash}
use Rattle.table.specs.Keyed.{seek, new}
use Rattle.fills.specs.declared.terms.Order.{Order}
use Rattle.fills.specs.declared.terms.Terms.{Terms}
use Rattle.fills.specs.Orders.{State}
use Rattle.fills.specs.Fill.{fills_whole, fill, fill_all}
use Rattle.order.specs.Running.{Perm, total, All, Pairs, Last, Different, Room, NotBelow0, InRange}

-- "orders not lowering cash .. those lowering it"
abbrev pub lowers : Terms → Order → Bool
lowers t o = lowers_cash t.costs o.quantity.0 o.price

-- "all cash raised"
unfoldable pub cash_raised : Terms → Order → ℕ
cash_raised t o = above (cash_change t.costs o.quantity.0 o.price)

-- "non-zero orders", at a price that the calls take
pub record Tradable (o : Order) : Type 0 where
  pub quantity : is_zero o.quantity.0 ≡ false
  pub price : le_z (pos 1) o.price ≡ true

abbrev pub symbol_of : Order → ℕ
symbol_of o = o.symbol.0

-- 1 for an order whose symbol has no entry yet
abbrev pub places_asked : List Position → Order → ℕ
places_asked held o = new (seek key_of (symbol_of o) held)

-- "non-zero orders .. on one sound account, .. with cash plus all cash raised inside the signed 64-bit range". Of a sound account only good costs and cash of
-- at least 0 are asked.
pub record Funded (t : Terms) (os : List Order) (s : State) : Type 0 where
  pub costs : good_costs t.costs ≡ true
  pub orders : All Order Tradable os
  pub cash-low : NotBelow0 s.cash
  pub cash_top : InRange (s.cash +ℤ pos (total (cash_raised t) os))

-- all that condition 3 asks: besides, "for different symbols" and "with table room for all"
pub record Batch (t : Terms) (os : List Order) (s : State) : Type 0 where
  pub funded : Funded t os s
  pub different : Pairs Order (Different symbol_of) os
  pub room : Room (length s.held) (total (places_asked s.held) os)

-- "each fill whole": run one after the other by the code's fills
unfoldable pub all_whole_of : Terms → List Order → State → Bool
all_whole_of t [] s = true
all_whole_of t (o ∷ os) s = fills_whole t o s.cash && all_whole_of t os (fill t o s)

abbrev pub AllWhole : Terms → List Order → State → Type 0
AllWhole t os s = all_whole_of t os s ≡ true

-- "puts orders not lowering cash ahead of those lowering it"
abbrev pub LowersLast : Terms → List Order → Type 0
LowersLast t os = Last (lowers t) os

-- "equal cash and equal positions"
pub record SameLeft (a b : State) : Type 0 where
  pub cash : a.cash ≡ b.cash
  pub held : a.held ≡ b.held

-- Both halves: "If some running order lets each fill whole, so does every running order that puts orders not lowering cash ahead of those lowering it; and
-- all running orders in which each fills whole leave equal cash and equal positions."
pub record OrderIsFree (t : Terms) (os : List Order) (s : State) : Type 0 where
  pub fills : (w : List Order) → Perm Order os w → AllWhole t w s → (v : List Order) → Perm Order os v → LowersLast t v → AllWhole t v s
  pub same : (v w : List Order) → Perm Order os v → Perm Order os w → AllWhole t v s → AllWhole t w s → SameLeft (fill_all t v s) (fill_all t w s)
