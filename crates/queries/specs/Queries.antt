-- What is told of the positions of an account at given prices. `price s` is the listed price of s, 0 where there is none.
use Rattle.std.specs.Prelude.{ℕ, Bool, not, List, [], ◌∷◌, ℤ, pos, Float}
use Rattle.std.proofs.Math.Option.{Option, none, some}
use Rattle.std.specs.Int.Signed.{lt_z}
use Rattle.std.specs.Float.{binary64}
use Rattle.std.specs.Float.Ieee.{div}
use Rattle.sums.specs.Sums.{sat_add}
use Rattle.doubles.specs.Doubles.{of_i64}
use Rattle.position.specs.declared.position.Position.{Position}
use Rattle.position.specs.Rows.{key_of}
use Rattle.table.specs.Keyed.{pick, both}
use Rattle.table.specs.Rows.{is_zero}
use Rattle.wanted.specs.Equity.{worth}

-- open positions: "without flat positions"
unfoldable pub open_ones : List Position → List Position
open_ones [] = []
open_ones (p ∷ ps) = pick (is_zero p.quantity.0) (open_ones ps) (p ∷ open_ones ps)

-- a symbol with its weight
pub record Weight : Type 0 where
  pub symbol : ℕ
  pub weight : Float

unfoldable pub weight_of : (ℕ → ℤ) → ℤ → Position → Weight
unfolding div
weight_of price equity p = record { symbol = key_of p; weight = div binary64 (of_i64 (worth price p)) (of_i64 equity) }

unfoldable pub weigh : (ℕ → ℤ) → ℤ → List Position → List Weight
weigh price equity [] = []
weigh price equity (p ∷ ps) = weight_of price equity p ∷ weigh price equity ps

-- "weights come back by value in symbol order, without flat positions and none at equity 0"
unfoldable pub weights_of : (ℕ → ℤ) → ℤ → List Position → List Weight
weights_of price equity held = pick (is_zero equity) [] (weigh price equity (open_ones held))

-- whether a quantity is open and its price below 1, as that of an unlisted symbol is
unfoldable pub unpriced : ℤ → ℤ → Bool
unpriced q price = both (not (is_zero q)) (lt_z price (pos 1))

-- "`unpriced_holding` tells the first in symbol order"
unfoldable pub first_unpriced : (ℕ → ℤ) → List Position → Option ℕ
first_unpriced price [] = none
first_unpriced price (p ∷ ps) = pick (unpriced p.quantity.0 (price (key_of p))) (some (key_of p)) (first_unpriced price ps)

-- "`snapshot` adds profits in that order."
unfoldable pub profit_from : ℤ → List Position → ℤ
profit_from sum [] = sum
profit_from sum (p ∷ ps) = profit_from (sat_add sum p.realized_pnl) ps
