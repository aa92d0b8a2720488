-- The orders that a rebalance wants, before any cap: "Priced open holdings absent from targets are closed, in symbol order [..] Then targets in list order".
use Rattle.std.specs.Prelude.{ℕ, Bool, not, List, [], ◌∷◌, ◌++◌, ℤ, pos, Float}
use Rattle.std.specs.Int.Signed.{lt_z, le_z}
use Rattle.std.specs.Float.Ieee.{lt, le, mul}
use Rattle.std.specs.Float.{binary64}
use Rattle.sums.specs.Sums.{sat_sub, sat_neg, value, notional}
use Rattle.doubles.specs.Doubles.{zero, to_i64, of_i64}
use Rattle.position.specs.declared.position.Position.{Position}
use Rattle.position.specs.Rows.{key_of, shares, symbol}
use Rattle.table.specs.Keyed.{pick, both}
use Rattle.table.specs.Rows.{holding}
use Rattle.sizing.specs.Sizing.{sized, cut_to, drift}
use Rattle.call_lists.specs.Lists.{among}
use Rattle.account.specs.declared.settings.Settings.{Settings}
use Rattle.wanted.specs.declared.planned.PlannedOrder.{PlannedOrder}

abbrev pub planned : ℕ → ℤ → ℤ → Float → PlannedOrder
planned s q p d = record { symbol = symbol s; quantity = shares q; price = p; drift_bps = d }

-- "drift [..] at or below a positive band skips"
unfoldable pub within_band : Settings → Float → Bool
unfolding lt le
within_band s d = both (lt zero s.no_trade_band_bps) (le d s.no_trade_band_bps)

-- "over a positive order maximum, the quantity keeps its sign and becomes maximum × SCALE / price, truncated and snapped to the step"
unfoldable pub under_maximum : Settings → ℤ → ℤ → ℤ
under_maximum s q p =
    pick (both (lt_z (pos 0) s.max_order_value) (lt_z s.max_order_value (notional q p)))
    (cut_to q p s.quantity_step s.max_order_value) q

-- "a notional below the minimum skips": the quantity to order, 0 where the order is skipped
unfoldable pub limited : Settings → ℤ → ℤ → ℤ
limited s q p = pick (lt_z (notional (under_maximum s q p) p) s.min_order_value) (pos 0) (under_maximum s q p)

-- either kind of order: the band by its drift, then the limits
unfoldable pub allowed_order : Settings → ℕ → ℤ → ℤ → Float → PlannedOrder
allowed_order s k q p d = planned k (pick (within_band s d) (pos 0) (limited s q p)) p d

-- no order
abbrev pub passed_over : ℕ → PlannedOrder
passed_over k = planned k (pos 0) (pos 0) zero

-- "Priced open holdings absent from targets are closed [..] whole, without the step"; "of a close's holding value": of symbol, quantity, price and
-- whether the symbol is among the targets
unfoldable pub planned_close : Settings → ℤ → ℕ → ℤ → ℤ → Bool → PlannedOrder
planned_close s equity k q p wanted =
    pick (both (not wanted) (le_z (pos 1) p)) (allowed_order s k (sat_neg q) p (drift (value q p) equity)) (passed_over k)

unfoldable pub closing : Settings → ℤ → (ℕ → ℤ) → List ℕ → Position → PlannedOrder
closing s equity price targets p =
    planned_close s equity (key_of p) p.quantity.0 (price (key_of p)) (among (key_of p) targets)

-- "Target value is truncated equity × weight; the gap becomes shares": the gap is a saturating difference, of equity, quantity, price and weight
unfoldable pub gap_of : ℤ → ℤ → ℤ → Float → ℤ
unfolding mul
gap_of equity q p w = sat_sub (to_i64 (mul binary64 (of_i64 equity) w)) (value q p)

-- "an unpriced one is passed over": of symbol, quantity held, price and weight
unfoldable pub planned_target : Settings → ℤ → ℕ → ℤ → ℤ → Float → PlannedOrder
planned_target s equity k q p w =
    pick (le_z (pos 1) p)
    (allowed_order s k (sized (gap_of equity q p w) p s.quantity_step) p (drift (gap_of equity q p w) equity))
    (passed_over k)

unfoldable pub targeting : Settings → ℤ → (ℕ → ℤ) → List Position → ℕ → Float → PlannedOrder
targeting s equity price held k w = planned_target s equity k (holding k held).quantity.0 (price k) w

unfoldable pub closings : Settings → ℤ → (ℕ → ℤ) → List ℕ → List Position → List PlannedOrder
closings s equity price targets [] = []
closings s equity price targets (p ∷ ps) = closing s equity price targets p ∷ closings s equity price targets ps

unfoldable pub targetings : Settings → ℤ → (ℕ → ℤ) → List Position → List ℕ → List Float → List PlannedOrder
targetings s equity price held [] ws = []
targetings s equity price held (k ∷ ks) [] = []
targetings s equity price held (k ∷ ks) (w ∷ ws) = targeting s equity price held k w ∷ targetings s equity price held ks ws

-- all of them, in order; those of quantity 0 are no orders
unfoldable pub wanted : Settings → ℤ → (ℕ → ℤ) → List Position → List ℕ → List Float → List PlannedOrder
wanted s equity price held targets weights =
    closings s equity price targets held ++ targetings s equity price held targets weights
