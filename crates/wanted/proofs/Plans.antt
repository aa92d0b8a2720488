-- What is planned: its symbol, price, drift and quantity, and the list of it one order more at a time.
use Prim.Native.Nat.{ℕ, suc}
use mathlib.Core.Path.{◌≡◌, refl, ap}
use mathlib.Core.Bool.{Bool, true, false}
use mathlib.Core.List.{List, [], ◌∷◌}
use native.Mathlib.Omega.{arith}
use lib.Dec.{T}
use lib.IntN.{ℤ, pos}
use lib.Signed.{lt_z, le_z}
use lib.Ieee.{Float}
use lib.ListN.{length}
use mir.Syntax.{w64}
use mir.Val.{SFits}
use Rattle.sums.specs.Sums.{sat_neg, value, notional}
use Rattle.sums.proofs.Ints.{sat_neg-fits, sat_sub-fits}
use Rattle.sums.proofs.Laws.{value-fits}
use Rattle.doubles.proofs.Order.{clear}
use Rattle.position.specs.declared.position.Position.{Position}
use Rattle.position.specs.Rows.{key_of}
use Rattle.table.specs.Keyed.{pick, both}
use Rattle.table.specs.Rows.{holding, is_zero}
use Rattle.call_lists.specs.Lists.{among}
use Rattle.sizing.specs.Sizing.{sized, cut_to, drift}
use Rattle.sizing.proofs.Sizes.{sized-fits, cut_to-fits}
use Rattle.account.specs.declared.settings.Settings.{Settings}
use Rattle.wanted.specs.declared.planned.PlannedOrder.{PlannedOrder}
use Rattle.wanted.specs.Plan.{passed_over, within_band, under_maximum, limited, allowed_order, planned_close, closing, gap_of, planned_target, targeting, closings, targetings}
use Rattle.wanted.proofs.Drifts.{drift_clear}

-- ---- an order: of this symbol, at this price, which is 0 only where the quantity is 0; what it holds fits
pub record OrderFor (k : ℕ) (p : ℤ) (o : PlannedOrder) : Type 0 where
  pub symbol : o.symbol.0 ≡ k
  pub priced : is_zero o.quantity.0 ≡ false → (o.price ≡ p) × (le_z (pos 1) p ≡ true)
  pub quantity-fits : SFits w64 o.quantity.0
  pub price-fits : SFits w64 p → SFits w64 o.price

-- an order of another price and drift
abbrev pub priced : ℤ → Float → PlannedOrder → PlannedOrder
priced p d o = record o { price = p; drift_bps = d }

over-order : (k : ℕ) (p : ℤ) → OrderFor k p (passed_over k)
unfolding is_zero
over-order k p = record {
  symbol = refl;
  priced = λ e. let z : ◌≡◌ {A = ℕ} 0 1 = cc in absurd (omega arith);
  quantity-fits = record { sfits = omega arith };
  price-fits = λ f. record { sfits = omega arith };
}

module _ (s : Settings) (q p : ℤ) (f : SFits w64 q) where
  under_fits : SFits w64 (under_maximum s q p)
  unfolding under_maximum
  under_fits = go (both (lt_z (pos 0) s.max_order_value) (lt_z s.max_order_value (notional q p)))
    where
      go : (b : Bool) → SFits w64 (pick b (cut_to q p s.quantity_step s.max_order_value) q)
      go true = cut_to-fits q p s.quantity_step s.max_order_value
      go false = f

  zero-fits : SFits w64 (pos 0)
  zero-fits = record { sfits = omega arith }

  limited-fits : SFits w64 (limited s q p)
  unfolding limited
  limited-fits = go (lt_z (notional (under_maximum s q p) p) s.min_order_value)
    where
      go : (b : Bool) → SFits w64 (pick b (pos 0) (under_maximum s q p))
      go true = zero-fits
      go false = under_fits

  allowed_is_order : (k : ℕ) (d : Float) → le_z (pos 1) p ≡ true → OrderFor k p (allowed_order s k q p d)
  unfolding allowed_order
  allowed_is_order k d h = record {
    symbol = refl;
    priced = λ e. (refl, h);
    quantity-fits = go (within_band s d);
    price-fits = λ g. g;
  }
    where
      go : (b : Bool) → SFits w64 (pick b (pos 0) (limited s q p))
      go true = zero-fits
      go false = limited-fits

-- ---- closes and targets
module _ (s : Settings) (equity : ℤ) (k : ℕ) (q p : ℤ) where
  pub close-order : (wanted : Bool) → OrderFor k p (planned_close s equity k q p wanted)
  unfolding planned_close
  close-order true = over-order k p
  close-order false = go (le_z (pos 1) p) refl
    where
      go : (b : Bool) → le_z (pos 1) p ≡ b → OrderFor k p (pick b (allowed_order s k (sat_neg q) p (drift (value q p) equity)) (passed_over k))
      go true h = allowed_is_order s (sat_neg q) p (sat_neg-fits q) k _ h
      go false h = over-order k p

  pub close-wanted : planned_close s equity k q p true ≡ passed_over k
  unfolding planned_close
  close-wanted = refl

  pub target_order : (w : Float) → OrderFor k p (planned_target s equity k q p w)
  unfolding planned_target
  target_order w = go (le_z (pos 1) p) refl
    where
      go : (b : Bool) → le_z (pos 1) p ≡ b → OrderFor k p (pick b (allowed_order s k (sized (gap_of equity q p w) p s.quantity_step) p (drift (gap_of equity q p w) equity)) (passed_over k))
      go true h = allowed_is_order s (sized (gap_of equity q p w) p s.quantity_step) p (sized-fits (gap_of equity q p w) p s.quantity_step) k _ h
      go false h = over-order k p

  gap_fits : (w : Float) → SFits w64 (gap_of equity q p w)
  unfolding gap_of
  gap_fits w = sat_sub-fits _ _

  -- at an equity above 0 the drift is a number, not below 0
  module _ (f : SFits w64 equity) (above : le_z (pos 1) equity ≡ true) where
    pub close-drift : (wanted : Bool) → T (clear (planned_close s equity k q p wanted).drift_bps)
    unfolding planned_close allowed_order
    close-drift true = tt
    close-drift false = go (le_z (pos 1) p)
      where
        go : (b : Bool) → T (clear (pick b (allowed_order s k (sat_neg q) p (drift (value q p) equity)) (passed_over k)).drift_bps)
        go true = drift_clear (value q p) equity (value-fits q p) f above
        go false = tt

    pub target_drift : (w : Float) → T (clear (planned_target s equity k q p w).drift_bps)
    unfolding planned_target allowed_order
    target_drift w = go (le_z (pos 1) p)
      where
        go : (b : Bool) → T (clear (pick b (allowed_order s k (sized (gap_of equity q p w) p s.quantity_step) p (drift (gap_of equity q p w) equity)) (passed_over k)).drift_bps)
        go true = drift_clear (gap_of equity q p w) equity (gap_fits w) f above
        go false = tt

-- ---- at the positions of an account
module _ (s : Settings) (equity : ℤ) (price : ℕ → ℤ) (targets : List ℕ) where
  pub closing-order : (p : Position) → OrderFor (key_of p) (price (key_of p)) (closing s equity price targets p)
  unfolding closing
  closing-order p = close-order s equity (key_of p) p.quantity.0 (price (key_of p)) (among (key_of p) targets)

  pub closings-length : (ps : List Position) → length (closings s equity price targets ps) ≡ length ps
  unfolding closings
  closings-length [] = refl
  closings-length (p ∷ ps) = ap suc (closings-length ps)

module _ (s : Settings) (equity : ℤ) (price : ℕ → ℤ) (held : List Position) where
  pub targeting-order : (k : ℕ) (w : Float) → OrderFor k (price k) (targeting s equity price held k w)
  unfolding targeting
  targeting-order k w = target_order s equity k (holding k held).quantity.0 (price k) w

  pub targetings-length : (ks : List ℕ) (ws : List Float) → length ks ≡ length ws → length (targetings s equity price held ks ws) ≡ length ks
  unfolding targetings
  targetings-length [] ws e = refl
  targetings-length (k ∷ ks) [] e = absurd (omega arith)
  targetings-length (k ∷ ks) (w ∷ ws) e = ap suc (targetings-length ks ws (omega arith))
