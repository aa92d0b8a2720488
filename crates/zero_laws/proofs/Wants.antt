-- What a rebalance wants, admits and runs under settings with plain zeros: what it does under the settings themselves.
use Prim.Native.Nat.{ℕ, ◌+◌}
use mathlib.Core.Path.{◌≡◌, refl, fun_ext}
use mathlib.Core.Bool.{Bool}
use mathlib.Core.List.{List, [], ◌∷◌}
use lib.IntN.{ℤ, ◌-ℤ◌}
use lib.Ieee.{Float}
use Rattle.position.specs.declared.position.Position.{Position}
use Rattle.account.specs.declared.settings.Settings.{Settings}
use Rattle.wanted.specs.declared.planned.PlannedOrder.{PlannedOrder}
use Rattle.wanted.specs.Plan.{within_band, under_maximum, limited, allowed_order, planned_close, closing, planned_target, targeting, closings, targetings, wanted}
use Rattle.admission.specs.Admission.{notional_of, capped, added, added_all, last_admitted, admitted_from, admitted}
use Rattle.admission.specs.Running.{lowers, cash_first_of, in_running_order, plan_of}
use Rattle.zero_laws.specs.Zeros.{plain_costs, plain_settings}
use Rattle.zero_laws.proofs.Rates.{plain-band}
use Rattle.zero_laws.proofs.Costs.{plain-change}

module _ (s : Settings) where
  plain-within : (d : Float) → within_band (plain_settings s) d ≡ within_band s d
  unfolding within_band
  plain-within d = plain-band s.no_trade_band_bps d

  plain-limited : (q p : ℤ) → limited (plain_settings s) q p ≡ limited s q p
  unfolding limited under_maximum
  plain-limited q p = refl

  plain-allowed : (k : ℕ) (q p : ℤ) (d : Float) → allowed_order (plain_settings s) k q p d ≡ allowed_order s k q p d
  unfolding allowed_order
  plain-allowed k q p d = simp (plain-within, plain-limited)

  plain-close : (equity : ℤ) (k : ℕ) (q p : ℤ) (w : Bool) → planned_close (plain_settings s) equity k q p w ≡ planned_close s equity k q p w
  unfolding planned_close
  plain-close equity k q p w = simp plain-allowed

  plain_target : (equity : ℤ) (k : ℕ) (q p : ℤ) (w : Float) → planned_target (plain_settings s) equity k q p w ≡ planned_target s equity k q p w
  unfolding planned_target
  plain_target equity k q p w = simp plain-allowed

  plain-closings : (equity : ℤ) (price : ℕ → ℤ) (targets : List ℕ) (held : List Position) → closings (plain_settings s) equity price targets held ≡ closings s equity price targets held
  unfolding closings closing
  plain-closings equity price targets [] = refl
  plain-closings equity price targets (p ∷ ps) = simp (plain-close, plain-closings equity price targets ps)

  plain-targetings : (equity : ℤ) (price : ℕ → ℤ) (held : List Position) (ks : List ℕ) (ws : List Float) → targetings (plain_settings s) equity price held ks ws ≡ targetings s equity price held ks ws
  unfolding targetings targeting
  plain-targetings equity price held [] ws = refl
  plain-targetings equity price held (k ∷ ks) [] = refl
  plain-targetings equity price held (k ∷ ks) (w ∷ ws) = simp (plain_target, plain-targetings equity price held ks ws)

  pub plain-wanted : (equity : ℤ) (price : ℕ → ℤ) (held : List Position) (ts : List ℕ) (ws : List Float) → wanted (plain_settings s) equity price held ts ws ≡ wanted s equity price held ts ws
  unfolding wanted
  plain-wanted equity price held ts ws = rw (plain-closings equity price ts held, plain-targetings equity price held ts ws)

  -- ---- caps
  plain-added : (os plan : List PlannedOrder) → added_all (plain_settings s) os plan ≡ added_all s os plan
  unfolding added_all added capped
  plain-added [] plan = refl
  plain-added (o ∷ os) plan = plain-added os (added s o plan)

  plain-last : (left : ℤ) (o : PlannedOrder) → last_admitted (plain_settings s) left o ≡ last_admitted s left o
  unfolding last_admitted
  plain-last left o = refl

  plain-admitted : (n : ℕ) (left : ℤ) (os : List PlannedOrder) → admitted_from (plain_settings s) n left os ≡ admitted_from s n left os
  unfolding admitted_from
  plain-admitted n left [] = refl
  plain-admitted n left (o ∷ os) = simp (plain-last, plain-admitted (n + 1) left os, plain-admitted (n + 1) (left -ℤ notional_of o) os)

  pub plain_plan : (equity : ℤ) (price : ℕ → ℤ) (held : List Position) (ts : List ℕ) (ws : List Float) → plan_of (plain_settings s) equity price held ts ws ≡ plan_of s equity price held ts ws
  unfolding plan_of admitted
  plain_plan equity price held ts ws = simp (plain-wanted, plain-added, plain-admitted)

  -- ---- the running order
  plain-lowers : lowers (plain_costs s.rules.cost_model) ≡ lowers s.rules.cost_model
  plain-lowers = fun_ext (λ o. rw (plain-change s.rules.cost_model o.quantity.0 o.price))

  pub plain_running : (plan : List PlannedOrder) → in_running_order (plain_settings s) plan ≡ in_running_order s plan
  unfolding in_running_order cash_first_of
  plain_running plan = rw plain-lowers
