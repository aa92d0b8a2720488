-- Settings by their parts, and when a setter refuses.
use mathlib.Core.Path.{◌≡◌}
use mathlib.Core.Bool.{Bool, true}
use lib.IntN.{ℤ}
use lib.Ieee.{Float}
use Rattle.cost_model.specs.Costs.{good_costs}
use Rattle.table.proofs.Keyed.{both_true}
use Rattle.account.specs.declared.settings.Rules.{Rules}
use Rattle.account.specs.declared.settings.Settings.{Settings}
use Rattle.account.specs.declared.settings.TradeCap.{TradeCap}
use Rattle.account.specs.Settings.{is_at_least, good_band, good_rules, good_settings, with_step, with_min_order, with_max_order, with_band, with_trade_cap, with_max_notional, with_recording, with_cash_first}
use Rattle.account.proofs.Columns.{both_unit}

-- ---- good settings by their parts
pub rules_costs : (r : Rules) → good_rules r ≡ true → good_costs r.cost_model ≡ true
unfolding good_rules
rules_costs r e = e

pub record GoodSettings (s : Settings) : Type 0 where
  pub rules : good_rules s.rules ≡ true
  pub step : is_at_least 1 s.quantity_step ≡ true
  pub min-order : is_at_least 0 s.min_order_value ≡ true
  pub max-order : is_at_least 0 s.max_order_value ≡ true
  pub band : good_band s.no_trade_band_bps ≡ true
  pub max-notional : is_at_least 0 s.max_rebalance_notional ≡ true

pub good_parts : (s : Settings) → good_settings s ≡ true → GoodSettings s
unfolding good_settings
good_parts s e =
    let a = both_true (good_rules s.rules) _ e in
    let b = both_true (is_at_least 1 s.quantity_step) _ a.1 in
    let c = both_true (is_at_least 0 s.min_order_value) _ b.1 in
    let d = both_true (is_at_least 0 s.max_order_value) _ c.1 in
    let f = both_true (good_band s.no_trade_band_bps) _ d.1 in
    record { rules = a.0; step = b.0; min-order = c.0; max-order = d.0; band = f.0; max-notional = f.1 }

pub parts_good : (s : Settings) → GoodSettings s → good_settings s ≡ true
unfolding good_settings
parts_good s g = simp (g.rules, g.step, g.min-order, g.max-order, g.band, g.max-notional)

-- ---- a setter on good settings is refused exactly where its value is bad
module _ (s : Settings) (g : GoodSettings s) where
  pub step_decides : (k : ℤ) → good_settings (with_step k s) ≡ is_at_least 1 k
  unfolding good_settings
  step_decides k = simp (g.rules, g.min-order, g.max-order, g.band, g.max-notional) (both_unit (is_at_least 1 k))

  pub min-order_decides : (v : ℤ) → good_settings (with_min_order v s) ≡ is_at_least 0 v
  unfolding good_settings
  min-order_decides v = simp (g.rules, g.step, g.max-order, g.band, g.max-notional) (both_unit (is_at_least 0 v))

  pub max-order_decides : (v : ℤ) → good_settings (with_max_order v s) ≡ is_at_least 0 v
  unfolding good_settings
  max-order_decides v = simp (g.rules, g.step, g.min-order, g.band, g.max-notional) (both_unit (is_at_least 0 v))

  pub band_decides : (x : Float) → good_settings (with_band x s) ≡ good_band x
  unfolding good_settings
  band_decides x = simp (g.rules, g.step, g.min-order, g.max-order, g.max-notional) (both_unit (good_band x))

  pub max-notional_decides : (v : ℤ) → good_settings (with_max_notional v s) ≡ is_at_least 0 v
  unfolding good_settings
  max-notional_decides v = simp (g.rules, g.step, g.min-order, g.max-order, g.band)

  -- these take every value
  pub trade_cap_good : (cap : TradeCap) → good_settings (with_trade_cap cap s) ≡ true
  trade_cap_good cap = parts_good (with_trade_cap cap s) (record { rules = g.rules; step = g.step; min-order = g.min-order; max-order = g.max-order; band = g.band; max-notional = g.max-notional })

  pub recording-good : (on : Bool) → good_settings (with_recording on s) ≡ true
  recording-good on = parts_good (with_recording on s) (record { rules = g.rules; step = g.step; min-order = g.min-order; max-order = g.max-order; band = g.band; max-notional = g.max-notional })

  pub cash-first-good : (on : Bool) → good_settings (with_cash_first on s) ≡ true
  cash-first-good on = parts_good (with_cash_first on s) (record { rules = g.rules; step = g.step; min-order = g.min-order; max-order = g.max-order; band = g.band; max-notional = g.max-notional })
