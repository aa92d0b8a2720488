-- Document 01, 'Numbers that bound an account': the settings.
use Rattle.std.specs.Prelude.{ℕ, Bool, false, ℤ, pos, Float}
use Rattle.std.specs.Int.Signed.{le_z}
use Rattle.doubles.specs.Doubles.{zero}
use Rattle.table.specs.Keyed.{both}
use Rattle.cost_model.specs.declared.CostModel.{CostModel}
use Rattle.cost_model.specs.Costs.{free, good_rate, good_costs}
use Rattle.account.specs.declared.settings.Rules.{Rules}
use Rattle.account.specs.declared.settings.Settings.{Settings}
use Rattle.account.specs.declared.settings.TradeCap.{TradeCap}
use Rattle.account.specs.declared.settings.TradeCap.TheVariants.{Absent}

-- "at least 0"
abbrev pub is_at_least : ℕ → ℤ → Bool
is_at_least n z = le_z (pos n) z

-- "finite and at least 0"
abbrev pub good_band : Float → Bool
good_band x = good_rate x

-- ".. `min_commission` .. at least 0; .. `commission_bps` .. finite and at least 0; `slippage_bps` from 0 to 10,000";
-- document 02, 3: "1 also when a non-zero ceiling is below `min_commission`"
unfoldable pub good_rules : Rules → Bool
good_rules r = good_costs r.cost_model

-- "opening cash, `min_commission`, `min_order_value`, `max_order_value` and `max_rebalance_notional` at least 0; `quantity_step` at least 1;
-- `commission_bps` and `no_trade_band_bps` finite and at least 0; `slippage_bps` from 0 to 10,000; the trade cap absent or any count"
unfoldable pub good_settings : Settings → Bool
good_settings s =
    both (good_rules s.rules)
    (both (is_at_least 1 s.quantity_step)
    (both (is_at_least 0 s.min_order_value)
    (both (is_at_least 0 s.max_order_value)
    (both (good_band s.no_trade_band_bps)
    (is_at_least 0 s.max_rebalance_notional)))))

-- ---- settings from their nine values, in the order of the struct
abbrev pub settings : Rules → ℤ → ℤ → ℤ → Float → TradeCap → ℤ → Bool → Bool → Settings
settings r k low high band cap top recording first = record {
  rules = r;
  quantity_step = k;
  min_order_value = low;
  max_order_value = high;
  no_trade_band_bps = band;
  max_trades_per_rebalance = cap;
  max_rebalance_notional = top;
  recording = recording;
  cash_first = first;
}

-- the rules of an account that is opened by its costs alone
abbrev pub of_costs : CostModel → Rules
of_costs m = record { cost_model = m }

-- what an account opens with: no limits, no cap, no recording, orders as planned
abbrev pub opening_settings : Rules → ℤ → Settings
opening_settings r step = settings r step (pos 0) (pos 0) zero Absent (pos 0) false false

-- "all zeros": those of a refused opening
abbrev pub zero_settings : Settings
zero_settings = opening_settings (of_costs free) (pos 0)

-- ---- one setting changed
abbrev pub with_step : ℤ → Settings → Settings
with_step k s = settings s.rules k s.min_order_value s.max_order_value s.no_trade_band_bps s.max_trades_per_rebalance s.max_rebalance_notional s.recording s.cash_first

abbrev pub with_min_order : ℤ → Settings → Settings
with_min_order v s = settings s.rules s.quantity_step v s.max_order_value s.no_trade_band_bps s.max_trades_per_rebalance s.max_rebalance_notional s.recording s.cash_first

abbrev pub with_max_order : ℤ → Settings → Settings
with_max_order v s = settings s.rules s.quantity_step s.min_order_value v s.no_trade_band_bps s.max_trades_per_rebalance s.max_rebalance_notional s.recording s.cash_first

abbrev pub with_band : Float → Settings → Settings
with_band x s = settings s.rules s.quantity_step s.min_order_value s.max_order_value x s.max_trades_per_rebalance s.max_rebalance_notional s.recording s.cash_first

abbrev pub with_trade_cap : TradeCap → Settings → Settings
with_trade_cap cap s = settings s.rules s.quantity_step s.min_order_value s.max_order_value s.no_trade_band_bps cap s.max_rebalance_notional s.recording s.cash_first

abbrev pub with_max_notional : ℤ → Settings → Settings
with_max_notional v s = settings s.rules s.quantity_step s.min_order_value s.max_order_value s.no_trade_band_bps s.max_trades_per_rebalance v s.recording s.cash_first

abbrev pub with_recording : Bool → Settings → Settings
with_recording on s = settings s.rules s.quantity_step s.min_order_value s.max_order_value s.no_trade_band_bps s.max_trades_per_rebalance s.max_rebalance_notional on s.cash_first

abbrev pub with_cash_first : Bool → Settings → Settings
with_cash_first on s = settings s.rules s.quantity_step s.min_order_value s.max_order_value s.no_trade_band_bps s.max_trades_per_rebalance s.max_rebalance_notional s.recording on
