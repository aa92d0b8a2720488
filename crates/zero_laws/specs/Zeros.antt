-- Document 02, 5: "Floating zero settings are written with positive sign." What is read back, and what the laws compare it with. Definitions only.
use Rattle.std.specs.Prelude.{zero, suc, ◌≡◌, Float}
use Rattle.std.specs.Float.{nan, inf, fin}
use Rattle.doubles.specs.Doubles as Doubles
use Rattle.cost_model.specs.declared.CostModel.{CostModel}
use Rattle.account.specs.declared.settings.Rules.{Rules}
use Rattle.account.specs.declared.settings.Settings.{Settings}
use Rattle.account.specs.declared.account.Account.{Account}
use Rattle.account.specs.declared.account.Ledger.{Ledger}
use Rattle.account.specs.Settings.{settings}
use Rattle.account.specs.Account.{with_settings}

-- a zero of either sign "with positive sign", and any other double as it is
unfoldable pub plain_zero : Float → Float
plain_zero nan = nan
plain_zero (inf s) = inf s
plain_zero (fin s zero e) = Doubles.zero
plain_zero (fin s (suc m) e) = fin s (suc m) e

-- `commission_bps` and `slippage_bps`
abbrev pub plain_costs : CostModel → CostModel
plain_costs m = record {
  commission_bps = plain_zero m.commission_bps;
  slippage_bps = plain_zero m.slippage_bps;
  min_commission = m.min_commission;
  max_commission = m.max_commission;
}

abbrev pub plain_rules : Rules → Rules
plain_rules r = record { cost_model = plain_costs r.cost_model }

-- and `no_trade_band_bps`: no other setting is floating
abbrev pub plain_settings : Settings → Settings
plain_settings s =
    settings (plain_rules s.rules) s.quantity_step s.min_order_value s.max_order_value (plain_zero s.no_trade_band_bps)
    s.max_trades_per_rebalance s.max_rebalance_notional s.recording s.cash_first

abbrev pub plain_account : Account → Account
plain_account a = with_settings (plain_settings a.settings) a

-- the same of an account whose columns are lent
abbrev pub plain_ledger : Ledger → Ledger
plain_ledger h = record { cash = h.cash; settings = plain_settings h.settings; counters = h.counters; series = h.series; count = h.count }

-- "that sign apart": accounts that are read back as one account
abbrev pub Alike : Account → Account → Type 0
Alike a b = plain_account a ≡ plain_account b
