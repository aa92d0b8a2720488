-- The numbers of an account before its positions, in the file's order, and the account of such numbers.
use Rattle.std.specs.Prelude.{ℕ, List, [], ◌∷◌, eqb, get_or, ℤ, Float}
use Rattle.answer.specs.Choice.{pick}
use Rattle.cost_model.specs.Costs.{model, with_ceiling}
use Rattle.table.specs.declared.table.Table.{Table}
use Rattle.account.specs.declared.account.Account.{Account}
use Rattle.account.specs.declared.account.Ledger.{Ledger}
use Rattle.account.specs.declared.account.Counters.{Counters}
use Rattle.account.specs.declared.account.Series.{Series}
use Rattle.account.specs.declared.settings.Settings.{Settings}
use Rattle.account.specs.Settings.{settings, of_costs}
use Rattle.account.specs.Calls.{series}
use Rattle.account_bytes.specs.Settings.{costs_of, cap_mark, cap_count, cap_of, flag_word, flag_of}
use Rattle.word_bytes.specs.Numbers.{float_of, pattern_of}
use Rattle.seven_bit.specs.Signed.{folded, unfolded}
use Rattle.saved_form.specs.Fields.{negative_zero}

-- "A float is stored as its bit pattern. .. Floating zero settings are written with positive sign."
unfoldable pub rate_pattern : Float → ℕ
rate_pattern x = pick (eqb (pattern_of x) negative_zero) 0 (pattern_of x)

-- "settings in document 01's order without opening cash, the ceiling, recording and cash-first as 0 or 1"; "The Rust's i64 fields and the ceiling are signed. A
-- trade cap is 0, or 1 and the count"
unfoldable pub setting_values : Settings → List ℕ → List ℕ
setting_values s later =
    folded (costs_of s).min_commission
    ∷ folded s.min_order_value
    ∷ folded s.max_order_value
    ∷ folded s.max_rebalance_notional
    ∷ folded s.quantity_step
    ∷ rate_pattern (costs_of s).commission_bps
    ∷ rate_pattern s.no_trade_band_bps
    ∷ rate_pattern (costs_of s).slippage_bps
    ∷ cap_mark s.max_trades_per_rebalance
    ∷ cap_count s.max_trades_per_rebalance
    ∷ folded (costs_of s).max_commission
    ∷ flag_word s.recording
    ∷ flag_word s.cash_first
    ∷ later

-- "counters in `Portfolio`'s field order, record count, equity and return counts, previous equity"
unfoldable pub counter_values : Counters → Series → List ℕ → List ℕ
counter_values k x later =
    k.last_rebalance_order_count
    ∷ folded k.last_rebalance_notional
    ∷ k.trimmed_fill_count
    ∷ folded k.trimmed_shortfall_cents
    ∷ k.record_count
    ∷ x.equity_count
    ∷ x.return_count
    ∷ folded x.prev_equity
    ∷ later

-- an account but for its columns
abbrev pub scalars_of : Account → Ledger
scalars_of a = record { cash = a.cash; settings = a.settings; counters = a.counters; series = a.series; count = a.positions.count }

-- "cash, .. position count"
unfoldable pub head_values : Ledger → List ℕ
head_values h = folded h.cash ∷ setting_values h.settings (counter_values h.counters h.series (h.count ∷ []))

-- ---- back
abbrev pub number_in : List ℕ → ℕ → ℤ
number_in vs i = unfolded (get_or vs i 0)

abbrev pub rate_in : List ℕ → ℕ → Float
rate_in vs i = float_of (get_or vs i 0)

unfoldable pub settings_of : List ℕ → Settings
settings_of vs =
    settings
    (of_costs (with_ceiling (number_in vs 11) (model (rate_in vs 6) (rate_in vs 8) (number_in vs 1))))
    (number_in vs 5)
    (number_in vs 2)
    (number_in vs 3)
    (rate_in vs 7)
    (cap_of (get_or vs 9 0) (get_or vs 10 0))
    (number_in vs 4)
    (flag_of (get_or vs 12 0))
    (flag_of (get_or vs 13 0))

unfoldable pub counters_of : List ℕ → Counters
counters_of vs = record {
  last_rebalance_order_count = get_or vs 14 0;
  last_rebalance_notional = number_in vs 15;
  trimmed_fill_count = get_or vs 16 0;
  trimmed_shortfall_cents = number_in vs 17;
  record_count = get_or vs 18 0;
}

unfoldable pub series_of : List ℕ → Series
series_of vs = series (get_or vs 19 0) (get_or vs 20 0) (number_in vs 21)

-- the account of numbers and a table of positions
unfoldable pub account_of : List ℕ → Table → Account
account_of vs t = record { cash = number_in vs 0; settings = settings_of vs; counters = counters_of vs; series = series_of vs; positions = t }
