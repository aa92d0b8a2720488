-- How many words settings, counters and an account take, and the place of each word: once here, and once in src/sizes.rt, which the contracts hold to this.
-- Definitions only.
use Rattle.std.specs.Prelude.{ℕ, ◌+◌, ◌*◌}

-- ---- settings: the place of each word among them
abbrev pub settings_size : ℕ
settings_size = 15

-- in bytes
abbrev pub settings_length : ℕ
settings_length = 8 * settings_size

abbrev pub commission_at : ℕ
commission_at = 0

abbrev pub slippage_at : ℕ
slippage_at = 1

abbrev pub min_commission_at : ℕ
min_commission_at = 2

abbrev pub step_at : ℕ
step_at = 3

abbrev pub min_order_at : ℕ
min_order_at = 4

abbrev pub max_order_at : ℕ
max_order_at = 5

abbrev pub band_at : ℕ
band_at = 6

abbrev pub cap_mark_at : ℕ
cap_mark_at = 7

abbrev pub cap_count_at : ℕ
cap_count_at = 8

abbrev pub max_notional_at : ℕ
max_notional_at = 9

abbrev pub recording_at : ℕ
recording_at = 10

abbrev pub cash_first_at : ℕ
cash_first_at = 11

abbrev pub max_commission_at : ℕ
max_commission_at = 12

-- two words that stand for no setting: 0
abbrev pub cover_rule_at : ℕ
cover_rule_at = 13

abbrev pub long_only_at : ℕ
long_only_at = 14

-- ---- an account: cash, settings, counters, series, the count of positions, five columns
abbrev pub cash_at : ℕ
cash_at = 0

abbrev pub settings_from : ℕ
settings_from = 1

abbrev pub counters_size : ℕ
counters_size = 7

abbrev pub counters_from : ℕ
counters_from = settings_from + settings_size

abbrev pub order_count_at : ℕ
order_count_at = counters_from

abbrev pub last_notional_at : ℕ
last_notional_at = counters_from + 1

abbrev pub trimmed_count_at : ℕ
trimmed_count_at = counters_from + 2

abbrev pub shortfall_at : ℕ
shortfall_at = counters_from + 3

abbrev pub record_count_at : ℕ
record_count_at = counters_from + 4

-- two words that stand for no counter: 0
abbrev pub open_count_at : ℕ
open_count_at = counters_from + 5

abbrev pub closed_total_at : ℕ
closed_total_at = counters_from + 6

abbrev pub series_size : ℕ
series_size = 3

abbrev pub series_from : ℕ
series_from = counters_from + counters_size

abbrev pub equity_count_at : ℕ
equity_count_at = series_from

abbrev pub return_count_at : ℕ
return_count_at = series_from + 1

abbrev pub prev_equity_at : ℕ
prev_equity_at = series_from + 2

abbrev pub count_at_of : ℕ
count_at_of = series_from + series_size

-- counters, series and count
abbrev pub counts_size : ℕ
counts_size = counters_size + series_size + 1

abbrev pub column_size : ℕ
column_size = 64

abbrev pub symbols_from : ℕ
symbols_from = count_at_of + 1

abbrev pub quantities_from : ℕ
quantities_from = symbols_from + column_size

abbrev pub averages_from : ℕ
averages_from = quantities_from + column_size

abbrev pub realized_from : ℕ
realized_from = averages_from + column_size

abbrev pub totals_from : ℕ
totals_from = realized_from + column_size

abbrev pub account_size : ℕ
account_size = totals_from + column_size

-- in bytes
abbrev pub account_length : ℕ
account_length = 8 * account_size
