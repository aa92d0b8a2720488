-- An account as words and as bytes. Definitions only.
use Rattle.std.specs.Prelude.{ℕ, Bool, List, [], ◌∷◌, ◌++◌, map, eqb, length, get_or, take, drop, ℤ, Option, Some, None}
use Rattle.word_bytes.specs.Words.{words_of, bytes_of, turned}
use Rattle.word_bytes.specs.Numbers.{signed_of, unsigned_of}
use Rattle.table.specs.Keyed.{pick, both}
use Rattle.table.specs.Rows.{cols, columns_of}
use Rattle.table.specs.declared.table.Columns.{Columns}
use Rattle.table.specs.declared.table.Table.{Table}
use Rattle.account.specs.declared.account.Account.{Account}
use Rattle.account.specs.declared.account.Counters.{Counters}
use Rattle.account.specs.declared.account.Series.{Series}
use Rattle.account.specs.Account.{sound_account, with_series}
use Rattle.account.specs.Calls.{series, zero_account}
use Rattle.account_bytes.specs.Sizes.{cash_at, settings_from, order_count_at, last_notional_at, trimmed_count_at, shortfall_at, record_count_at, open_count_at, closed_total_at, equity_count_at, return_count_at, prev_equity_at, count_at_of, column_size, symbols_from, quantities_from, averages_from, realized_from, totals_from, account_length}
use Rattle.account_bytes.specs.Settings.{is_spare, settings_words, settings_at, are_settings}

-- ---- counters, with 0 where none stands; series; the count of positions
abbrev pub counter_words : Counters → List ℕ
counter_words k =
    k.last_rebalance_order_count
    ∷ unsigned_of k.last_rebalance_notional
    ∷ k.trimmed_fill_count
    ∷ unsigned_of k.trimmed_shortfall_cents
    ∷ k.record_count
    ∷ 0
    ∷ 0
    ∷ []

abbrev pub series_words : Series → List ℕ
series_words s = s.equity_count ∷ s.return_count ∷ unsigned_of s.prev_equity ∷ []

unfoldable pub count_words : Counters → Series → ℕ → List ℕ
count_words k s n = counter_words k ++ (series_words s ++ (n ∷ []))

abbrev pub counters_of : List ℕ → Counters
counters_of ws = record {
  last_rebalance_order_count = get_or ws order_count_at 0;
  last_rebalance_notional = signed_of (get_or ws last_notional_at 0);
  trimmed_fill_count = get_or ws trimmed_count_at 0;
  trimmed_shortfall_cents = signed_of (get_or ws shortfall_at 0);
  record_count = get_or ws record_count_at 0;
}

abbrev pub spare_counters : List ℕ → Bool
spare_counters ws = both (is_spare (get_or ws open_count_at 0)) (is_spare (get_or ws closed_total_at 0))

abbrev pub series_of : List ℕ → Series
series_of ws = series (get_or ws equity_count_at 0) (get_or ws return_count_at 0) (signed_of (get_or ws prev_equity_at 0))

-- ---- five columns
-- a column of the words from a place on, as f reads a word
abbrev pub column_at : {A : Type 0} → (ℕ → A) → ℕ → List ℕ → List A
column_at f from ws = map f (take column_size (drop from ws))

abbrev pub symbols_at : ℕ → List ℕ → List ℕ
symbols_at from ws = column_at turned from ws

abbrev pub numbers_at : ℕ → List ℕ → List ℤ
numbers_at from ws = column_at signed_of from ws

unfoldable pub column_words : Columns → List ℕ
column_words c =
    map turned c.symbol
    ++ (map unsigned_of c.quantity
    ++ (map unsigned_of c.average
    ++ (map unsigned_of c.realized
    ++ map unsigned_of c.total)))

unfoldable pub table_from : List ℕ → Table
table_from ws = record {
  count = get_or ws count_at_of 0;
  columns = cols (symbols_at symbols_from ws) (numbers_at quantities_from ws) (numbers_at averages_from ws) (numbers_at realized_from ws) (numbers_at totals_from ws);
}

-- ---- the account
unfoldable pub account_words_of : Account → List ℕ
account_words_of a = unsigned_of a.cash ∷ (settings_words a.settings ++ (count_words a.counters a.series a.positions.count ++ column_words (columns_of a.positions)))

unfoldable pub account_of : List ℕ → Account
account_of ws = record {
  cash = signed_of (get_or ws cash_at 0);
  settings = settings_at settings_from ws;
  counters = counters_of ws;
  series = series_of ws;
  positions = table_from ws;
}

-- ---- bytes
-- "Account bytes of the wrong length answer 11", and so do words that no account has; whether the account is sound is for the calls to refuse.
unfoldable pub hold_account : List ℕ → Bool
hold_account l = both (eqb (length l) account_length) (both (are_settings settings_from (words_of l)) (spare_counters (words_of l)))

-- none where they hold none
unfoldable pub read_account : List ℕ → Option Account
read_account l = pick (hold_account l) (Some (account_of (words_of l))) None

-- the account that bytes hold, all zeros where they hold none
unfoldable pub account_in : List ℕ → Account
account_in l = pick (hold_account l) (account_of (words_of l)) zero_account

-- "Account bytes of the wrong length answer 11", as do a bad mark or flag and a NaN, and an account that is not sound
unfoldable pub sound_in : List ℕ → Bool
sound_in l = both (hold_account l) (sound_account (account_in l))

-- as found where the length is another
unfoldable pub written_account : Account → List ℕ → List ℕ
written_account a l = pick (eqb (length l) account_length) (bytes_of (account_words_of a)) l

-- the columns of the account; as found where the length is another
unfoldable pub read_columns : List ℕ → Columns → Columns
read_columns l c = pick (eqb (length l) account_length) (columns_of (account_of (words_of l)).positions) c

-- an account's bytes with another series; as found where they hold no account
unfoldable pub written_series : Series → List ℕ → List ℕ
written_series s l = pick (hold_account l) (written_account (with_series s (account_of (words_of l))) l) l
