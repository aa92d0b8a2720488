-- What every query tells of two accounts: the same, but for the sign of a zero among the rates. Definitions only.
use Rattle.std.specs.Prelude.{ℕ, ◌≡◌, Bool, List, ℤ}
use Rattle.account.specs.declared.account.Account.{Account}
use Rattle.account.specs.Account.{sound_account}
use Rattle.account.specs.Calls.{told_cents, told_step, told_count, told_rate, told_flag, told_cap, told_costs, position_of, position_at_of}
use Rattle.portfolio.specs.Queries.{told_equity}
use Rattle.queries.specs.Answers.{told_snapshot, told_weights, told_unpriced}
use Rattle.zero_laws.specs.Calls.{plain_rate, plain_told}

-- one figure of the account, told as the queries tell it
abbrev pub TellSame : {A B : Type 0} → (Bool → A → B) → (Account → A) → Account → Account → Type 0
TellSame told figure a b = told (sound_account a) (figure a) ≡ told (sound_account b) (figure b)

pub record SameTold (a b : Account) : Type 0 where
  pub sound : sound_account a ≡ sound_account b
  -- cash and settings
  pub cash : TellSame told_cents (λ x. x.cash) a b
  pub step : TellSame told_step (λ x. x.settings.quantity_step) a b
  pub min-order : TellSame told_cents (λ x. x.settings.min_order_value) a b
  pub max-order : TellSame told_cents (λ x. x.settings.max_order_value) a b
  pub trade_cap_lem : TellSame told_cap (λ x. x.settings.max_trades_per_rebalance) a b
  pub max-notional : TellSame told_cents (λ x. x.settings.max_rebalance_notional) a b
  pub recording : TellSame told_flag (λ x. x.settings.recording) a b
  pub cash-first : TellSame told_flag (λ x. x.settings.cash_first) a b
  -- "that sign apart"
  pub band : TellSame (λ sound x. plain_rate (told_rate sound x)) (λ x. x.settings.no_trade_band_bps) a b
  pub costs : TellSame (λ sound m. plain_told (told_costs sound m)) (λ x. x.settings.rules.cost_model) a b
  -- counters and series
  pub order-count : TellSame told_count (λ x. x.counters.last_rebalance_order_count) a b
  pub last-notional : TellSame told_cents (λ x. x.counters.last_rebalance_notional) a b
  pub trimmed : TellSame told_count (λ x. x.counters.trimmed_fill_count) a b
  pub shortfall : TellSame told_cents (λ x. x.counters.trimmed_shortfall_cents) a b
  pub record_count_lem : TellSame told_count (λ x. x.counters.record_count) a b
  pub equity-count : TellSame told_count (λ x. x.series.equity_count) a b
  pub return-count : TellSame told_count (λ x. x.series.return_count) a b
  pub previous_equity : TellSame told_cents (λ x. x.series.prev_equity) a b
  -- positions
  pub position-count : TellSame told_count (λ x. x.positions.count) a b
  pub position : (s : ℕ) → position_of s a ≡ position_of s b
  pub position_at : (i : ℕ) → position_at_of i a ≡ position_at_of i b
  -- with prices
  pub equity : (ps : List ℕ) (vs : List ℤ) → told_equity a ps vs ≡ told_equity b ps vs
  pub snapshot : (ps : List ℕ) (vs : List ℤ) → told_snapshot a ps vs ≡ told_snapshot b ps vs
  pub weights : (ps : List ℕ) (vs : List ℤ) → told_weights a ps vs ≡ told_weights b ps vs
  pub unpriced : (ps : List ℕ) (vs : List ℤ) → told_unpriced a ps vs ≡ told_unpriced b ps vs
