-- A run of orders on an account, and on a ledger with lent columns.
use Rattle.std.specs.Prelude.{ℕ, ◌≡◌, true, List, length, ℤ}
use Rattle.answer.specs.declared.Answer.TheVariants.{Done}
use Rattle.table.specs.Rows.{columns_of, Full}
use Rattle.table.specs.declared.table.Columns.{Columns}
use Rattle.fills.specs.declared.terms.Book.{Book}
use Rattle.fills.specs.declared.terms.Order.{Order}
use Rattle.fills.specs.declared.record.ExecutionKind.{ExecutionKind}
use Rattle.fills.specs.Orders.{State}
use Rattle.fills.specs.Fill.{fill_all}
use Rattle.account.specs.declared.account.Account.{Account}
use Rattle.account.specs.declared.account.Ledger.{Ledger}
use Rattle.account.specs.Account.{sound_account}
use Rattle.account.specs.Inner.Account.{account_with}
use Rattle.portfolio.specs.declared.trade.Ran.{Ran}
use Rattle.portfolio.specs.declared.trade.Traded.{Traded}
use Rattle.portfolio.specs.Answers.{has_room_of}
use Rattle.portfolio.specs.Rebalance.{Outcome, terms_of, state_of, account_after}

-- ---- a run of orders on an account
abbrev pub state_after : Account → List Order → ℕ → ExecutionKind → State
state_after a os period kind = fill_all (terms_of a period kind) os (state_of a)

-- with the two last-rebalance figures
abbrev pub after_orders : Account → List Order → ℕ → ExecutionKind → ℕ → ℤ → Outcome
after_orders a os period kind orders traded = record {
  answer = Done;
  account = account_after a (state_after a os period kind) orders traded;
  records = (state_after a os period kind).records;
}

-- ---- the same on lent columns
-- what a call on a ledger answers, with the columns as it leaves them
abbrev pub traded_on : Ran → Columns → Traded
traded_on r c = record { answer = r.answer; records = r.records; account = account_with r.ledger c }

abbrev pub book_of_ledger : Ledger → Book
book_of_ledger h = record {
  cash = h.cash;
  count = h.count;
  trimmed = h.counters.trimmed_fill_count;
  shortfall = h.counters.trimmed_shortfall_cents;
  sequence = h.counters.record_count;
  written = 0;
  hint = 0;
}

abbrev pub ledger_from : Ledger → Book → ℕ → ℤ → Ledger
ledger_from h b orders traded = record {
  cash = b.cash;
  settings = h.settings;
  counters = record {
    last_rebalance_order_count = orders;
    last_rebalance_notional = traded;
    trimmed_fill_count = b.trimmed;
    trimmed_shortfall_cents = b.shortfall;
    record_count = b.sequence;
  };
  series = h.series;
  count = b.count;
}

-- what a run of m orders is given: a sound account, room for a record of each, and columns of 64 places
pub record Fillable (a : Account) (m room : ℕ) (os : List ℕ) (oq op : List ℤ) : Type 0 where
  pub sound : sound_account a ≡ true
  pub roomy : has_room_of a m room ≡ true
  pub full : Full (columns_of a.positions)
  pub symbols : length os ≡ 64
  pub quantities : length oq ≡ 64
  pub prices : length op ≡ 64
