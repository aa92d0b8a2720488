-- Orders in columns, the scalars and lent columns of a run as what fills change, and what the functions do to them.
use Rattle.std.specs.Prelude.{ℕ, ◌≡◌, Bool, false, List, [], ◌++◌, length, take, ℤ, option_to_list}
use Rattle.std.specs.Bool.{then_some}
use Rattle.position.specs.Shares.{is_zero}
use Rattle.table.specs.Keyed.{pick}
use Rattle.table.specs.Rows.{zip2, give, rows}
use Rattle.table.specs.declared.table.Columns.{Columns}
use Rattle.table.specs.Inner.Rows.{Ordered}
use Rattle.fills.specs.declared.deal.Deal.{Deal}
use Rattle.fills.specs.declared.fill.Filled.{Filled}
use Rattle.fills.specs.declared.terms.Book.{Book}
use Rattle.fills.specs.declared.terms.Order.{Order}
use Rattle.fills.specs.declared.terms.Terms.{Terms}
use Rattle.fills.specs.declared.record.ExecutionRecord.{ExecutionRecord}
use Rattle.fills.specs.Orders.{State, order, next_count}
use Rattle.fills.specs.Records.{Buffers, stored_all}
use Rattle.fills.specs.Fill.{fill, fill_all}
use Rattle.fills.specs.Inner.Deal.{deal_of, record_by, trims_after, shortfall_after}

-- the first m orders of three columns
unfoldable pub orders : ℕ → List ℕ → List ℤ → List ℤ → List Order
orders m s q p = take m (zip2 give (zip2 order s q) p)

-- the scalars, the columns and the records made so far
abbrev pub state : Book → Columns → List ExecutionRecord → State
state b c rs = record { cash = b.cash; held = rows b.count c; trimmed = b.trimmed; shortfall = b.shortfall; sequence = b.sequence; records = rs }

unfoldable pub counted_in : Deal → Book → Book
counted_in d b = record {
  cash = b.cash;
  count = b.count;
  trimmed = trims_after d.lost b.trimmed;
  shortfall = shortfall_after d.lost b.shortfall;
  sequence = b.sequence;
  written = b.written;
  hint = b.hint;
}

-- the scalars after a fill that leaves this cash and this count of positions: the record count rises only while recording
unfoldable pub settled_in : ℤ → ℕ → Bool → ℕ → Book → Book
settled_in cash count recorded hint b = record {
  cash = cash;
  count = count;
  trimmed = b.trimmed;
  shortfall = b.shortfall;
  sequence = pick recorded (next_count b.sequence) b.sequence;
  written = b.written;
  hint = hint;
}

-- the same scalars with another count of places written
abbrev pub kept_in : ℕ → Book → Book
kept_in w b = record { cash = b.cash; count = b.count; trimmed = b.trimmed; shortfall = b.shortfall; sequence = b.sequence; written = w; hint = b.hint }

-- the record of a fill, if there is one
abbrev pub records_of : Filled → List ExecutionRecord
records_of f = option_to_list f.«record»

-- (b, c) to (r, d) by one order
pub record Fills (t : Terms) (o : Order) (b : Book) (c : Columns) (r : Filled) (d : Columns) : Type 0 where
  pub ordered : Ordered r.book.count d
  pub done : (rs : List ExecutionRecord) → state r.book d (rs ++ records_of r) ≡ fill t o (state b c rs)
  pub written : r.book.written ≡ b.written
  pub all : r.made ≡ record_by t o (deal_of t o b.cash) b.sequence b.cash
  pub made : r.«record» ≡ then_some (pick (is_zero (deal_of t o b.cash).quantity.0) false t.recording) (record_by t o (deal_of t o b.cash) b.sequence b.cash)

-- (b, c) and the lent slices to (r, d) and theirs by a run of orders
pub record Runs (t : Terms) (os : List Order) (b : Book) (c : Columns) (l : Buffers) (r : Book) (d : Columns) (k : Buffers) : Type 0 where
  pub ordered : Ordered r.count d
  pub done : state r d (fill_all t os (state b c [])).records ≡ fill_all t os (state b c [])
  pub kept : k ≡ stored_all (fill_all t os (state b c [])).records l

-- what a run is given: ordered columns, and order columns of 64 places
pub record Given (n : ℕ) (c : Columns) (os : List ℕ) (oq op : List ℤ) : Type 0 where
  pub ordered : Ordered n c
  pub symbols : length os ≡ 64
  pub quantities : length oq ≡ 64
  pub prices : length op ≡ 64
