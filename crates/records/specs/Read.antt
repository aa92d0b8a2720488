-- The record that number slices hold at a place: four words and eight signed numbers, as `stored` writes them.
use Rattle.std.specs.Prelude.{ℕ, ◌+◌, ◌*◌, List, get_or, ℤ, pos}
use Rattle.table.specs.Keyed.{pick}
use Rattle.position.specs.Rows.{shares, symbol}
use Rattle.fills.specs.declared.record.ExecutionKind.TheVariants.{Rebalance}
use Rattle.fills.specs.declared.record.ExecutionRecord.{ExecutionRecord}
use Rattle.fills.specs.Records.{kind_of, buffers, room}

unfoldable pub record_in : List ℕ → List ℤ → ℕ → ExecutionRecord
record_in ws is i = record {
  sequence = get_or ws (i * 4) 0;
  period_index = get_or ws (i * 4 + 1) 0;
  kind = kind_of (get_or ws (i * 4 + 2) 0);
  symbol = symbol (get_or ws (i * 4 + 3) 0);
  quantity = shares (get_or is (i * 8) (pos 0));
  price = get_or is (i * 8 + 1) (pos 0);
  reference_price = get_or is (i * 8 + 2) (pos 0);
  notional = get_or is (i * 8 + 3) (pos 0);
  reference_notional = get_or is (i * 8 + 4) (pos 0);
  cost = get_or is (i * 8 + 5) (pos 0);
  cash_delta = get_or is (i * 8 + 6) (pos 0);
  cash_after = get_or is (i * 8 + 7) (pos 0);
}

-- all zeros, of a rebalance
abbrev pub blank : ExecutionRecord
blank = record {
  sequence = 0;
  period_index = 0;
  kind = Rebalance;
  symbol = symbol 0;
  quantity = shares (pos 0);
  price = pos 0;
  reference_price = pos 0;
  notional = pos 0;
  reference_notional = pos 0;
  cost = pos 0;
  cash_delta = pos 0;
  cash_after = pos 0;
}

-- a place that either slice lacks has the blank record
unfoldable pub record_at : List ℕ → List ℤ → ℕ → ExecutionRecord
record_at ws is i = pick (room i (buffers ws is i)) (record_in ws is i) blank
