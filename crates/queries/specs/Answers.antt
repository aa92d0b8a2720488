-- What each query answers; "Queries refuse by the same table", and "Each refusal returns its number with zero figures".
use Rattle.std.specs.Prelude.{ℕ, true, false, List, [], map, length, ℤ, pos}
use Rattle.std.proofs.Math.Option.{Option, none, some}
use Rattle.doubles.specs.Doubles.{zero}
use Rattle.answer.specs.declared.Answer.{Answer}
use Rattle.answer.specs.declared.Answer.TheVariants.{Done}
use Rattle.table.specs.Keyed.{pick}
use Rattle.table.specs.Rows.{padded_column}
use Rattle.call_lists.specs.Lists.{price_of}
use Rattle.account.specs.declared.account.Account.{Account}
use Rattle.account.specs.Account.{held_in}
use Rattle.wanted.specs.Equity.{equity_of}
use Rattle.portfolio.specs.Answers.{is_done, query_answer}
use Rattle.queries.specs.declared.answered.Weighed.{Weighed}
use Rattle.queries.specs.declared.answered.Snapshot.{Snapshot}
use Rattle.queries.specs.declared.answered.Weights.{Weights}
use Rattle.queries.specs.declared.answered.Unpriced.{Unpriced}
use Rattle.queries.specs.Queries.{Weight, open_ones, weights_of, first_unpriced, profit_from}

-- ---- weights by value, unused places zero
unfoldable pub weighed : List Weight → Weighed
weighed l = record {
  count = length l;
  symbol = padded_column 64 0 (map (λ (w : Weight). w.symbol) l);
  weight = padded_column 64 zero (map (λ (w : Weight). w.weight) l);
}

-- ---- a snapshot
unfoldable pub snapshot_of : (ℕ → ℤ) → Account → Snapshot
snapshot_of price a =
    let held = held_in a.positions in
    let equity = equity_of price a.cash held in
    record {
      answer = Done;
      cash = a.cash;
      equity = equity;
      num_positions = length (open_ones held);
      total_realized_pnl = profit_from (pos 0) held;
      weights = weighed (weights_of price equity held);
    }

unfoldable pub no_snapshot : Answer → Snapshot
no_snapshot answer = record {
  answer = answer;
  cash = pos 0;
  equity = pos 0;
  num_positions = 0;
  total_realized_pnl = pos 0;
  weights = weighed [];
}

unfoldable pub told_snapshot : Account → List ℕ → List ℤ → Snapshot
told_snapshot a ps vs = pick (is_done (query_answer a ps vs)) (snapshot_of (price_of ps vs) a) (no_snapshot (query_answer a ps vs))

-- ---- the weights alone
abbrev pub answered_weights : Answer → Weighed → Weights
answered_weights answer w = record { answer = answer; weights = w }

unfoldable pub weights_now : (ℕ → ℤ) → Account → List Weight
weights_now price a = weights_of price (equity_of price a.cash (held_in a.positions)) (held_in a.positions)

unfoldable pub told_weights : Account → List ℕ → List ℤ → Weights
told_weights a ps vs =
    pick (is_done (query_answer a ps vs))
    (answered_weights Done (weighed (weights_now (price_of ps vs) a)))
    (answered_weights (query_answer a ps vs) (weighed []))

-- ---- the first holding without a price
abbrev pub answered_unpriced : Answer → Option ℕ → Unpriced
answered_unpriced answer none = record { answer = answer; present = false; symbol = 0 }
answered_unpriced answer (some s) = record { answer = answer; present = true; symbol = s }

unfoldable pub told_unpriced : Account → List ℕ → List ℤ → Unpriced
told_unpriced a ps vs =
    pick (is_done (query_answer a ps vs))
    (answered_unpriced Done (first_unpriced (price_of ps vs) (held_in a.positions)))
    (answered_unpriced (query_answer a ps vs) none)
