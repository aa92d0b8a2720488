-- A snapshot put together from the walks over an account, and the weights that it has.
use Prim.Native.Nat.{ℕ}
use mathlib.Core.Path.{◌≡◌, refl, ap, ◌∙◌}
use mathlib.Core.Bool.{Bool, true, false}
use mathlib.Core.List.{List, []}
use lib.IntN.{ℤ, pos}
use Rattle.answer.specs.declared.Answer.TheVariants.{Done}
use Rattle.sums.specs.Sums.{sat_add}
use Rattle.table.specs.Keyed.{pick}
use Rattle.call_lists.specs.Lists.{price_of}
use Rattle.account.specs.declared.account.Account.{Account}
use Rattle.account.specs.Account.{held_in}
use Rattle.wanted.specs.Equity.{equity_of}
use Rattle.portfolio.specs.Answers.{is_done, query_answer}
use Rattle.portfolio.specs.Queries.{answered_cents, told_equity}
use Rattle.queries.specs.declared.answered.Weighed.{Weighed}
use Rattle.queries.specs.declared.answered.Snapshot.{Snapshot}
use Rattle.queries.specs.declared.sum.Sums.{Sums}
use Rattle.queries.specs.Answers.{weighed, snapshot_of, no_snapshot, told_snapshot, answered_weights, weights_now, told_weights}
use Rattle.queries.specs.Inner.Places.{PositionPrices, AddsUp, WeighsAt}

abbrev pub snapshot_by : ℤ → Sums → ℤ → Weighed → Snapshot
snapshot_by cash r equity w = record {
  answer = Done;
  cash = cash;
  equity = equity;
  num_positions = r.open_count;
  total_realized_pnl = r.profit;
  weights = w;
}

module _ (price : ℕ → ℤ) (a : Account) (ls : List ℤ) (listed : PositionPrices price (held_in a.positions) ls) (r : Sums) (sums : AddsUp (held_in a.positions) ls r) (equity : ℤ) (e : equity ≡ sat_add a.cash r.worth) (w : Weighed) (weights : WeighsAt (held_in a.positions) ls equity w) where
  is_equity : equity ≡ equity_of price a.cash (held_in a.positions)
  unfolding equity_of
  is_equity = e ∙ ap (sat_add a.cash) (sums.worth price listed)

  pub snapshot-made : snapshot_by a.cash r equity w ≡ snapshot_of price a
  unfolding snapshot_of
  snapshot-made = simp (sums.opens, sums.profit, weights.settled price listed, is_equity)

-- the weights of a snapshot are the weights alone
pub weights-told : (a : Account) (ps : List ℕ) (vs : List ℤ) → answered_weights (told_snapshot a ps vs).answer (told_snapshot a ps vs).weights ≡ told_weights a ps vs
unfolding told_snapshot told_weights snapshot_of no_snapshot weights_now
weights-told a ps vs = go (is_done (query_answer a ps vs))
  where
    go : (b : Bool) → let s = pick b (snapshot_of (price_of ps vs) a) (no_snapshot (query_answer a ps vs)) in
        answered_weights s.answer s.weights ≡ pick b (answered_weights Done (weighed (weights_now (price_of ps vs) a))) (answered_weights (query_answer a ps vs) (weighed []))
    go true = refl
    go false = refl

-- the equity of a snapshot is the equity alone
pub equity-told : (a : Account) (ps : List ℕ) (vs : List ℤ) → answered_cents (told_snapshot a ps vs).answer (told_snapshot a ps vs).equity ≡ told_equity a ps vs
unfolding told_snapshot told_equity snapshot_of no_snapshot
equity-told a ps vs = go (is_done (query_answer a ps vs))
  where
    go : (b : Bool) → let s = pick b (snapshot_of (price_of ps vs) a) (no_snapshot (query_answer a ps vs)) in
        answered_cents s.answer s.equity ≡ pick b (answered_cents Done (equity_of (price_of ps vs) a.cash (held_in a.positions))) (answered_cents (query_answer a ps vs) (pos 0))
    go true = refl
    go false = refl
