-- A call whose records have the room of a run: what it files in number slices of so many places goes into the run's first places.
use Prim.Native.Nat.{ℕ, ◌*◌, ◌≤◌, min}
use mathlib.Core.Path.{◌≡◌, ap, ◌∙◌}
use mathlib.Core.List.{List}
use native.Mathlib.Omega.{arith}
use lib.IntN.{ℤ}
use lib.ListN.{length, take, drop, length-append}
use lib.Seq.{length-take-le}
use Rattle.fills.specs.declared.record.ExecutionRecord.{ExecutionRecord}
use Rattle.fills.specs.Records.{all_words, all_ints, fronted}
use Rattle.fills.proofs.Fronts.{words_long}
use Rattle.portfolio.specs.declared.trade.Traded.{Traded}
use Rattle.portfolio.specs.Answers.{record_places}
use Rattle.portfolio.specs.Rebalance.{Outcome}
use Rattle.portfolio.specs.Trades.{filed, filed_by}
use Rattle.records.specs.Run.{records_at, collected}
use Rattle.records.specs.Into.{handed, handed_by}
use Rattle.records.proofs.Reading.{read_back}

-- the places of n records
places_are : (n : ℕ) (zw : List ℕ) (zi : List ℤ) → n * 4 ≤ length zw → n * 8 ≤ length zi → record_places (length (take (n * 4) zw)) (length (take (n * 8) zi)) ≡ n
places_are n zw zi gw gi =
    let u = length-take-le (n * 4) zw gw in
    let v = length-take-le (n * 8) zi gi in
    omega (arith, u, v)

-- what a call files in the first n places of each slice, no more than the run has, and what is stored of it into the run
module _ (at : ℕ → Outcome) (n : ℕ) (zw ws : List ℕ) (zi is : List ℤ) (ys zs : List ExecutionRecord) (t : Traded)
    (gw : n * 4 ≤ length zw) (gi : n * 8 ≤ length zi) (lw : length ws ≡ length (take (n * 4) zw)) (few : n ≤ length ys) (same : at n ≡ at (length ys))
    (e : filed_by t ws is ≡ filed (at (record_places (length (take (n * 4) zw)) (length (take (n * 8) zi)))) (take (n * 4) zw) (take (n * 8) zi))
    (r : zs ≡ collected ws is t.records ys) where
  abbrev o : Outcome
  o = at (length ys)

  abbrev rest_words : List ℕ
  rest_words = drop (length (all_words o.records)) (take (n * 4) zw)

  abbrev rest_ints : List ℤ
  rest_ints = drop (length (all_ints o.records)) (take (n * 8) zi)

  filed_is : filed_by t ws is ≡ filed o (take (n * 4) zw) (take (n * 8) zi)
  filed_is = e ∙ ap (λ k. filed k (take (n * 4) zw) (take (n * 8) zi)) (ap at (places_are n zw zi gw gi) ∙ same)

  all-handed : min (length o.records) (length ys) ≡ length o.records
  all-handed = omega (arith, words_long o.records, ap (λ x. length x.words) filed_is, length-append (all_words o.records) rest_words, lw, length-take-le (n * 4) zw gw, few)

  run-handed : zs ≡ fronted o.records ys
  run-handed =
      r ∙ ap (λ x. collected x.words x.ints x.records ys) filed_is
      ∙ ap (λ k. fronted (records_at (fronted (all_words o.records) (take (n * 4) zw)) (fronted (all_ints o.records) (take (n * 8) zi)) k) ys) all-handed
      ∙ ap (λ l. fronted l ys) (read_back o.records rest_words rest_ints)

  pub all_is_handed : handed_by t zs ≡ handed o ys
  all_is_handed = λ i. record { answer = (filed_is i).answer; account = (filed_is i).account; records = (filed_is i).records; run = run-handed i }
