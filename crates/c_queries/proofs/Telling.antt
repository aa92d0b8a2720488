-- What is written of a query: all words of what is lent, or none. Of an unsound account each query tells 11.
use Prim.Native.Nat.{ℕ, ◌*◌, ◌-◌, ◌≤◌}
use mathlib.Core.Path.{◌≡◌, sym, ap, ◌∙◌}
use mathlib.Core.Bool.{Bool, true, false}
use mathlib.Core.List.{List, [], ◌∷◌, ◌++◌, map, append-nil}
use native.Mathlib.Omega.{arith}
use lib.IntN.{ℤ}
use lib.ListN.{length, replicate, length-append, length-map, drop_of_length-le}
use Rattle.answer.specs.declared.Answer.{Answer}
use Rattle.answer.specs.declared.Answer.TheVariants.{Done, Unsound}
use Rattle.table.specs.Keyed.{pick}
use Rattle.call_lists.specs.Lists.{price_of}
use Rattle.word_bytes.specs.Words.{bytes_of, put_word}
use Rattle.word_bytes.proofs.Words.{length-bytes}
use Rattle.account.specs.declared.account.Account.{Account}
use Rattle.account.specs.Account.{sound_account}
use Rattle.list_bytes.specs.Inner.Records.{put_all}
use Rattle.list_bytes.proofs.Puts.{put-all_fronts}
use Rattle.portfolio.specs.Answers.{is_done, query_answer}
use Rattle.portfolio.specs.Queries.{told_equity}
use Rattle.account.specs.declared.query.Told.{Told}
use Rattle.queries.specs.declared.answered.Snapshot.{Snapshot}
use Rattle.queries.specs.declared.answered.Unpriced.{Unpriced}
use Rattle.queries.specs.declared.answered.Weights.{Weights}
use Rattle.queries.specs.Queries.{Weight}
use Rattle.queries.specs.Answers.{weighed, answered_weights, weights_now, told_unpriced, told_weights, told_snapshot, no_snapshot}
use Rattle.queries.proofs.Snapshots.{weights-told}
use Rattle.c_queries.specs.Told.{QueryTold, tell_query, refusing, ToldBoth, tell_both, refusing_both}
use Rattle.c_queries.specs.Reports.{equity_told, unpriced_told, weights_told, snapshot_told}
use Rattle.c_queries.proofs.Asking.{Query}

-- ---- words over all of what is lent
put_full : (ws l : List ℕ) → length l ≡ 8 * length ws → put_all l 0 ws ≡ bytes_of ws
put_full ws l e =
    put-all_fronts ws l (omega arith)
    ∙ ap (λ (r : List ℕ). bytes_of ws ++ r) (drop_of_length-le l {i = length (bytes_of ws)} (omega (arith, length-bytes ws)))
    ∙ append-nil (bytes_of ws)

pub one-put : (l : List ℕ) (u : ℕ) → length l ≡ 8 → put_word l 0 u ≡ bytes_of (u ∷ [])
unfolding put_all
one-put l u e = put_full (u ∷ []) l e

pub two_puts : (l : List ℕ) (u v : ℕ) → length l ≡ 16 → put_word (put_word l 0 u) 1 v ≡ bytes_of (u ∷ v ∷ [])
unfolding put_all
two_puts l u v e = put_full (u ∷ v ∷ []) l e

-- one word after those of the figures
pub five_puts : (l : List ℕ) (u v x y z : ℕ) → length l ≡ 40 → put_word (put_all l 0 (u ∷ v ∷ x ∷ y ∷ [])) 4 z ≡ bytes_of (u ∷ v ∷ x ∷ y ∷ z ∷ [])
unfolding put_all
five_puts l u v x y z e = put_full (u ∷ v ∷ x ∷ y ∷ z ∷ []) l e

-- ---- weights that stand in columns of 64 places are no more than 64
few-weighed : (l : List Weight) → length (weighed l).symbol ≡ 64 → (weighed l).count ≤ 64
unfolding weighed
few-weighed l e =
    let ks : List ℕ = map (λ (w : Weight). w.symbol) l in
    omega (arith, e, length-append ks (replicate (64 - length ks) 0), length-map l (λ (w : Weight). w.symbol))

few_by : (t : Bool) (x y : List Weight) (v w : Answer) → let r = pick t (answered_weights v (weighed x)) (answered_weights w (weighed y)) in length r.weights.symbol ≡ 64 → r.weights.count ≤ 64
few_by true x y v w e = few-weighed x e
few_by false x y v w e = few-weighed y e

module _ (a : Account) (ss : List ℕ) (vs : List ℤ) where
  few-told : length (told_weights a ss vs).weights.symbol ≡ 64 → (told_weights a ss vs).weights.count ≤ 64
  unfolding told_weights
  few-told e = few_by (is_done (query_answer a ss vs)) (weights_now (price_of ss vs) a) [] Done (query_answer a ss vs) e

  pub few-weights : {r : Weights} → r ≡ told_weights a ss vs → length r.weights.symbol ≡ 64 → r.weights.count ≤ 64
  few-weights e n = omega (arith, ap (λ (k : Weights). k.weights.count) e, few-told (sym (ap (λ (k : Weights). length k.weights.symbol) e) ∙ n))

  pub few_in_snapshot : {r : Snapshot} → r ≡ told_snapshot a ss vs → length r.weights.symbol ≡ 64 → r.weights.count ≤ 64
  few_in_snapshot {r} e n = few-weights {r = answered_weights r.answer r.weights} (ap (λ (k : Snapshot). answered_weights k.answer k.weights) e ∙ weights-told a ss vs) n

-- ---- the queries, each of which tells "the account is not sound" itself
module _ (out : List ℕ) (a : Account) (ss : List ℕ) (vs : List ℤ) (h : sound_account a ≡ false) where
  pub equity_unsound : equity_told (told_equity a ss vs) out ≡ refusing out Unsound
  unfolding equity_told told_equity query_answer
  equity_unsound = simp h

  pub unpriced_unsound : unpriced_told (told_unpriced a ss vs) out ≡ refusing out Unsound
  unfolding unpriced_told told_unpriced query_answer
  unpriced_unsound = simp h

  pub weights_unsound : weights_told (told_weights a ss vs) out ≡ refusing out Unsound
  unfolding weights_told told_weights query_answer
  weights_unsound = simp h

  pub snapshot_unsound : (weights : List ℕ) → snapshot_told (told_snapshot a ss vs) out weights ≡ refusing_both out weights Unsound
  unfolding snapshot_told told_snapshot no_snapshot query_answer
  snapshot_unsound weights = simp h

abbrev pub equity_query : List ℕ → Query (Told ℤ) QueryTold
equity_query out = record { gives = told_equity; tells = λ c. equity_told c out; leaves = λ n. tell_query n out; unsound = equity_unsound out }

abbrev pub unpriced_query : List ℕ → Query Unpriced QueryTold
unpriced_query out = record { gives = told_unpriced; tells = λ u. unpriced_told u out; leaves = λ n. tell_query n out; unsound = unpriced_unsound out }

abbrev pub weights_query : List ℕ → Query Weights QueryTold
weights_query out = record { gives = told_weights; tells = λ w. weights_told w out; leaves = λ n. tell_query n out; unsound = weights_unsound out }

abbrev pub snapshot_query : List ℕ → List ℕ → Query Snapshot ToldBoth
snapshot_query figures weights =
    record { gives = told_snapshot; tells = λ s. snapshot_told s figures weights; leaves = λ n. tell_both n figures weights; unsound = λ a ss vs h. snapshot_unsound figures a ss vs h weights }
