-- What is written of a call that traded: its records stand in number slices that had room for no more than the buffer has.
use Prim.Native.Nat.{ℕ, ◌*◌, ◌/◌, ◌≤◌, min}
use mathlib.Core.Path.{◌≡◌, ap, ◌∙◌}
use mathlib.Core.List.{List}
use native.Mathlib.Omega.{arith}
use lib.IntN.{ℤ}
use lib.ListN.{length, take, drop, length-append}
use lib.Seq.{length-take-le}
use Rattle.fills.specs.Records.{all_words, all_ints, fronted}
use Rattle.fills.proofs.Fronts.{words_long as words_of}
use Rattle.list_bytes.proofs.Records.{records-written}
use Rattle.portfolio.specs.declared.trade.Traded.{Traded}
use Rattle.portfolio.specs.Answers.{record_places}
use Rattle.portfolio.specs.Rebalance.{Outcome}
use Rattle.portfolio.specs.Trades.{Filed, filed, filed_by}
use Rattle.c_trades.specs.Told.{trade_told}
use Rattle.c_trades.specs.Inner.Told.{finished}

module _ (o : Outcome) (t : Traded) (ws zw : List ℕ) (is zi : List ℤ) (e : filed_by t ws is ≡ filed o zw zi) where
  words_are : ws ≡ fronted (all_words o.records) zw
  words_are = ap (λ (f : Filed). f.words) e

  -- no more than the slice has places for
  few-records : length o.records ≤ length ws / 4
  few-records =
      let l = length-append (all_words o.records) (drop (length (all_words o.records)) zw) in
      omega (arith, words_of o.records, ap length words_are, l)

  count_is : t.records ≡ length o.records
  count_is = ap (λ (f : Filed). f.records) e

  finished-told : (b rs : List ℕ) → length ws / 4 ≤ length rs / 96 → finished t ws is b rs ≡ trade_told o b rs
  unfolding finished trade_told
  finished-told b rs h =
      let n = ap (λ (f : Filed). f.answer) e in
      let a = ap (λ (f : Filed). f.account) e in
      let i = ap (λ (f : Filed). f.ints) e in
      let m : 96 * length o.records ≤ length rs = omega (arith, few-records) in
      simp (n, a, count_is, words_are, i, records-written o.records (drop (length (all_words o.records)) zw) (drop (length (all_ints o.records)) zi) rs m)

-- what is written is what is told, and no more records than the buffer has places for
pub record Finished (o : Outcome) (t : Traded) (ws : List ℕ) (is : List ℤ) (rs : List ℕ) : Type 0 where
  pub few : t.records ≤ 64
  pub written : (b : List ℕ) → finished t ws is b rs ≡ trade_told o b rs

pub finishing : (o : Outcome) (t : Traded) (ws zw : List ℕ) (is zi : List ℤ) (rs : List ℕ) → filed_by t ws is ≡ filed o zw zi
    → length ws ≡ length zw → length zw / 4 ≤ min (length rs / 96) 64 → Finished o t ws is rs
finishing o t ws zw is zi rs e n h =
    record {
      few = omega (arith, count_is o t ws zw is zi e, few-records o t ws zw is zi e);
      written = λ b. finished-told o t ws zw is zi e b rs (omega arith);
    }

-- ---- number slices of as many places as a buffer of q records has, and no more than `most`
pub record Roomed (q most r : ℕ) (ws : List ℕ) (is : List ℤ) : Type 0 where
  pub words_long : length (take (4 * r) ws) ≡ 4 * r
  pub ints-long : length (take (8 * r) is) ≡ 8 * r
  pub same : record_places (length (take (4 * r) ws)) (length (take (8 * r) is)) ≡ min q most

pub roomed : (q most r : ℕ) (ws : List ℕ) (is : List ℤ) → r ≡ min q most → length ws ≡ 4 * most → length is ≡ 8 * most → Roomed q most r ws is
roomed q most r ws is e m n =
    let u = length-take-le (4 * r) ws (omega arith) in
    let v = length-take-le (8 * r) is (omega arith) in
    record { words_long = u; ints-long = v; same = omega (arith, u, v) }

-- a call that asks for no more places than these tells the same in them
pub told_roomed : {q most r : ℕ} {ws : List ℕ} {is : List ℤ} → Roomed q most r ws is → (call : ℕ → Outcome) → call (min q most) ≡ call q
    → (b rs : List ℕ) → trade_told (call (record_places (length (take (4 * r) ws)) (length (take (8 * r) is)))) b rs ≡ trade_told (call q) b rs
told_roomed k call e b rs = ap (λ n. trade_told (call n) b rs) k.same ∙ ap (λ o. trade_told o b rs) e
