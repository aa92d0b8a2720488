-- Where the records of a run stand: in the first places, in the order filled, with the rest as found.
use Prim.Native.Nat.{ℕ, suc, ◌+◌, ◌*◌, ◌/◌, ◌≤◌, ◌<◌}
use mathlib.Core.Bool.{Bool, true, false}
use mathlib.Core.List.{List, [], ◌∷◌, ◌++◌}
use mathlib.Core.Path.{◌≡◌, refl, ap, ◌∙◌}
use native.Mathlib.Omega.{arith}
use lib.IntN.{ℤ}
use lib.ListN.{length, drop, length-append}
use lib.Seq.{sets, sets-eq, length-sets}
use Rattle.table.specs.Keyed.{pick}
use Rattle.table.specs.declared.table.Columns.{Columns}
use Rattle.table.proofs.Stores.{sets_append}
use Rattle.fills.specs.declared.terms.Book.{Book}
use Rattle.fills.specs.declared.terms.Order.{Order}
use Rattle.fills.specs.declared.terms.Terms.{Terms}
use Rattle.fills.specs.declared.record.ExecutionRecord.{ExecutionRecord}
use Rattle.fills.specs.Orders.{State}
use Rattle.fills.specs.Records.{words_of_record, ints_of_record, all_words, all_ints, fronted, Buffers, buffers, stored_all}
use Rattle.fills.specs.Fill.{counted, settled, fill, fill_all}
use Rattle.fills.specs.Inner.Runs.{state, Runs}
use Rattle.fills.proofs.Cash.{by_outcome}
use Rattle.fills.proofs.Storing.{with_room}

-- from any place with room for all
pub stored-from : (rs : List ExecutionRecord) (ws : List ℕ) (is : List ℤ) (n : ℕ) → (n + length rs) * 4 ≤ length ws → (n + length rs) * 8 ≤ length is
    → stored_all rs (buffers ws is n) ≡ buffers (sets ws (n * 4) (all_words rs)) (sets is (n * 8) (all_ints rs)) (n + length rs)
unfolding stored_all all_words all_ints
stored-from [] ws is n h g = let e : n ≡ n + 0 = omega arith in ap (buffers ws is) e
stored-from (r ∷ rs) ws is n h g =
    let a : n < length ws / 4 = omega arith in
    let b : n < length is / 8 = omega arith in
    let ws' = sets ws (n * 4) (words_of_record r) in
    let is' = sets is (n * 8) (ints_of_record r) in
    let lw : length ws' ≡ length ws = length-sets ws (n * 4) (words_of_record r) in
    let li : length is' ≡ length is = length-sets is (n * 8) (ints_of_record r) in
    let e : n + 1 + length rs ≡ n + suc (length rs) = omega arith in
    let ew = sets_append ws (n * 4) (words_of_record r) (all_words rs) ((n + 1) * 4) (omega arith) in
    let ei = sets_append is (n * 8) (ints_of_record r) (all_ints rs) ((n + 1) * 8) (omega arith) in
    ap (stored_all rs) (with_room r ws is n a b)
    ∙ stored-from rs ws' is' (n + 1) (omega (arith, lw, h)) (omega (arith, li, g))
    ∙ ap (λ x. buffers (sets ws' ((n + 1) * 4) (all_words rs)) (sets is' ((n + 1) * 8) (all_ints rs)) x) e
    ∙ ap (λ x. buffers x (sets is' ((n + 1) * 8) (all_ints rs)) (n + suc (length rs))) ew
    ∙ ap (λ x. buffers (sets ws (n * 4) (words_of_record r ++ all_words rs)) x (n + suc (length rs))) ei

sets_front : {A : Type 0} (vs l : List A) → length vs ≤ length l → sets l 0 vs ≡ fronted vs l
sets_front vs l h =
    let e : 0 + length vs ≡ length vs = omega arith in
    sets-eq vs l 0 (omega arith) ∙ ap (λ k. vs ++ drop k l) e

pub words_long : (rs : List ExecutionRecord) → length (all_words rs) ≡ length rs * 4
unfolding all_words
words_long [] = refl
words_long (r ∷ rs) = omega (arith, words_long rs)

pub ints-long : (rs : List ExecutionRecord) → length (all_ints rs) ≡ length rs * 8
unfolding all_ints
ints-long [] = refl
ints-long (r ∷ rs) = omega (arith, ints-long rs)

-- "records fill the first places, the answer counts them, and the rest are as found"
pub stored_fronts : (rs : List ExecutionRecord) (ws : List ℕ) (is : List ℤ) → length rs * 4 ≤ length ws → length rs * 8 ≤ length is
    → stored_all rs (buffers ws is 0) ≡ buffers (fronted (all_words rs) ws) (fronted (all_ints rs) is) (length rs)
stored_fronts rs ws is h g =
    let e : 0 + length rs ≡ length rs = omega arith in
    let a : (0 + length rs) * 4 ≤ length ws = omega arith in
    let b : (0 + length rs) * 8 ≤ length is = omega arith in
    stored-from rs ws is 0 a b
    ∙ ap (buffers (sets ws 0 (all_words rs)) (sets is 0 (all_ints rs))) e
    ∙ ap (λ x. buffers x (sets is 0 (all_ints rs)) (length rs)) (sets_front (all_words rs) ws (omega (arith, words_long rs)))
    ∙ ap (λ x. buffers (fronted (all_words rs) ws) x (length rs)) (sets_front (all_ints rs) is (omega (arith, ints-long rs)))

-- ---- how many records there are
none_or_one : (b : Bool) (rs : List ExecutionRecord) (r : ExecutionRecord) → length (pick b (rs ++ (r ∷ [])) rs) ≤ length rs + 1
none_or_one true rs r = omega (arith, length-append rs (r ∷ []))
none_or_one false rs r = omega arith

pub fill-records : (t : Terms) (o : Order) (s : State) → length (fill t o s).records ≤ length s.records + 1
unfolding settled counted
fill-records t o s = by_outcome (λ x. length x.records ≤ length s.records + 1) t o s (omega arith)
    (λ _ _. none_or_one t.recording s.records _) (λ _ _. omega arith) (λ _ _. none_or_one t.recording s.records _)

pub fills-records : (t : Terms) (os : List Order) (s : State) → length (fill_all t os s).records ≤ length s.records + length os
unfolding fill_all
fills-records t [] s = omega arith
fills-records t (o ∷ os) s = omega (arith, fill-records t o s, fills-records t os (fill t o s))

-- none without recording
pub unrecorded : (t : Terms) (os : List Order) (s : State) → t.recording ≡ false → (fill_all t os s).records ≡ s.records
unfolding fill_all settled counted
unrecorded t [] s e = refl
unrecorded t (o ∷ os) s e =
    let none = by_outcome (λ x. x.records ≡ s.records) t o s refl (λ _ _. simp e) (λ _ _. refl) (λ _ _. simp e) in
    unrecorded t os (fill t o s) e ∙ none

-- ---- a run: with a place for each order the records stand in the first places; without recording the slices stay as they are
module _ (t : Terms) (os : List Order) (b : Book) (c : Columns) (l : Buffers) (r : Book) (d : Columns) (k : Buffers) (h : Runs t os b c l r d k) where
  abbrev records-made : List ExecutionRecord
  records-made = (fill_all t os (state b c [])).records

  pub run_fronts : l.written ≡ 0 → length os * 4 ≤ length l.words → length os * 8 ≤ length l.ints
      → k ≡ buffers (fronted (all_words records-made) l.words) (fronted (all_ints records-made) l.ints) (length records-made)
  run_fronts z u v =
      let n : length records-made ≤ length os = omega (arith, fills-records t os (state b c [])) in
      let e : l ≡ buffers l.words l.ints 0 = ap (buffers l.words l.ints) z in
      let x : length records-made * 4 ≤ length l.words = omega arith in
      let y : length records-made * 8 ≤ length l.ints = omega arith in
      h.kept ∙ ap (stored_all records-made) e ∙ stored_fronts records-made l.words l.ints x y

  pub unrecorded-run : t.recording ≡ false → k ≡ l
  unfolding stored_all
  unrecorded-run e = h.kept ∙ ap (λ x. stored_all x l) (unrecorded t os (state b c []) e)
