-- A record in lent number slices, by whether there is room.
use Prim.Native.Nat.{ℕ, ◌+◌, ◌*◌, ◌/◌, ◌≤◌, ◌<◌}
use mathlib.Core.Path.{◌≡◌, sym, ◌∙◌}
use mathlib.Core.List.{List}
use native.Mathlib.Omega.{arith}
use lib.IntN.{ℤ}
use lib.ListN.{length, take, drop}
use Rattle.std.proofs.Common.{append_assoc}
use Rattle.std.proofs.lemmas.List.{drop-drop}
use lib.Seq.{sets, sets-eq}
use borrow.Rule.Slice.PartMut.{put_mid}
use borrow.Author.Tests.{lt-leb, le-leb}
use Rattle.std.specs.Prelude.{Some, None}
use Rattle.table.proofs.Keyed.{both_false}
use Rattle.fills.specs.declared.record.ExecutionRecord.{ExecutionRecord}
use Rattle.fills.specs.declared.fill.Filled.{Filled}
use Rattle.fills.specs.Records.{words_of_record, ints_of_record, Buffers, buffers, room, stored, stored_all}
use Rattle.fills.specs.Inner.Runs.{records_of}

-- ---- a run of values copied over part of a slice
pub copied-is_sets : {A : Type 0} (l : List A) (i n : ℕ) (vs ys : List A) → ys ≡ vs → n ≡ length vs → i + length vs ≤ length l
    → put_mid i n l ys ≡ sets l i vs
copied-is_sets l i n vs ys e k h = simp (e, k, drop-drop) (sym (append_assoc (take i l) vs (drop (i + length vs) l)) ∙ sym (sets-eq vs l i h))

-- ---- one record
module _ (r : ExecutionRecord) (ws : List ℕ) (is : List ℤ) (n : ℕ) where
  pub no_words : length ws / 4 ≤ n → stored r (buffers ws is n) ≡ buffers ws is n
  unfolding stored room
  no_words h =
      let l : length ws < n * 4 + 4 = omega arith in
      simp (lt-leb _ _ l)

  pub no_ints : length is / 8 ≤ n → stored r (buffers ws is n) ≡ buffers ws is n
  unfolding stored room
  no_ints h =
      let l : length is < n * 8 + 8 = omega arith in
      simp (lt-leb _ _ l, both_false)

  pub with_room : n < length ws / 4 → n < length is / 8 → stored r (buffers ws is n) ≡ buffers (sets ws (n * 4) (words_of_record r)) (sets is (n * 8) (ints_of_record r)) (n + 1)
  unfolding stored room
  with_room h g =
      let a : n * 4 + 4 ≤ length ws = omega arith in
      let b : n * 8 + 8 ≤ length is = omega arith in
      simp (le-leb _ _ a, le-leb _ _ b)

-- ---- the record of a fill, if there is one
module _ (f : Filled) (b : Buffers) where
  pub keeps_none : f.«record» ≡ None → b ≡ stored_all (records_of f) b
  unfolding stored_all
  keeps_none h = simp h

  pub keeps_one : (r : ExecutionRecord) → f.«record» ≡ Some r → stored r b ≡ stored_all (records_of f) b
  unfolding stored_all
  keeps_one r h = simp h
