-- A record read from number slices is the one that was stored there.
use Prim.Native.Nat.{ℕ, zero, suc, ◌+◌, ◌*◌, ◌/◌, ◌≤◌, ◌<◌}
use mathlib.Core.Path.{◌≡◌, refl, sym, ap, ◌∙◌}
use mathlib.Core.List.{List, [], ◌∷◌, ◌++◌, append_assoc}
use native.Mathlib.Omega.{arith}
use lib.IntN.{ℤ, pos}
use lib.ListN.{length, get_or, take, drop, length-append}
use lib.Seq.{sets, sets-eq, length-sets, length-take-le, take-suc, take-length}
use borrow.Author.Tests.{le-leb}
use Rattle.fills.specs.declared.record.ExecutionKind.{ExecutionKind}
use Rattle.fills.specs.declared.record.ExecutionKind.TheVariants.{Rebalance, StopExit}
use Rattle.fills.specs.declared.record.ExecutionRecord.{ExecutionRecord}
use Rattle.fills.specs.Records.{kind_number, kind_of, words_of_record, ints_of_record, all_words, all_ints, room, buffers, stored}
use Rattle.fills.proofs.Storing.{with_room}
use Rattle.fills.proofs.Fronts.{words_long, ints-long}
use Rattle.records.specs.Read.{record_in, record_at, blank}
use Rattle.records.specs.Run.{records_at}

-- ---- where both slices have the place
module _ (ws : List ℕ) (is : List ℤ) (i : ℕ) where
  pub has_place : i < length ws / 4 → i < length is / 8 → record_at ws is i ≡ record_in ws is i
  unfolding record_at room
  has_place h g =
      let a : i * 4 + 4 ≤ length ws = omega arith in
      let b : i * 8 + 8 ≤ length is = omega arith in
      simp (le-leb _ _ a, le-leb _ _ b)

-- ---- the number of a kind stands for that kind
pub kind_back : (k : ExecutionKind) → kind_of (kind_number k) ≡ k
unfolding kind_of
kind_back Rebalance = refl
kind_back StopExit = refl

-- ---- records in the first places are read from there
past : {A : Type 0} (xs l : List A) (z : A) (n m : ℕ) → m ≡ length xs + n → get_or (xs ++ l) m z ≡ get_or l n z
past [] l z n m e = let k : m ≡ n = omega arith in ap (λ j. get_or l j z) k
past (x ∷ xs) l z n m e = let k : m ≡ suc (length xs + n) = omega arith in ap (λ j. get_or (x ∷ xs ++ l) j z) k ∙ past xs l z n (length xs + n) refl

-- n records stand before it
moved : (xs ws : List ℕ) (ys is : List ℤ) (n i j : ℕ) → length xs ≡ n * 4 → length ys ≡ n * 8 → j ≡ n + i → record_in (xs ++ ws) (ys ++ is) j ≡ record_in ws is i
unfolding record_in
moved xs ws ys is n i j lx ly e =
    let w = past xs ws 0 in
    let v = past ys is (pos 0) in
    simp (
      w (i * 4) (j * 4) (omega arith),
      w (i * 4 + 1) (j * 4 + 1) (omega arith),
      w (i * 4 + 2) (j * 4 + 2) (omega arith),
      w (i * 4 + 3) (j * 4 + 3) (omega arith),
      v (i * 8) (j * 8) (omega arith),
      v (i * 8 + 1) (j * 8 + 1) (omega arith),
      v (i * 8 + 2) (j * 8 + 2) (omega arith),
      v (i * 8 + 3) (j * 8 + 3) (omega arith),
      v (i * 8 + 4) (j * 8 + 4) (omega arith),
      v (i * 8 + 5) (j * 8 + 5) (omega arith),
      v (i * 8 + 6) (j * 8 + 6) (omega arith),
      v (i * 8 + 7) (j * 8 + 7) (omega arith),
    )

first_record : (r : ExecutionRecord) (ws : List ℕ) (is : List ℤ) → record_in (words_of_record r ++ ws) (ints_of_record r ++ is) 0 ≡ r
unfolding record_in
first_record r ws is = simp (kind_back r.kind)

read_front : (rs : List ExecutionRecord) (ws : List ℕ) (is : List ℤ) (i : ℕ) (d : ExecutionRecord) → i < length rs → record_in (all_words rs ++ ws) (all_ints rs ++ is) i ≡ get_or rs i d
unfolding all_words all_ints
read_front [] ws is i d h = absurd (omega arith)
read_front (r ∷ rs) ws is zero d h = first_record r (all_words rs ++ ws) (all_ints rs ++ is)
read_front (r ∷ rs) ws is (suc i) d h = moved (words_of_record r) (all_words rs ++ ws) (ints_of_record r) (all_ints rs ++ is) 1 i (suc i) refl refl (omega arith) ∙ read_front rs ws is i d (omega arith)

module _ (rs : List ExecutionRecord) (ws : List ℕ) (is : List ℤ) where
  place_there : (i : ℕ) → i < length rs → record_at (all_words rs ++ ws) (all_ints rs ++ is) i ≡ record_in (all_words rs ++ ws) (all_ints rs ++ is) i
  place_there i h =
      let w = length-append (all_words rs) ws in
      let n = length-append (all_ints rs) is in
      has_place (all_words rs ++ ws) (all_ints rs ++ is) i (omega (arith, w, words_long rs)) (omega (arith, n, ints-long rs))

  first_read : (n : ℕ) → n ≤ length rs → records_at (all_words rs ++ ws) (all_ints rs ++ is) n ≡ take n rs
  unfolding records_at
  first_read zero h = refl
  first_read (suc n) h =
      let e = place_there n (omega arith) ∙ read_front rs ws is n blank (omega arith) in
      ap (λ l. l ++ (record_at (all_words rs ++ ws) (all_ints rs ++ is) n ∷ [])) (first_read n (omega arith))
      ∙ ap (λ r. take n rs ++ (r ∷ [])) e
      ∙ sym (take-suc rs n blank (omega arith))

  -- all the records that fill the first places
  pub read_back : records_at (all_words rs ++ ws) (all_ints rs ++ is) (length rs) ≡ rs
  read_back = first_read (length rs) (omega arith) ∙ take-length rs

-- ---- what `fills::store` wrote at a place is read there
sets_there : {A : Type 0} (vs l : List A) (i : ℕ) → i + length vs ≤ length l → sets l i vs ≡ take i l ++ (vs ++ drop (i + length vs) l)
sets_there vs l i h = sets-eq vs l i h ∙ append_assoc (take i l) vs (drop (i + length vs) l)

pub stored_is_read : (r : ExecutionRecord) (ws : List ℕ) (is : List ℤ) (n : ℕ) → n < length ws / 4 → n < length is / 8
    → let b = stored r (buffers ws is n) in record_at b.words b.ints n ≡ r
stored_is_read r ws is n h g =
    let ws' = sets ws (n * 4) (words_of_record r) in
    let is' = sets is (n * 8) (ints_of_record r) in
    let lw = length-sets ws (n * 4) (words_of_record r) in
    let li = length-sets is (n * 8) (ints_of_record r) in
    ap (λ b. record_at b.words b.ints n) (with_room r ws is n h g)
    ∙ has_place ws' is' n (omega (arith, lw, h)) (omega (arith, li, g))
    ∙ ap (λ x. record_in x is' n) (sets_there (words_of_record r) ws (n * 4) (omega (arith, h)))
    ∙ ap (λ x. record_in (take (n * 4) ws ++ (words_of_record r ++ drop (n * 4 + 4) ws)) x n) (sets_there (ints_of_record r) is (n * 8) (omega (arith, g)))
    ∙ moved (take (n * 4) ws) (words_of_record r ++ drop (n * 4 + 4) ws) (take (n * 8) is) (ints_of_record r ++ drop (n * 8 + 8) is) n 0 n
    (length-take-le (n * 4) ws (omega (arith, h))) (length-take-le (n * 8) is (omega (arith, g))) (omega arith)
    ∙ first_record r (drop (n * 4 + 4) ws) (drop (n * 8 + 8) is)
