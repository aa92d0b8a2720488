-- Records in number slices, put one after the other; and what that comes to where the slices hold records.
use Prim.Native.Nat.{ℕ, zero, suc, ◌+◌, ◌*◌, ◌≤◌}
use mathlib.Core.Path.{◌≡◌, refl, sym, ap, ◌∙◌}
use mathlib.Core.List.{List, [], ◌∷◌, ◌++◌, append-nil, append_assoc}
use native.Mathlib.Omega.{arith}
use native.Mathlib.Numerals.{add-one}
use lib.IntN.{ℤ, pos}
use lib.ListN.{length, get_or, drop, length-append}
use lib.Seq.{get_or-drop}
use Rattle.word_bytes.specs.Words.{bytes_of}
use Rattle.word_bytes.specs.Numbers.{unsigned_of}
use Rattle.word_bytes.proofs.Words.{length-bytes}
use Rattle.fills.specs.declared.record.ExecutionRecord.{ExecutionRecord}
use Rattle.fills.specs.Records.{all_words, all_ints, fronted}
use Rattle.fills.proofs.Fronts.{words_long, ints-long}
use Rattle.list_bytes.specs.Entries.{at_places_of}
use Rattle.list_bytes.specs.Records.{record_words, record_bytes, all_bytes}
use Rattle.list_bytes.specs.Inner.Records.{four_at, int_at, rows_in, fitting, written_records, put_all}
use Rattle.list_bytes.proofs.Columns.{places-long, places_same}
use Rattle.list_bytes.proofs.Puts.{put-all-append, bytes-append}

-- ---- turn by turn
abbrev row : List ℕ → List ℤ → ℕ → List ℕ
row ws is n = four_at ws n ++ at_places_of 8 (int_at is n)

pub rows_long : (n : ℕ) (ws : List ℕ) (is : List ℤ) → length (rows_in n ws is) ≡ 12 * n
unfolding rows_in
rows_long zero ws is = refl
rows_long (suc n) ws is = simp length-append (omega (arith, rows_long n ws is, places-long 8 (int_at is n)))

pub rows_on : (l ws : List ℕ) (is : List ℤ) (n : ℕ) {o p q : List ℕ} → o ≡ put_all l 0 (rows_in n ws is) → p ≡ put_all o (12 * n) (four_at ws n)
    → q ≡ put_all p (12 * n + 4) (at_places_of 8 (int_at is n)) → q ≡ put_all l 0 (rows_in (n + 1) ws is)
unfolding rows_in
rows_on l ws is n {o} {p} {q} e f g =
    let z : 12 * n ≡ 0 + length (rows_in n ws is) = omega (arith, rows_long n ws is) in
    g
    ∙ ap (λ k. put_all k (12 * n + 4) (at_places_of 8 (int_at is n))) f
    ∙ sym (put-all-append o (12 * n) (12 * n + 4) (four_at ws n) (at_places_of 8 (int_at is n)) refl)
    ∙ ap (λ k. put_all k (12 * n) (row ws is n)) e
    ∙ sym (put-all-append l 0 (12 * n) (rows_in n ws is) (row ws is n) z)
    ∙ ap (λ k. put_all l 0 (rows_in k ws is)) (sym (add-one n))

-- ---- from the front
next_at : {A : Type 0} (l : List A) (m j k : ℕ) (z : A) → k ≡ m + j → get_or l k z ≡ get_or (drop m l) j z
next_at l m j k z e = ap (λ n. get_or l n z) e ∙ sym (get_or-drop m l j z)

row_next : (ws : List ℕ) (is : List ℤ) (n : ℕ) → row ws is (suc n) ≡ row (drop 4 ws) (drop 8 is) n
row_next ws is n =
    let a = next_at ws 4 (4 * n) (4 * suc n) 0 (omega arith) in
    let b = next_at ws 4 (4 * n + 1) (4 * suc n + 1) 0 (omega arith) in
    let c = next_at ws 4 (4 * n + 2) (4 * suc n + 2) 0 (omega arith) in
    let d = next_at ws 4 (4 * n + 3) (4 * suc n + 3) 0 (omega arith) in
    let f = places_same 8 (int_at is (suc n)) (int_at (drop 8 is) n) (λ j. ap unsigned_of (next_at is 8 (8 * n + j) (8 * suc n + j) (pos 0) (omega arith))) in
    simp (a, b, c, d, f)

rows_front : (n : ℕ) (ws : List ℕ) (is : List ℤ) → rows_in (suc n) ws is ≡ row ws is 0 ++ rows_in n (drop 4 ws) (drop 8 is)
unfolding rows_in
rows_front zero ws is = sym (append-nil (row ws is 0))
rows_front (suc n) ws is =
    ap (λ k. k ++ row ws is (suc n)) (rows_front n ws is)
    ∙ append_assoc (row ws is 0) (rows_in n (drop 4 ws) (drop 8 is)) (row ws is (suc n))
    ∙ ap (λ k. row ws is 0 ++ (rows_in n (drop 4 ws) (drop 8 is) ++ k)) (row_next ws is n)

-- ---- where the slices hold records
abbrev all_rows : List ExecutionRecord → List ℕ
all_rows [] = []
all_rows (r ∷ rs) = record_words r ++ all_rows rs

rows-records : (rs : List ExecutionRecord) (x : List ℕ) (y : List ℤ) → rows_in (length rs) (all_words rs ++ x) (all_ints rs ++ y) ≡ all_rows rs
unfolding rows_in all_words all_ints at_places_of
rows-records [] x y = refl
rows-records (r ∷ rs) x y = rows_front (length rs) (all_words (r ∷ rs) ++ x) (all_ints (r ∷ rs) ++ y) ∙ ap (λ k. record_words r ++ k) (rows-records rs x y)

bytes-records : (rs : List ExecutionRecord) → bytes_of (all_rows rs) ≡ all_bytes rs
unfolding bytes_of all_bytes record_bytes
bytes-records [] = refl
bytes-records (r ∷ rs) = bytes-append (record_words r) (all_rows rs) ∙ ap (λ k. record_bytes r ++ k) (bytes-records rs)

rows_of : (rs : List ExecutionRecord) → length (all_rows rs) ≡ 12 * length rs
rows_of [] = refl
rows_of (r ∷ rs) = omega (arith, rows_of rs)

pub bytes-long : (rs : List ExecutionRecord) → length (all_bytes rs) ≡ 96 * length rs
bytes-long rs = ap length (sym (bytes-records rs)) ∙ omega (arith, length-bytes (all_rows rs), rows_of rs)

-- Where the slices hold records in their first places, and there is room for all, their bytes stand in the first places, and the rest is as found.
pub records-written : (rs : List ExecutionRecord) (x : List ℕ) (y : List ℤ) (out : List ℕ) → 96 * length rs ≤ length out
    → written_records (all_words rs ++ x) (all_ints rs ++ y) (length rs) out ≡ all_bytes rs ++ drop (96 * length rs) out
unfolding written_records
records-written rs x y out h =
    let ws = all_words rs ++ x in
    let is = all_ints rs ++ y in
    let a : 4 * length rs ≤ length ws = simp length-append (omega (arith, words_long rs)) in
    let b : 8 * length rs ≤ length is = simp length-append (omega (arith, ints-long rs)) in
    let n : fitting (length rs) (length ws) (length is) (length out) ≡ length rs = omega arith in
    ap (λ k. fronted (bytes_of (rows_in k ws is)) out) n
    ∙ ap (λ k. fronted (bytes_of k) out) (rows-records rs x y)
    ∙ ap (λ k. fronted k out) (bytes-records rs)
    ∙ ap (λ k. all_bytes rs ++ drop k out) (bytes-long rs)

-- none, and all is as found
pub nothing_written : (ws : List ℕ) (is : List ℤ) (out : List ℕ) → written_records ws is 0 out ≡ out
unfolding written_records rows_in bytes_of
nothing_written ws is out = let n : fitting 0 (length ws) (length is) (length out) ≡ 0 = omega arith in ap (λ k. fronted (bytes_of (rows_in k ws is)) out) n
