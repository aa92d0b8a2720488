-- Words put one after the other from the first place on are the bytes of these words, and what follows them is as found.
use Prim.Native.Nat.{ℕ, ◌+◌, ◌*◌, ◌/◌, ◌≤◌, ◌<◌}
use mathlib.Core.Path.{◌≡◌, refl, sym, ap, ◌∙◌}
use mathlib.Core.List.{List, [], ◌∷◌, ◌++◌, append_assoc}
use native.Mathlib.Omega.{arith}
use native.Mathlib.Numerals.{add-one}
use lib.ListN.{length, drop, length-append, length-drop}
use lib.Seq.{sets, sets-eq, take_at, drop-append-add, drop-drop}
use Rattle.word_bytes.specs.Words.{digits, bytes_of, put_word}
use Rattle.word_bytes.proofs.Words.{put-fits, put-length}
use Rattle.fills.specs.Records.{fronted}
use Rattle.list_bytes.specs.Entries.{at_places_of}
use Rattle.list_bytes.specs.Inner.Records.{put_all}
use Rattle.list_bytes.proofs.Columns.{places-long}

-- ---- in two goes
pub put-all-append : (l : List ℕ) (k m : ℕ) (xs ys : List ℕ) → m ≡ k + length xs → put_all l k (xs ++ ys) ≡ put_all (put_all l k xs) m ys
unfolding put_all
put-all-append l k m [] ys e = let z : k ≡ m = omega arith in ap (λ j. put_all l j ys) z
put-all-append l k m (x ∷ xs) ys e = put-all-append (put_word l k x) (k + 1) m xs ys (omega arith)

pub put-all-one : (l : List ℕ) (k m w : ℕ) (xs : List ℕ) → m ≡ k + length xs → put_word (put_all l k xs) m w ≡ put_all l k (xs ++ (w ∷ []))
unfolding put_all
put-all-one l k m w xs e = sym (put-all-append l k m xs (w ∷ []) e)

pub put-all-long : (l : List ℕ) (k : ℕ) (xs : List ℕ) → length (put_all l k xs) ≡ length l
unfolding put_all
put-all-long l k [] = refl
put-all-long l k (x ∷ xs) = put-all-long (put_word l k x) (k + 1) xs ∙ put-length l k x

-- ---- as bytes
sets_at : (a l ds : List ℕ) (k m : ℕ) → length a ≡ k → length ds ≡ m → m ≤ length l → sets (a ++ l) k ds ≡ a ++ (ds ++ drop m l)
sets_at a l ds k m e g h =
    let b : k + length ds ≤ length (a ++ l) = simp length-append (omega arith) in
    let n : k + length ds ≡ length a + m = omega arith in
    let q : drop (k + length ds) (a ++ l) ≡ drop m l = ap (λ j. drop j (a ++ l)) n ∙ drop-append-add a l m in
    sets-eq ds (a ++ l) k b ∙ simp (take_at a l k e, q) (append_assoc a ds (drop m l))

-- before place k the bytes a, from there on the words
from_place : (xs l a : List ℕ) (k : ℕ) → length a ≡ 8 * k → 8 * length xs ≤ length l → put_all (a ++ l) k xs ≡ a ++ fronted (bytes_of xs) l
unfolding put_all bytes_of
from_place [] l a k e h = refl
from_place (x ∷ xs) l a k e h =
    let s : k < length (a ++ l) / 8 = simp length-append (omega arith) in
    let d = drop 8 l in
    let t : length (a ++ digits 8 x) ≡ 8 * (k + 1) = simp length-append (omega arith) in
    let p : put_word (a ++ l) k x ≡ (a ++ digits 8 x) ++ d = put-fits (a ++ l) k x s ∙ sets_at a l (digits 8 x) (8 * k) 8 e refl (omega arith) ∙ sym (append_assoc a (digits 8 x) d) in
    let n : 8 + length (bytes_of xs) ≡ length (digits 8 x ++ bytes_of xs) = omega arith in
    let r : drop (length (bytes_of xs)) d ≡ drop (length (digits 8 x ++ bytes_of xs)) l = drop-drop (length (bytes_of xs)) 8 l ∙ ap (λ j. drop j l) n in
    ap (λ j. put_all j (k + 1) xs) p
    ∙ from_place xs d (a ++ digits 8 x) (k + 1) t (simp length-drop (omega arith))
    ∙ append_assoc a (digits 8 x) (bytes_of xs ++ drop (length (bytes_of xs)) d)
    ∙ ap (λ j. a ++ (digits 8 x ++ (bytes_of xs ++ j))) r

pub put-all_fronts : (xs l : List ℕ) → 8 * length xs ≤ length l → put_all l 0 xs ≡ fronted (bytes_of xs) l
put-all_fronts xs l h = from_place xs l [] 0 refl h

-- ---- as code puts them
pub four_puts : (l : List ℕ) (k a b c d : ℕ) → put_word (put_word (put_word (put_word l k a) (k + 1) b) (k + 2) c) (k + 3) d ≡ put_all l k (a ∷ b ∷ c ∷ d ∷ [])
unfolding put_all
four_puts l k a b c d =
    let e : k + 1 + 1 ≡ k + 2 = omega arith in
    let f : k + 2 + 1 ≡ k + 3 = omega arith in
    simp (e, f)

pub four_written : (l : List ℕ) (u v x y : ℕ) {a b c d : List ℕ} → a ≡ put_word l 0 u → b ≡ put_word a 1 v → c ≡ put_word b 2 x → d ≡ put_word c 3 y → d ≡ put_all l 0 (u ∷ v ∷ x ∷ y ∷ [])
four_written l u v x y ea eb ec ed = ed ∙ ap (λ k. put_word k 3 y) (ec ∙ ap (λ k. put_word k 2 x) (eb ∙ ap (λ k. put_word k 1 v) ea)) ∙ four_puts l 0 u v x y

-- one more of what stands at places in a row
pub put_place : (l : List ℕ) (k m n : ℕ) (f : ℕ → ℕ) {o p : List ℕ} {v : ℕ} → o ≡ put_all l k (at_places_of n f) → v ≡ f n → p ≡ put_word o m v → m ≡ k + n → p ≡ put_all l k (at_places_of (n + 1) f)
unfolding at_places_of
put_place l k m n f {o} {p} {v} e g h q =
    let z : m ≡ k + length (at_places_of n f) = omega (arith, places-long n f) in
    h ∙ ap (λ x. put_word x m v) e ∙ ap (put_word (put_all l k (at_places_of n f)) m) g ∙ put-all-one l k m (f n) (at_places_of n f) z ∙ ap (λ x. put_all l k (at_places_of x f)) (sym (add-one n))

-- ---- bytes of words
pub bytes-append : (xs ys : List ℕ) → bytes_of (xs ++ ys) ≡ bytes_of xs ++ bytes_of ys
unfolding bytes_of
bytes-append [] ys = refl
bytes-append (x ∷ xs) ys = ap (λ k. digits 8 x ++ k) (bytes-append xs ys) ∙ sym (append_assoc (digits 8 x) (bytes_of xs) (bytes_of ys))
