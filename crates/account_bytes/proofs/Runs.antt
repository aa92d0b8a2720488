-- One turn of a loop that reads a run of words or writes one.
use mathlib.Core.Path.{◌≡◌, refl, sym, ◌∙◌, ap}
use Prim.Native.Nat.{ℕ, zero, suc, ◌+◌, ◌*◌, ◌/◌, ◌<◌, ◌≤◌, ◌^◌}
use native.Mathlib.Omega.{arith}
use mathlib.Core.List.{List, [], ◌∷◌, ◌++◌, map}
use lib.ListN.{length, get_or, take, drop, set, get_or-map, length-map, length-drop, drop_of_length-le}
use lib.Seq.{sets, take-suc, take-suc-set, drop-cons, get_or-take, get_or-drop, take_all, take-take, length-take-le}
use lib.IntN.{ℤ}
use mir.Syntax.{w64}
use mir.Val.{to_z, of_z, SFits}
use mir.ValLaws.{to_z-of_z}
use Rattle.word_bytes.specs.Words.{little, words_in, words_of, put_word}
use Rattle.word_bytes.proofs.Words.{words-put}

-- the first i + 1 places of a column that is read, one more of them set
pub read_on : {A : Type 0} (c t : List A) (i : ℕ) (d v : A) → i < length c → i < length t → v ≡ get_or t i d → take i c ≡ take i t → take (i + 1) (set c i v) ≡ take (i + 1) t
read_on c t i d v h k e p =
    let z : i + 1 ≡ suc i = omega arith in
    let q : take (suc i) (set c i v) ≡ take (suc i) t = take-suc-set c i v h ∙ ap (λ (x : List _). x ++ (v ∷ [])) p ∙ ap (λ (x : _). take i t ++ (x ∷ [])) e ∙ sym (take-suc t i d k) in
    simp z q

-- what stands at place i of a column of the words from a place on
pub at_run : {A : Type 0} (f : ℕ → A) (n from i : ℕ) (ws : List ℕ) → i < n → get_or (map f (take n (drop from ws))) i (f 0) ≡ f (get_or ws (from + i) 0)
at_run f n from i ws h = get_or-map f (take n (drop from ws)) i 0 ∙ ap f (get_or-take n (drop from ws) i 0 h ∙ get_or-drop from ws i 0)

pub read_all : {A : Type 0} (c t : List A) (n i : ℕ) → length c ≡ n → length t ≡ n → n ≤ i → take i c ≡ take i t → c ≡ t
read_all c t n i p q h e = sym (take_all i c (omega arith)) ∙ e ∙ take_all i t (omega arith)

pub length_run : {A : Type 0} (f : ℕ → A) (n from : ℕ) (ws : List ℕ) → from + n ≤ length ws → length (map f (take n (drop from ws))) ≡ n
length_run f n from ws h = length-map (take n (drop from ws)) f ∙ length-take-le n (drop from ws) (simp length-drop (omega arith))

-- what is left to write at the start, after one more word is written, and at the end
pub write_starts : (l ws : List ℕ) (from : ℕ) → sets (words_of l) (from + 0) ws ≡ sets (words_of l) from ws
write_starts l ws from = let z : from + 0 ≡ from = omega arith in simp z

pub write_on : (l l' ws : List ℕ) (from i w : ℕ) → i < length ws → l' ≡ put_word l (from + i) w → w ≡ get_or ws i 0 → w < 2 ^ 64 → sets (words_of l') (from + (i + 1)) (drop (i + 1) ws) ≡ sets (words_of l) (from + i) (drop i ws)
write_on l l' ws from i w h e p k =
    let y : from + (i + 1) ≡ suc (from + i) = omega arith in
    let z : i + 1 ≡ suc i = omega arith in
    let q : words_of l' ≡ set (words_of l) (from + i) w = ap words_of e ∙ words-put l (from + i) w k in
    ap (λ (n : ℕ). sets (words_of l') n (drop (i + 1) ws)) y
    ∙ ap (λ (n : ℕ). sets (words_of l') (suc (from + i)) (drop n ws)) z
    ∙ ap (λ (v : List ℕ). sets v (suc (from + i)) (drop (suc i) ws)) q
    ∙ ap (λ (v : ℕ). sets (words_of l) (from + i) (v ∷ drop (suc i) ws)) p
    ∙ ap (λ (v : List ℕ). sets (words_of l) (from + i) v) (sym (drop-cons ws i 0 h))

pub write-ends : (l ws g : List ℕ) (at i : ℕ) → length ws ≤ i → sets (words_of l) at (drop i ws) ≡ g → words_of l ≡ g
write-ends l ws g at i h e = ap (λ (v : List ℕ). sets (words_of l) at v) (sym (drop_of_length-le ws h)) ∙ e

-- a signed number that a call gave, through the bits that hold it
pub kept : {r z : ℤ} → SFits w64 r → r ≡ z → to_z w64 (of_z w64 r) ≡ z
kept {r = r} f e = to_z-of_z w64 r f ∙ e

-- the word of a signed number that a call was given, through the bits that hold it
pub stored : {r : ℕ} {z : ℤ} → SFits w64 z → r ≡ of_z w64 (to_z w64 (of_z w64 z)) → r ≡ of_z w64 z
stored {z = z} f e = e ∙ ap (of_z w64) (to_z-of_z w64 z f)

-- ---- words in the first bytes
drop-take : {A : Type 0} (a b n : ℕ) (l : List A) → n ≡ a + b → drop a (take n l) ≡ take b (drop a l)
drop-take zero b n l e = let z : n ≡ b = omega arith in ap (λ (k : ℕ). take k l) z
drop-take (suc a) b zero l e = absurd (omega arith)
drop-take (suc a) zero (suc n) [] e = refl
drop-take (suc a) (suc b) (suc n) [] e = refl
drop-take (suc a) b (suc n) (x ∷ l) e = drop-take a b n l (omega arith)

words_part : (m k : ℕ) (l : List ℕ) → m ≤ k → words_in m (take (8 * m) l) ≡ take m (words_in k l)
unfolding words_in
words_part zero k l h = refl
words_part (suc m) zero l h = absurd (omega arith)
words_part (suc m) (suc k) l h =
    let f : take 8 (take (8 * suc m) l) ≡ take 8 l = take-take 8 (8 * suc m) l (omega arith) in
    let r : drop 8 (take (8 * suc m) l) ≡ take (8 * m) (drop 8 l) = drop-take 8 (8 * m) (8 * suc m) l (omega arith) in
    ap (λ (v : List ℕ). little v ∷ words_in m (drop 8 (take (8 * suc m) l))) f
    ∙ ap (λ (v : List ℕ). little (take 8 l) ∷ words_in m v) r
    ∙ ap (λ (v : List ℕ). little (take 8 l) ∷ v) (words_part m k (drop 8 l) (omega arith))

-- a run of words in the bytes that end with it
pub run_part : (n from : ℕ) (l : List ℕ) → from + n ≤ length l / 8 → take n (drop from (words_of (take (8 * (from + n)) l))) ≡ take n (drop from (words_of l))
run_part n from l h =
    let z : length (take (8 * (from + n)) l) ≡ 8 * (from + n) = length-take-le (8 * (from + n)) l (omega arith) in
    let q : length (take (8 * (from + n)) l) / 8 ≡ from + n = omega (arith, z) in
    let w : words_of (take (8 * (from + n)) l) ≡ take (from + n) (words_of l) = ap (λ (k : ℕ). words_in k (take (8 * (from + n)) l)) q ∙ words_part (from + n) (length l / 8) l h in
    ap (λ (v : List ℕ). take n (drop from v)) w
    ∙ ap (take n) (drop-take from n (from + n) (words_of l) refl)
    ∙ take-take n n (drop from (words_of l)) (omega arith)
