-- Reading what was written gives it, other words are untouched, and bytes and words are each the other's inverse.
use mathlib.Core.Path.{◌≡◌, refl, sym, ◌∙◌, ap}
use Prim.Native.Nat.{ℕ, zero, suc, ◌+◌, ◌-◌, ◌*◌, ◌/◌, ◌%◌, ◌<◌, ◌≤◌, ◌^◌}
use native.Mathlib.Omega.{arith}
use mathlib.Core.Bool.{Bool, true, false, cond}
use mathlib.Core.List.{List, [], ◌∷◌, ◌++◌, map, reverse, append_assoc}
use lib.Dec.{ltb}
use lib.ListN.{length, get_or, take, drop, set, length-drop, take-append-drop, get_or-eq_default, get_or-map}
use lib.Seq.{sets, length-sets, sets-eq, take-set-le, drop-set-add, get_or-set_same, get_or-set_other, set_out, take_all, drop-drop, length-take-le}
use borrow.Rule.Slice.PartMut.{put_mid}
use borrow.Author.Tests.{lt-ltb, le-ltb, ltb-true, ltb-false}
use Rattle.word_bytes.specs.Words.{little, big, digits, words_in, words_of, bytes_of, word_at, put_word, turned, symbol_at, put_symbol}
use Rattle.std.specs.Int.{w64, from_le_bytes, to_le_bytes, from_be_bytes, swap_bytes}
use Rattle.std.specs.Simd.{first_chunks}
use Rattle.std.proofs.lemmas.Nat.{from_le_bytes-to_le_bytes_8}

-- how many numbers n bytes hold
abbrev pub whole : ℕ → ℕ
whole zero = 1
whole (suc n) = 256 * whole n

-- every element a byte
abbrev pub Octets : List ℕ → Type 0
Octets [] = 0 ≤ 0
Octets (b ∷ l) = (b < 256) × Octets l

pub octets : (l : List ℕ) → ((i : ℕ) → i < length l → get_or l i 0 < 256) → Octets l
octets [] f = omega arith
octets (b ∷ l) f = (f 0 (omega arith), octets l (λ i h. f (suc i) (omega arith)))

pub octets_drop : (n : ℕ) (l : List ℕ) → Octets l → Octets (drop n l)
octets_drop zero l o = o
octets_drop (suc n) [] o = o
octets_drop (suc n) (b ∷ l) o = octets_drop n l o.1

pub octets_take : (n : ℕ) (l : List ℕ) → Octets l → Octets (take n l)
octets_take zero l o = omega arith
octets_take (suc n) [] o = o
octets_take (suc n) (b ∷ l) o = (o.0, octets_take n l o.1)

-- every element a word of 64 bits
abbrev pub Words : List ℕ → Type 0
Words [] = 0 ≤ 0
Words (w ∷ l) = (w < 2 ^ 64) × Words l

-- ---- a number and its bytes
pub length_digits : (n w : ℕ) → length (digits n w) ≡ n
length_digits zero w = refl
length_digits (suc n) w = ap suc (length_digits n (w / 256))

pub digits_octets : (n w : ℕ) → Octets (digits n w)
digits_octets zero w = omega arith
digits_octets (suc n) w = (omega arith, digits_octets n (w / 256))

pub little-digits : (n w : ℕ) → w < whole n → little (digits n w) ≡ w
little-digits zero w h = omega arith
little-digits (suc n) w h = let e = little-digits n (w / 256) (omega arith) in omega arith

pub digits-little : (l : List ℕ) → Octets l → digits (length l) (little l) ≡ l
digits-little [] o = refl
digits-little (b ∷ l) o =
    let r : (b + 256 * little l) % 256 ≡ b = omega (arith, o.0) in
    let q : (b + 256 * little l) / 256 ≡ little l = omega (arith, o.0) in
    simp (r, q, digits-little l o.1)

pub little_lt : (l : List ℕ) → Octets l → little l < whole (length l)
little_lt [] o = omega arith
little_lt (b ∷ l) o = let h = little_lt l o.1 in omega (arith, o.0)

-- ---- the library's words for these
eight : (l : List ℕ) → length l ≡ 8 → l ≡ get_or l 0 0 ∷ get_or l 1 0 ∷ get_or l 2 0 ∷ get_or l 3 0 ∷ get_or l 4 0 ∷ get_or l 5 0 ∷ get_or l 6 0 ∷ get_or l 7 0 ∷ []
eight [] z = absurd (omega arith)
eight (a ∷ []) z = absurd (omega arith)
eight (a ∷ b ∷ []) z = absurd (omega arith)
eight (a ∷ b ∷ c ∷ []) z = absurd (omega arith)
eight (a ∷ b ∷ c ∷ d ∷ []) z = absurd (omega arith)
eight (a ∷ b ∷ c ∷ d ∷ e ∷ []) z = absurd (omega arith)
eight (a ∷ b ∷ c ∷ d ∷ e ∷ f ∷ []) z = absurd (omega arith)
eight (a ∷ b ∷ c ∷ d ∷ e ∷ f ∷ g ∷ []) z = absurd (omega arith)
eight (a ∷ b ∷ c ∷ d ∷ e ∷ f ∷ g ∷ h ∷ []) z = refl
eight (a ∷ b ∷ c ∷ d ∷ e ∷ f ∷ g ∷ h ∷ x ∷ l) z = absurd (omega arith)

pub little_le : (l : List ℕ) → length l ≡ 8 → from_le_bytes w64 l ≡ little l
little_le l e =
    let z : from_le_bytes w64 l ≡ little (get_or l 0 0 ∷ get_or l 1 0 ∷ get_or l 2 0 ∷ get_or l 3 0 ∷ get_or l 4 0 ∷ get_or l 5 0 ∷ get_or l 6 0 ∷ get_or l 7 0 ∷ []) = omega arith in
    z ∙ ap little (sym (eight l e))

pub big_be : (l : List ℕ) → length l ≡ 8 → from_be_bytes w64 l ≡ big l
big_be l e =
    let z : from_be_bytes w64 l ≡ big (get_or l 0 0 ∷ get_or l 1 0 ∷ get_or l 2 0 ∷ get_or l 3 0 ∷ get_or l 4 0 ∷ get_or l 5 0 ∷ get_or l 6 0 ∷ get_or l 7 0 ∷ []) = omega arith in
    z ∙ ap big (sym (eight l e))

pub digits_le : (w : ℕ) → w < 2 ^ 64 → to_le_bytes w64 w ≡ digits 8 w
digits_le w h =
    let o : Octets (to_le_bytes w64 w) = (omega arith, (omega arith, (omega arith, (omega arith, (omega arith, (omega arith, (omega arith, (omega arith, omega arith)))))))) in
    sym (digits-little (to_le_bytes w64 w) o) ∙ ap (digits 8) (sym (little_le (to_le_bytes w64 w) refl) ∙ from_le_bytes-to_le_bytes_8 w h)

-- ---- the words of a run of bytes
pub length-words : (n : ℕ) (l : List ℕ) → length (words_in n l) ≡ n
unfolding words_in
length-words zero l = refl
length-words (suc n) l = ap suc (length-words n (drop 8 l))

-- a word by its place
pub word_in : (n : ℕ) (l : List ℕ) (i at : ℕ) → i < n → at ≡ 8 * i → get_or (words_in n l) i 0 ≡ little (take 8 (drop at l))
unfolding words_in
word_in zero l i at h e = absurd (omega arith)
word_in (suc n) l zero at h e = let z : at ≡ 0 = omega arith in simp z
word_in (suc n) l (suc i) at h e =
    let z : at ≡ 8 + 8 * i = omega arith in
    word_in n (drop 8 l) i (8 * i) (omega arith) refl ∙ ap (λ (k : List ℕ). little (take 8 k)) (drop-drop (8 * i) 8 l ∙ ap (λ (k : ℕ). drop k l) (sym z))

-- the eight bytes of each word, as code cuts them off
words_chunks : (n : ℕ) (l : List ℕ) → words_in n l ≡ map little (first_chunks 8 n l)
unfolding words_in
words_chunks zero l = refl
words_chunks (suc n) l = ap (λ (k : List ℕ). little (take 8 l) ∷ k) (words_chunks n (drop 8 l))

chunk-long : (n : ℕ) (l : List ℕ) (i : ℕ) → i < n → 8 * n ≤ length l → length (get_or (first_chunks 8 n l) i []) ≡ 8
chunk-long zero l i h g = absurd (omega arith)
chunk-long (suc n) l zero h g = length-take-le 8 l (omega arith)
chunk-long (suc n) l (suc i) h g = chunk-long n (drop 8 l) i (omega arith) (simp length-drop (omega arith))

pub word_at_lem : (l : List ℕ) (i : ℕ) {w : ℕ} {cs : List (List ℕ)} {e : List ℕ} → i < length l / 8 → cs ≡ first_chunks 8 (length l / 8) l → e ≡ get_or cs i [] → w ≡ from_le_bytes w64 e → w ≡ word_at l i
word_at_lem l i h f g k =
    let c = first_chunks 8 (length l / 8) l in
    let q = g ∙ ap (λ (x : List (List ℕ)). get_or x i []) f in
    let n = ap length q ∙ chunk-long (length l / 8) l i h (omega arith) in
    k ∙ little_le _ n ∙ ap little q ∙ sym (ap (λ (x : List ℕ). get_or x i 0) (words_chunks (length l / 8) l) ∙ get_or-map little c i [])

pub word_past : (l : List ℕ) (i : ℕ) → length l / 8 ≤ i → word_at l i ≡ 0
word_past l i h = get_or-eq_default (words_of l) 0 (simp length-words (omega arith))

-- ---- words put
take_sets : {A : Type 0} (n : ℕ) (l : List A) (i : ℕ) (vs : List A) → n ≤ i → take n (sets l i vs) ≡ take n l
take_sets n l i [] h = refl
take_sets n l i (v ∷ vs) h = take_sets n (set l i v) (suc i) vs (omega arith) ∙ take-set-le n l i v h

drop_sets : {A : Type 0} (n : ℕ) (l : List A) (i at : ℕ) (vs : List A) → at ≡ n + i → drop n (sets l at vs) ≡ sets (drop n l) i vs
drop_sets n l i at [] e = refl
drop_sets n l i at (v ∷ vs) e = drop_sets n (set l at v) (suc i) (suc at) vs (omega arith) ∙ ap (λ (k : List _). sets k (suc i) vs) (ap (λ (k : ℕ). drop n (set l k v)) e ∙ drop-set-add n l i v)

put_in : (n : ℕ) (l : List ℕ) (i at w : ℕ) → i < n → at ≡ 8 * i → 8 * n ≤ length l → w < 2 ^ 64 → words_in n (sets l at (digits 8 w)) ≡ set (words_in n l) i w
unfolding words_in
put_in zero l i at w h e f k = absurd (omega arith)
put_in (suc n) l zero at w h e f k =
    let z : at ≡ 0 = omega arith in
    let s : sets l at (digits 8 w) ≡ digits 8 w ++ drop 8 l = ap (λ (j : ℕ). sets l j (digits 8 w)) z ∙ sets-eq (digits 8 w) l 0 (omega arith) in
    let p : take 8 (sets l at (digits 8 w)) ≡ digits 8 w = ap (take 8) s in
    let q : drop 8 (sets l at (digits 8 w)) ≡ drop 8 l = ap (drop 8) s in
    simp (p, q, little-digits 8 w k)
put_in (suc n) l (suc i) at w h e f k =
    let g : 8 * n ≤ length (drop 8 l) = simp length-drop (omega arith) in
    let p = take_sets 8 l at (digits 8 w) (omega arith) in
    let q = drop_sets 8 l (8 * i) at (digits 8 w) (omega arith) in
    simp (p, q, put_in n (drop 8 l) i (8 * i) w (omega arith) refl g k)

-- a word fits at place i, or the bytes stay as they are
pub put-fits : (l : List ℕ) (i w : ℕ) → i < length l / 8 → put_word l i w ≡ sets l (8 * i) (digits 8 w)
unfolding put_word
put-fits l i w h = simp (lt-ltb i (length l / 8) h)

-- as code puts it
pub put_range : (l : List ℕ) (i w : ℕ) {m : List ℕ} → i < length l / 8 → m ≡ digits 8 w → put_mid (8 * i) (8 * i + 8 - 8 * i) l m ≡ put_word l i w
put_range l i w {m} h e =
    let z : 8 * i + 8 - 8 * i ≡ 8 = omega arith in
    let b : 8 * i + 8 ≤ length l = omega arith in
    ap (λ (n : ℕ). put_mid (8 * i) n l m) z
    ∙ ap (put_mid (8 * i) 8 l) e
    ∙ ap (λ (k : List ℕ). take (8 * i) l ++ (digits 8 w ++ k)) (drop-drop 8 (8 * i) l)
    ∙ sym (put-fits l i w h ∙ sets-eq (digits 8 w) l (8 * i) b ∙ append_assoc (take (8 * i) l) (digits 8 w) (drop (8 * i + 8) l))

pub put_past : (l : List ℕ) (i w : ℕ) → length l / 8 ≤ i → put_word l i w ≡ l
unfolding put_word
put_past l i w h = simp (le-ltb i (length l / 8) h)

same_size : {A : Type 0} (t : Bool) (l m : List A) → length l ≡ length m → length (cond t l m) ≡ length m
same_size true l m e = e
same_size false l m e = refl

pub put-length : (l : List ℕ) (i w : ℕ) → length (put_word l i w) ≡ length l
unfolding put_word
put-length l i w = same_size (ltb i (length l / 8)) (sets l (8 * i) (digits 8 w)) l (length-sets l (8 * i) (digits 8 w))

words-put_by : (t : Bool) (l : List ℕ) (i w : ℕ) → ltb i (length l / 8) ≡ t → w < 2 ^ 64 → words_of (put_word l i w) ≡ set (words_of l) i w
words-put_by true l i w e h =
    let f = ltb-true i (length l / 8) e in
    let s = put-length l i w in
    let p = put-fits l i w f in
    simp s (simp p (put_in (length l / 8) l i (8 * i) w f refl (omega arith) h))
words-put_by false l i w e h =
    let f = ltb-false i (length l / 8) e in
    ap words_of (put_past l i w f) ∙ sym (set_out (words_of l) i w (simp length-words f))

-- Reading what was written gives it, and other words are untouched, in one equation.
pub words-put : (l : List ℕ) (i w : ℕ) → w < 2 ^ 64 → words_of (put_word l i w) ≡ set (words_of l) i w
words-put l i w h = words-put_by (ltb i (length l / 8)) l i w refl h

pub word_put : (l : List ℕ) (i w : ℕ) → i < length l / 8 → w < 2 ^ 64 → word_at (put_word l i w) i ≡ w
word_put l i w f h = ap (λ (k : List ℕ). get_or k i 0) (words-put l i w h) ∙ get_or-set_same (words_of l) i w 0 (simp length-words f)

pub word_put_other : (l : List ℕ) (i j w : ℕ) → (j ≡ i → ⊥) → w < 2 ^ 64 → word_at (put_word l i w) j ≡ word_at l j
word_put_other l i j w n h = ap (λ (k : List ℕ). get_or k j 0) (words-put l i w h) ∙ get_or-set_other (words_of l) i j w 0 n

-- ---- bytes and words
pub words-bytes_in : (ws : List ℕ) → Words ws → words_in (length ws) (bytes_of ws) ≡ ws
unfolding words_in bytes_of
words-bytes_in [] o = refl
words-bytes_in (w ∷ ws) o = simp (little-digits 8 w o.0, words-bytes_in ws o.1)

pub length-bytes : (ws : List ℕ) → length (bytes_of ws) ≡ 8 * length ws
unfolding bytes_of
length-bytes [] = refl
length-bytes (w ∷ ws) = let e = length-bytes ws in omega arith

pub words-bytes : (ws : List ℕ) → Words ws → words_of (bytes_of ws) ≡ ws
words-bytes ws o = let e : length (bytes_of ws) / 8 ≡ length ws = omega (arith, length-bytes ws) in simp (e, words-bytes_in ws o)

pub words_fit : (n : ℕ) (l : List ℕ) → Octets l → 8 * n ≤ length l → Words (words_in n l)
unfolding words_in
words_fit zero l o h = omega arith
words_fit (suc n) l o h =
    let e : length (take 8 l) ≡ 8 = length-take-le 8 l (omega arith) in
    let s = little_lt (take 8 l) (octets_take 8 l o) in
    (rw e at s, words_fit n (drop 8 l) (octets_drop 8 l o) (simp length-drop (omega arith)))

pub bytes-words : (n : ℕ) (l : List ℕ) → Octets l → length l ≡ 8 * n → bytes_of (words_in n l) ≡ l
unfolding words_in bytes_of
bytes-words zero l o h = take_all 0 l (omega arith)
bytes-words (suc n) l o h =
    let e : length (take 8 l) ≡ 8 = length-take-le 8 l (omega arith) in
    let s = digits-little (take 8 l) (octets_take 8 l o) in
    let d : digits 8 (little (take 8 l)) ≡ take 8 l = ap (λ (k : ℕ). digits k (little (take 8 l))) (sym e) ∙ s in
    let r = bytes-words n (drop 8 l) (octets_drop 8 l o) (simp length-drop (omega arith)) in
    ap (λ (k : List ℕ). k ++ bytes_of (words_in n (drop 8 l))) d ∙ ap (λ (k : List ℕ). take 8 l ++ k) r ∙ take-append-drop 8 l

-- ---- the other order of bytes
reversed_octets : (w : ℕ) → Octets (reverse (digits 8 w))
reversed_octets w = (omega arith, (omega arith, (omega arith, (omega arith, (omega arith, (omega arith, (omega arith, (omega arith, omega arith))))))))

pub digits-turned : (w : ℕ) → digits 8 (turned w) ≡ reverse (digits 8 w)
unfolding turned
digits-turned w = digits-little (reverse (digits 8 w)) (reversed_octets w)

pub turned_lt : (w : ℕ) → turned w < 2 ^ 64
unfolding turned
turned_lt w = little_lt (reverse (digits 8 w)) (reversed_octets w)

-- the library's word for it
pub turned_swap : (w : ℕ) → w < 2 ^ 64 → swap_bytes w64 w ≡ turned w
unfolding turned
turned_swap w h = ap (from_be_bytes w64) (digits_le w h) ∙ big_be (digits 8 w) refl

pub turned-turned : (w : ℕ) → w < 2 ^ 64 → turned (turned w) ≡ w
unfolding turned
turned-turned w h = ap big (digits-turned w) ∙ little-digits 8 w h

pub symbol-put : (l : List ℕ) (i s : ℕ) → i < length l / 8 → s < 2 ^ 64 → symbol_at (put_symbol l i s) i ≡ s
symbol-put l i s f h = ap turned (word_put l i (turned s) f (turned_lt s)) ∙ turned-turned s h
