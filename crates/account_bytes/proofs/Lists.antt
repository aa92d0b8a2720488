-- Columns as words and back, and a list as the runs that it is cut into.
use mathlib.Core.Path.{◌≡◌, refl, sym, ◌∙◌, ap}
use Prim.Native.Nat.{ℕ, zero, suc, ◌+◌, ◌<◌, ◌≤◌, ◌^◌}
use native.Mathlib.Omega.{arith}
use mathlib.Core.List.{List, [], ◌∷◌, ◌++◌, map}
use lib.IntN.{ℤ, pos}
use lib.ListN.{length, get_or, take, drop, take-append-drop}
use lib.Seq.{drop-cons, drop-drop}
use mir.Syntax.{w64}
use mir.Val.{SFits}
use Rattle.word_bytes.specs.Words.{turned}
use Rattle.word_bytes.specs.Numbers.{signed_of, unsigned_of}
use Rattle.word_bytes.proofs.Words.{Words, turned-turned, turned_lt}
use Rattle.word_bytes.proofs.Numbers.{signed_unsigned, unsigned_signed, unsigned_lt}

-- every element an i64
abbrev pub Numbers : List ℤ → Type 0
Numbers [] = 0 ≤ 0
Numbers (z ∷ l) = SFits w64 z × Numbers l

pub words : (l : List ℕ) → ((i : ℕ) → i < length l → get_or l i 0 < 2 ^ 64) → Words l
words [] f = omega arith
words (w ∷ l) f = (f 0 (omega arith), words l (λ i h. f (suc i) (omega arith)))

pub numbers : (l : List ℤ) → ((i : ℕ) → i < length l → SFits w64 (get_or l i (pos 0))) → Numbers l
numbers [] f = omega arith
numbers (z ∷ l) f = (f 0 (omega arith), numbers l (λ i h. f (suc i) (omega arith)))

pub words_append : (l m : List ℕ) → Words l → Words m → Words (l ++ m)
words_append [] m o p = p
words_append (w ∷ l) m o p = (o.0, words_append l m o.1 p)

pub words_take : (n : ℕ) (l : List ℕ) → Words l → Words (take n l)
words_take zero l o = omega arith
words_take (suc n) [] o = o
words_take (suc n) (w ∷ l) o = (o.0, words_take n l o.1)

pub words-drop : (n : ℕ) (l : List ℕ) → Words l → Words (drop n l)
words-drop zero l o = o
words-drop (suc n) [] o = o
words-drop (suc n) (w ∷ l) o = words-drop n l o.1

pub word_lt : (l : List ℕ) (i : ℕ) → Words l → get_or l i 0 < 2 ^ 64
word_lt [] i o = omega arith
word_lt (w ∷ l) zero o = o.0
word_lt (w ∷ l) (suc i) o = word_lt l i o.1

-- ---- columns
pub words-turned : (l : List ℕ) → Words (map turned l)
words-turned [] = omega arith
words-turned (w ∷ l) = (turned_lt w, words-turned l)

pub words_unsigned : (l : List ℤ) → Numbers l → Words (map unsigned_of l)
words_unsigned [] o = omega arith
words_unsigned (z ∷ l) o = (unsigned_lt z o.0, words_unsigned l o.1)

pub turned_back : (l : List ℕ) → Words l → map turned (map turned l) ≡ l
turned_back [] o = refl
turned_back (w ∷ l) o = simp (turned-turned w o.0, turned_back l o.1)

pub signed_back : (l : List ℤ) → Numbers l → map signed_of (map unsigned_of l) ≡ l
signed_back [] o = refl
signed_back (z ∷ l) o = simp (signed_unsigned z o.0, signed_back l o.1)

pub unsigned_back : (l : List ℕ) → Words l → map unsigned_of (map signed_of l) ≡ l
unsigned_back [] o = refl
unsigned_back (w ∷ l) o = simp (unsigned_signed w o.0, unsigned_back l o.1)

-- ---- runs
-- the n words from a place on, each by how far it stands from there
abbrev run_on : ℕ → ℕ → ℕ → List ℕ → List ℕ
run_on zero i from ws = []
run_on (suc n) i from ws = get_or ws (from + i) 0 ∷ run_on n (suc i) from ws

abbrev pub run : ℕ → ℕ → List ℕ → List ℕ
run n from ws = run_on n 0 from ws

run_on_is : (n i from : ℕ) (ws : List ℕ) → from + i + n ≤ length ws → run_on n i from ws ≡ take n (drop (from + i) ws)
run_on_is zero i from ws h = refl
run_on_is (suc n) i from ws h =
    let e : from + suc i ≡ suc (from + i) = omega arith in
    let p : run_on n (suc i) from ws ≡ take n (drop (from + suc i) ws) = run_on_is n (suc i) from ws (omega arith) in
    ap (λ (k : List ℕ). get_or ws (from + i) 0 ∷ k) (p ∙ ap (λ (k : ℕ). take n (drop k ws)) e) ∙ ap (take (suc n)) (sym (drop-cons ws (from + i) 0 (omega arith)))

pub run_is : (n from : ℕ) (ws : List ℕ) → from + n ≤ length ws → run n from ws ≡ take n (drop from ws)
run_is n from ws h = let e : from + 0 ≡ from = omega arith in run_on_is n 0 from ws (omega arith) ∙ ap (λ (k : ℕ). take n (drop k ws)) e

-- a run and what comes after it
pub rejoined : {A : Type 0} (n from next : ℕ) (ws : List A) → next ≡ from + n → take n (drop from ws) ++ drop next ws ≡ drop from ws
rejoined n from next ws e = ap (λ (k : ℕ). take n (drop from ws) ++ drop k ws) e ∙ ap (λ (k : List _). take n (drop from ws) ++ k) (sym (drop-drop n from ws)) ∙ take-append-drop n (drop from ws)
