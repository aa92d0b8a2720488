-- Weights in two columns, put one after the other.
use Prim.Native.Nat.{ℕ, zero, suc, ◌+◌, ◌*◌, ◌≤◌, ◌<◌}
use mathlib.Core.Path.{◌≡◌, refl, sym, ap, ◌∙◌}
use mathlib.Core.List.{List, [], ◌∷◌, ◌++◌}
use native.Mathlib.Omega.{arith}
use native.Mathlib.Numerals.{add-one}
use lib.Ieee.{Float}
use lib.ListN.{length, take, drop, get_or}
use lib.Seq.{take_at, take-length, take_all}
use Rattle.word_bytes.proofs.Words.{length-bytes}
use Rattle.word_bytes.specs.Words.{turned, put_word}
use Rattle.word_bytes.specs.Numbers.{pattern_of}
use Rattle.list_bytes.specs.Inner.Records.{put_all}
use Rattle.list_bytes.specs.Weights.{pair_words, weight_bytes, weights_fitting, written_weights}
use Rattle.list_bytes.proofs.Puts.{put-all-append}

pub pairs_long : (n : ℕ) (ss : List ℕ) (ws : List Float) → n ≤ length ss → n ≤ length ws → length (pair_words (take n ss) (take n ws)) ≡ 2 * n
unfolding pair_words
pairs_long zero ss ws h g = refl
pairs_long (suc n) [] ws h g = absurd (omega arith)
pairs_long (suc n) (s ∷ ss) [] h g = absurd (omega arith)
pairs_long (suc n) (s ∷ ss) (w ∷ ws) h g = omega (arith, pairs_long n ss ws (omega arith) (omega arith))

pairs_snoc : (n : ℕ) (ss : List ℕ) (ws : List Float) (z : Float) → n < length ss → n < length ws
    → pair_words (take (suc n) ss) (take (suc n) ws) ≡ pair_words (take n ss) (take n ws) ++ (turned (get_or ss n 0) ∷ pattern_of (get_or ws n z) ∷ [])
unfolding pair_words
pairs_snoc n [] ws z h g = absurd (omega arith)
pairs_snoc n (s ∷ ss) [] z h g = absurd (omega arith)
pairs_snoc zero (s ∷ ss) (w ∷ ws) z h g = refl
pairs_snoc (suc n) (s ∷ ss) (w ∷ ws) z h g = ap (λ k. turned s ∷ pattern_of w ∷ k) (pairs_snoc n ss ws z (omega arith) (omega arith))

pub pairs_on : (l ss : List ℕ) (ws : List Float) (n : ℕ) (z : Float) {o p q : List ℕ} {v : ℕ} → n < length ss → n < length ws → o ≡ put_all l 0 (pair_words (take n ss) (take n ws))
    → p ≡ put_word o (2 * n) (turned (get_or ss n 0)) → v ≡ pattern_of (get_or ws n z) → q ≡ put_word p (2 * n + 1) v → q ≡ put_all l 0 (pair_words (take (n + 1) ss) (take (n + 1) ws))
unfolding put_all
pairs_on l ss ws n z {o} {p} {q} {v} h g e f u t =
    let long : 2 * n ≡ 0 + length (pair_words (take n ss) (take n ws)) = omega (arith, pairs_long n ss ws (omega arith) (omega arith)) in
    let s = turned (get_or ss n 0) in
    t
    ∙ ap (λ k. put_word k (2 * n + 1) v) (f ∙ ap (λ k. put_word k (2 * n) s) e)
    ∙ ap (put_word (put_word (put_all l 0 (pair_words (take n ss) (take n ws))) (2 * n) s) (2 * n + 1)) u
    ∙ sym (put-all-append l 0 (2 * n) (pair_words (take n ss) (take n ws)) (s ∷ pattern_of (get_or ws n z) ∷ []) long)
    ∙ ap (put_all l 0) (sym (pairs_snoc n ss ws z h g))
    ∙ ap (λ k. put_all l 0 (pair_words (take k ss) (take k ws))) (sym (add-one n))

-- Where the columns hold symbols and weights in their first places, and there is room for all, their bytes stand in the first places, and the rest is as found.
pub weights-written : (ss : List ℕ) (ws : List Float) (x : List ℕ) (y : List Float) (out : List ℕ) → length ss ≡ length ws → length ss ≤ 64 → 16 * length ss ≤ length out
    → written_weights (length ss) (ss ++ x) (ws ++ y) out ≡ weight_bytes ss ws ++ drop (16 * length ss) out
unfolding written_weights
weights-written ss ws x y out e h g =
    let n : weights_fitting (length ss) (length out) ≡ length ss = omega arith in
    let s : take (length ss) (ss ++ x) ≡ ss = take_at ss x (length ss) refl in
    let w : take (length ss) (ws ++ y) ≡ ws = take_at ws y (length ss) (sym e) in
    let t : take (length ss) ws ≡ ws = take_all (length ss) ws (omega arith) in
    let m : length (pair_words ss ws) ≡ 2 * length ss = simp (take-length ss, t) at (pairs_long (length ss) ss ws (omega arith) (omega arith)) in
    let l : length (weight_bytes ss ws) ≡ 16 * length ss = omega (arith, length-bytes (pair_words ss ws)) in
    simp (n, s, w, l)
