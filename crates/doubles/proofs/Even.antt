-- An integer of more than 53 digits as a double: the pattern of its leading 53, rounded to even, is what `round` gives. Assumes nothing.
use mathlib.Core.Path.{◌≡◌, refl, sym, ap, ◌∙◌, subst}
use mathlib.Core.Bool.{Bool, true, false, not, cond}
use Prim.Native.Nat.{ℕ, suc, ◌+◌, ◌-◌, ◌*◌, ◌/◌, ◌%◌, ◌^◌, ◌≤◌, ◌<◌, compare, Ordering}
use native.Mathlib.Nat.{le_of_eq, le_trans, lt_of_lt_of_le, lt_of_le_of_lt, lt_of_not-le, not-le_of_lt, mul-one, one-mul, mul_assoc, mul_comm, mul_right_comm, mul-le-mul_left, mul-le-mul_right, mul-lt-mul_of_pos_right, mod-lt, mod-eq_of_lt, div-one, div-lt_iff_lt-mul, le-div_iff_mul-le, eq_of_mul-eq-mul_right, pow-succ'}
use native.Mathlib.Omega.{arith}
use lib.Arith.{lt_of_le-ne}
use lib.Bits.{bit_and, and_mask}
use lib.Count.{count_leading_zeros, leading_top}
use lib.Dec.{T, is_le, compare_is_eq, leb, ltb, eqb, leb→le, nleb→lt, ltb→lt, nltb→le, eqb→eq, eqb_refl, not_T}
use lib.Pow.{pow_pos, pow-add, pow_mono, pow-lt}
use lib.IntN.{pos}
use lib.Ieee.{Float, nan, inf, fin, binary64, up, down, size, nearest, odd, round, of_int, is_nan, nan_bits, of_fields, of_bits}
use lib.Ieee.Bits.{nan_bits_is, of_bits-fits, is_false}
use lib.Ieee.Digits.{size-lt, size-le}
use lib.Ieee.Fits.{nearest-le, of_int-fits}
use lib.Ieee.Exact.{HasValue, odd_sign}
use lib.Ieee.Nearest.{closest, closest_same, nearest-ge}
use lib.Ieee.Order.{drop}
use lib.Ieee.Scale.{grid, overflow, round_val}
use lib.Ieee.Back.{whole_unique}

-- ---- the comparison of the rest with a half says which way
abbrev pub Cmp : Ordering → ℕ → ℕ → Type 0
Cmp Ordering.lt a b = a < b
Cmp Ordering.eq a b = a ≡ b
Cmp Ordering.gt a b = b < a

pub compared : (a b : ℕ) → Cmp (compare a b) a b
compared a b = go (compare a b) (leb→le a b) (nleb→lt a b) (eqb→eq a b) (λ (e : a ≡ b). subst (λ (x : ℕ). T (eqb a x)) e (eqb_refl a))
  where
    go : (o : Ordering) → (T (is_le o) → a ≤ b) → (T (not (is_le o)) → b < a) → (T (compare_is_eq o) → a ≡ b) → (a ≡ b → T (compare_is_eq o)) → Cmp o a b
    go Ordering.lt h k e n = lt_of_le-ne (h tt) n
    go Ordering.eq h k e n = e tt
    go Ordering.gt h k e n = k tt

below : (w a b : ℕ) (o : Ordering) → Cmp o a b → a < b → w ≡ nearest w o
below w a b Ordering.lt x h = refl
below w a b Ordering.eq x h = absurd (none a b x h)
  where
    none : (a b : ℕ) → a ≡ b → a < b → ⊥
    none a b x h = omega arith
below w a b Ordering.gt x h = absurd (none a b x h)
  where
    none : (a b : ℕ) → b < a → a < b → ⊥
    none a b x h = omega arith

above : (w a b : ℕ) (o : Ordering) → Cmp o a b → b < a → w + 1 ≡ nearest w o
above w a b Ordering.lt x h = absurd (none a b x h)
  where
    none : (a b : ℕ) → a < b → b < a → ⊥
    none a b x h = omega arith
above w a b Ordering.eq x h = absurd (none a b x h)
  where
    none : (a b : ℕ) → a ≡ b → b < a → ⊥
    none a b x h = omega arith
above w a b Ordering.gt x h = omega arith

tied : (w a b : ℕ) (o : Ordering) → Cmp o a b → a ≡ b → w + w % 2 ≡ nearest w o
tied w a b Ordering.lt x h = absurd (none a b x h)
  where
    none : (a b : ℕ) → a < b → a ≡ b → ⊥
    none a b x h = omega arith
tied w a b Ordering.eq x h = refl
tied w a b Ordering.gt x h = absurd (none a b x h)
  where
    none : (a b : ℕ) → b < a → a ≡ b → ⊥
    none a b x h = omega arith

module _ (n k : ℕ) (K : 0 < k) (W : k < 64) where
  pub unit_shift : 1 * 2 ^ k % 2 ^ 64 ≡ 2 ^ k
  unit_shift = ap (λ (x : ℕ). x % 2 ^ 64) (one-mul (2 ^ k)) ∙ mod-eq_of_lt (pow-lt W)

  half_shift : 1 * 2 ^ (k - 1) % 2 ^ 64 ≡ 2 ^ (k - 1)
  half_shift = ap (λ (x : ℕ). x % 2 ^ 64) (one-mul (2 ^ (k - 1))) ∙ mod-eq_of_lt (pow-lt {i = k - 1} {j = 64} (omega arith))

  two_halves : 2 ^ k ≡ 2 ^ (k - 1) * 2
  two_halves =
      let e : k ≡ suc (k - 1) = omega arith in
      ap (λ (x : ℕ). 2 ^ x) e ∙ pow-succ' 2 (k - 1) ∙ mul_comm 2 (2 ^ (k - 1))

  rest_mask : bit_and n (1 * 2 ^ k % 2 ^ 64 - 1) ≡ n % 2 ^ k
  rest_mask = ap (λ (x : ℕ). bit_and n (x - 1)) unit_shift ∙ and_mask n k

  pub even_below : bit_and n (1 * 2 ^ k % 2 ^ 64 - 1) < 1 * 2 ^ (k - 1) % 2 ^ 64 → n / 2 ^ k ≡ closest n (2 ^ k)
  even_below h = below (n / 2 ^ k) (n % 2 ^ k * 2) (2 ^ k) (compare (n % 2 ^ k * 2) (2 ^ k)) (compared (n % 2 ^ k * 2) (2 ^ k)) (omega (arith, rest_mask, half_shift, two_halves))

  pub even_above : 1 * 2 ^ (k - 1) % 2 ^ 64 < bit_and n (1 * 2 ^ k % 2 ^ 64 - 1) → n / 2 ^ k + 1 ≡ closest n (2 ^ k)
  even_above h = above (n / 2 ^ k) (n % 2 ^ k * 2) (2 ^ k) (compare (n % 2 ^ k * 2) (2 ^ k)) (compared (n % 2 ^ k * 2) (2 ^ k)) (omega (arith, rest_mask, half_shift, two_halves))

  pub even_tied : 1 * 2 ^ (k - 1) % 2 ^ 64 ≤ bit_and n (1 * 2 ^ k % 2 ^ 64 - 1) → bit_and n (1 * 2 ^ k % 2 ^ 64 - 1) ≤ 1 * 2 ^ (k - 1) % 2 ^ 64 → n / 2 ^ k + bit_and (n / 2 ^ k) 1 ≡ closest n (2 ^ k)
  even_tied h l =
      ap (λ (x : ℕ). n / 2 ^ k + x) (and_mask (n / 2 ^ k) 1)
      ∙ tied (n / 2 ^ k) (n % 2 ^ k * 2) (2 ^ k) (compare (n % 2 ^ k * 2) (2 ^ k)) (compared (n % 2 ^ k * 2) (2 ^ k)) (omega (arith, rest_mask, half_shift, two_halves))

  pub kept_lt : n < 2 ^ 64 → n / 2 ^ k < 2 ^ 63
  kept_lt h = (div-lt_iff_lt-mul (pow_pos k)).1 (lt_of_lt_of_le h (le_trans (le_of_eq (pow-add 2 63 1)) (mul-le-mul_left (2 ^ 63) (pow_mono K))))

  pub last_digit : bit_and (n / 2 ^ k) 1 < 2
  last_digit = subst (λ (x : ℕ). x < 2) (sym (and_mask (n / 2 ^ k) 1)) (mod-lt (n / 2 ^ k) (pow_pos 1))

-- ---- the pattern of a leading digit and 52 more; the carry to 2 ^ 53 runs into the exponent's field
field_value : (e t : ℕ) → suc e < 2047 → t < 2 ^ 52 → HasValue (of_bits binary64 (suc e * 2 ^ 52 + t)) false ((2 ^ 52 + t) * 2 ^ e) (2 ^ 1074)
unfolding of_bits of_fields
field_value e t h l =
    let b = suc e * 2 ^ 52 + t in
    let s : leb (2 ^ 63) b ≡ false = is_false (leb (2 ^ 63) b) (not_T (leb (2 ^ 63) b) (λ y. under e t h l (leb→le (2 ^ 63) b y))) in
    let p : b % 2 ^ 63 / 2 ^ 52 ≡ suc e = omega arith in
    let q : b % 2 ^ 52 ≡ t = omega arith in
    subst (λ (x : Float). HasValue x false ((2 ^ 52 + t) * 2 ^ e) (2 ^ 1074)) (λ i. of_fields binary64 (sym s i) (sym p i) (sym q i)) (go (eqb (suc e) 2047) (eqb→eq (suc e) 2047))
  where
    under : (e t : ℕ) → suc e < 2047 → t < 2 ^ 52 → 2 ^ 63 ≤ suc e * 2 ^ 52 + t → ⊥
    under e t h l g = omega arith

    differ : (e : ℕ) → suc e < 2047 → suc e ≡ 2047 → ⊥
    differ e h p = omega arith

    go : (c : Bool) → (T c → suc e ≡ 2047) → HasValue (cond c (cond (eqb t 0) (inf false) nan) (odd 53 false (2 ^ 52 + t) e 1074)) false ((2 ^ 52 + t) * 2 ^ e) (2 ^ 1074)
    go true f = absurd (differ e h (f tt))
    go false f = odd_sign 53 false (2 ^ 52 + t) e 1074

pub pattern_value : (e q : ℕ) → 2 ^ 52 ≤ q → q ≤ 2 ^ 53 → e < 2045 → HasValue (of_bits binary64 (e * 2 ^ 52 + q)) false (q * 2 ^ e) (2 ^ 1074)
pattern_value e q lo hi h = go (ltb q (2 ^ 53)) (ltb→lt q (2 ^ 53)) (nltb→le q (2 ^ 53))
  where
    go : (c : Bool) → (T c → q < 2 ^ 53) → (T (not c) → 2 ^ 53 ≤ q) → HasValue (of_bits binary64 (e * 2 ^ 52 + q)) false (q * 2 ^ e) (2 ^ 1074)
    go true y n =
        let l = y tt in
        let p : suc e * 2 ^ 52 + (q - 2 ^ 52) ≡ e * 2 ^ 52 + q = omega arith in
        let d : 2 ^ 52 + (q - 2 ^ 52) ≡ q = omega arith in
        subst (λ (b : ℕ). HasValue (of_bits binary64 b) false (q * 2 ^ e) (2 ^ 1074)) p
        (subst (λ (x : ℕ). HasValue (of_bits binary64 (suc e * 2 ^ 52 + (q - 2 ^ 52))) false (x * 2 ^ e) (2 ^ 1074)) d (field_value e (q - 2 ^ 52) (omega arith) (omega arith)))
    go false y n =
        let l = n tt in
        let p : suc (suc e) * 2 ^ 52 + 0 ≡ e * 2 ^ 52 + q = omega arith in
        let d : (2 ^ 52 + 0) * 2 ^ suc e ≡ q * 2 ^ e = ap (λ (x : ℕ). 2 ^ 52 * x) (pow-succ' 2 e) ∙ sym (mul_assoc (2 ^ 52) 2 (2 ^ e)) ∙ ap (λ (x : ℕ). x * 2 ^ e) (same q hi l) in
        subst (λ (b : ℕ). HasValue (of_bits binary64 b) false (q * 2 ^ e) (2 ^ 1074)) p
        (subst (λ (x : ℕ). HasValue (of_bits binary64 (suc (suc e) * 2 ^ 52 + 0)) false x (2 ^ 1074)) d (field_value (suc e) 0 (omega arith) (pow_pos 52)))
      where
        same : (q : ℕ) → q ≤ 2 ^ 53 → 2 ^ 53 ≤ q → 2 ^ 52 * 2 ≡ q
        same q h l = omega arith

valued_no_nan : (x : Float) (s : Bool) (a c : ℕ) → HasValue x s a c → T (not (is_nan x))
unfolding is_nan
valued_no_nan nan s a c v = v
valued_no_nan (inf t) s a c v = tt
valued_no_nan (fin t m e) s a c v = tt

pub pattern_no_nan : (e q : ℕ) → 2 ^ 52 ≤ q → q ≤ 2 ^ 53 → e < 2045 → T (not (nan_bits binary64 (e * 2 ^ 52 + q)))
pattern_no_nan e q lo hi h =
    subst (λ (b : Bool). T (not b)) (sym (nan_bits_is binary64 (e * 2 ^ 52 + q))) (valued_no_nan (of_bits binary64 (e * 2 ^ 52 + q)) false (q * 2 ^ e) (2 ^ 1074) (pattern_value e q lo hi h))

-- ---- what `round` keeps of an integer n with 53 + k digits
pub whole-value : (x : Float) (s : Bool) (a l : ℕ) → 0 < l → HasValue x s (a * l) l → HasValue x s a 1
whole-value nan s a l L v = v
whole-value (inf t) s a l L v = v
whole-value (fin t m e) s a l L v = (
  v.0,
  mul-one (m * up e) ∙ eq_of_mul-eq-mul_right l L (m * up e) (a * down e) (v.1 ∙ mul_right_comm a l (down e)),
)

size_is : (w i j : ℕ) → j ≡ suc i → 2 ^ i ≤ w → w < 2 ^ j → size w ≡ j
size_is w i j e lo hi = close (size w) i j e (size-le w j hi) (lt_of_not-le (λ (g : size w ≤ i). not-le_of_lt (lt_of_lt_of_le (size-lt w) (pow_mono g)) lo))
  where
    close : (z i j : ℕ) → j ≡ suc i → z ≤ j → i < z → z ≡ j
    close z i j e a b = omega arith

module _ (n k : ℕ) (lo : 2 ^ (52 + k) ≤ n) (hi : n < 2 ^ (53 + k)) (K : k ≤ 11) where
  dropped : drop 53 (n * 2 ^ 1074) 1 ≡ k + 1074
  dropped =
      let w = n * 2 ^ 1074 in
      let a : 2 ^ (52 + k + 1074) ≤ w = le_trans (le_of_eq (pow-add 2 (52 + k) 1074)) (mul-le-mul_right (2 ^ 1074) lo) in
      let b : w < 2 ^ (53 + k + 1074) = lt_of_lt_of_le (mul-lt-mul_of_pos_right hi (pow_pos 1074)) (le_of_eq (sym (pow-add 2 (53 + k) 1074))) in
      let z : size w ≡ 53 + k + 1074 = size_is w (52 + k + 1074) (53 + k + 1074) (omega arith) a b in
      ap (λ (x : ℕ). size x - 53) (div-one w) ∙ ap (λ (x : ℕ). x - 53) z ∙ less k
    where
      less : (k : ℕ) → 53 + k + 1074 - 53 ≡ k + 1074
      less k = omega arith

  kept_is : closest (n * 2 ^ 1074) (1 * 2 ^ (k + 1074)) ≡ closest n (2 ^ k)
  kept_is =
      closest_same (n * 2 ^ 1074) (1 * 2 ^ (k + 1074)) n (2 ^ k) (lt_of_lt_of_le (pow_pos (k + 1074)) (le_of_eq (sym (one-mul (2 ^ (k + 1074)))))) (pow_pos k)
      (mul_assoc n (2 ^ 1074) (2 ^ k) ∙ ap (λ (x : ℕ). n * x) (mul_comm (2 ^ 1074) (2 ^ k) ∙ sym (pow-add 2 k 1074) ∙ sym (one-mul (2 ^ (k + 1074)))))

  pub grid_is : grid binary64 n 1 ≡ closest n (2 ^ k) * 2 ^ k * 2 ^ 1074
  grid_is =
      (λ i. closest (n * 2 ^ 1074) (1 * 2 ^ (dropped i)) * 2 ^ (dropped i)) ∙ ap (λ (x : ℕ). x * 2 ^ (k + 1074)) kept_is ∙ ap (λ (x : ℕ). closest n (2 ^ k) * x) (pow-add 2 k 1074)
      ∙ sym (mul_assoc (closest n (2 ^ k)) (2 ^ k) (2 ^ 1074))

  pub leading_ge : 2 ^ 52 ≤ closest n (2 ^ k)
  leading_ge = le_trans ((le-div_iff_mul-le (pow_pos k)).1 (le_trans (le_of_eq (sym (pow-add 2 52 k))) lo)) (nearest-ge (n / 2 ^ k) (compare (n % 2 ^ k * 2) (2 ^ k)))

  pub leading_le : closest n (2 ^ k) ≤ 2 ^ 53
  leading_le = le_trans (nearest-le (n / 2 ^ k) (compare (n % 2 ^ k * 2) (2 ^ k))) ((div-lt_iff_lt-mul (pow_pos k)).1 (lt_of_lt_of_le hi (le_of_eq (pow-add 2 53 k))))

  pub grid_small : grid binary64 n 1 < overflow binary64
  grid_small =
      lt_of_le_of_lt (le_trans (le_of_eq grid_is) (mul-le-mul_right (2 ^ 1074) (mul-le-mul_right (2 ^ k) leading_le)))
      (lt_of_le_of_lt (le_of_eq (ap (λ (x : ℕ). x * 2 ^ 1074) (sym (pow-add 2 53 k)) ∙ sym (pow-add 2 (53 + k) 1074))) (pow-lt {i = 53 + k + 1074} {j = 2098} (omega arith)))

  pub even_pattern : of_bits binary64 ((k + 1074) * 2 ^ 52 + closest n (2 ^ k)) ≡ of_int binary64 (pos n)
  even_pattern =
      let q = closest n (2 ^ k) in
      let b = (k + 1074) * 2 ^ 52 + q in
      let v = pattern_value (k + 1074) q leading_ge leading_le (omega arith) in
      let p : q * 2 ^ (k + 1074) ≡ q * 2 ^ k * 2 ^ 1074 = ap (λ (x : ℕ). q * x) (pow-add 2 k 1074) ∙ sym (mul_assoc q (2 ^ k) (2 ^ 1074)) in
      whole_unique binary64 (of_bits binary64 b) (of_int binary64 (pos n)) false (q * 2 ^ k) (of_bits-fits binary64 b) (of_int-fits binary64 (pos n))
      (whole-value (of_bits binary64 b) false (q * 2 ^ k) (2 ^ 1074) (pow_pos 1074) (subst (λ (x : ℕ). HasValue (of_bits binary64 b) false x (2 ^ 1074)) p v))
      (unfold of_int in whole-value (round binary64 false n 1) false (q * 2 ^ k) (2 ^ 1074) (pow_pos 1074) (subst (λ (x : ℕ). HasValue (round binary64 false n 1) false x (2 ^ 1074)) grid_is (round_val binary64 n 1 grid_small)))

-- ---- how many digits are dropped
pub record Digits (n k : ℕ) : Type 0 where
  pub some : 0 < k
  pub few : k ≤ 11
  pub lo : 2 ^ (52 + k) ≤ n
  pub hi : n < 2 ^ (53 + k)

pub digits : (n : ℕ) → 2 ^ 53 ≤ n → n < 2 ^ 64 → (count_leading_zeros 64 n ≤ 10) × Digits n (11 - count_leading_zeros 64 n)
digits n l h =
    let z = count_leading_zeros 64 n in
    let t = leading_top 64 n (omega arith) h in
    let j = t.0 in
    let e : z + suc j ≡ 64 = t.1 in
    let g : 53 ≤ j = long j t.3 in
    let s : 52 + (11 - z) ≡ j = omega arith in
    let s' : 53 + (11 - z) ≡ suc j = omega arith in (
      omega arith,
      record {
        some = omega arith;
        few = omega arith;
        lo = subst (λ (x : ℕ). 2 ^ x ≤ n) (sym s) t.2;
        hi = subst (λ (x : ℕ). n < 2 ^ x) (sym s') t.3;
      },
    )
  where
    long : (j : ℕ) → n < 2 ^ suc j → 53 ≤ j
    long j g = go (leb 53 j) (leb→le 53 j) (nleb→lt 53 j)
      where
        go : (b : Bool) → (T b → 53 ≤ j) → (T (not b) → j < 53) → 53 ≤ j
        go true y m = y tt
        go false y m = absurd (not-le_of_lt g (le_trans (pow_mono {i = suc j} {j = 53} (m tt)) l))
