-- A symbol's number and its bytes: the order of numbers is the order of bytes, and the bytes give the number back.
use Prim.Native.Nat.{ℕ, zero, suc, ◌+◌, ◌*◌, ◌/◌, ◌%◌, ◌^◌, ◌<◌}
use mathlib.Core.Path.{◌≡◌, refl, sym, ap, ◌∙◌}
use mathlib.Core.Bool.{Bool, true, false, cond}
use mathlib.Core.List.{List, ◌∷◌}
use native.Mathlib.Omega.{arith}
use native.Mathlib.Nat.{mul-div_cancel, mul-mod_left, add-zero, add-mul, mul_assoc, pow-suc, zero-mul, mul-one, pow-zero}
use lib.Arith.{mod-mul}
use lib.Pow.{pow-add}
use lib.Dec.{ltb, eqb}
use borrow.Author.Tests.{ltb-true, ltb-false, eqb-true, eqb-false, lt-ltb, le-ltb}
use Rattle.answer.proofs.Choice.{both_true}
use Rattle.position.specs.Symbols.{bytes_from, symbol_bytes, leading, of_bytes, good_byte, zeros, padded, before}

-- n is m with i bytes of zeros after it
pub record Spaced (i n : ℕ) : Type 0 where
  pub high : ℕ
  pub is : n ≡ high * 256 ^ i
  pub fits : n < 2 ^ 64

power_pos : (i : ℕ) → 0 < 256 ^ i
power_pos zero = omega arith
power_pos (suc i) = omega (arith, power_pos i, pow-suc 256 i)

seven_bytes : (k i : ℕ) → suc k + i ≡ 8 → 2 ^ 56 ≡ 256 ^ k * 256 ^ i
seven_bytes k i e =
    let seven : k + i ≡ 7 = omega arith in
    sym (ap (λ (x : ℕ). 256 ^ x) seven) ∙ pow-add 256 k i

pub next_spaced : (k i n : ℕ) → suc k + i ≡ 8 → Spaced i n → Spaced (suc i) (n % 2 ^ 56 * 256)
next_spaced k i n e s =
    let m = s.high in
    let cut : n % 2 ^ 56 ≡ n / 256 ^ i % 256 ^ k * 256 ^ i + n % 256 ^ i = ap (λ (x : ℕ). n % x) (seven_bytes k i e) ∙ mod-mul n (power_pos k) (power_pos i) in
    let quot : n / 256 ^ i ≡ m = ap (λ (x : ℕ). x / 256 ^ i) s.is ∙ mul-div_cancel m (power_pos i) in
    let none : n % 256 ^ i ≡ 0 = ap (λ (x : ℕ). x % 256 ^ i) s.is ∙ mul-mod_left m (256 ^ i) in
    let low : n % 2 ^ 56 ≡ m % 256 ^ k * 256 ^ i = cut ∙ rw (quot, none, add-zero) in
    record {
      high = m % 256 ^ k;
      is = ap (λ (x : ℕ). x * 256) low ∙ mul_assoc (m % 256 ^ k) (256 ^ i) 256 ∙ ap (λ (x : ℕ). m % 256 ^ k * x) (sym (pow-suc 256 i));
      fits = omega arith;
    }

pub all_spaced : (n : ℕ) → n < 2 ^ 64 → Spaced 0 n
all_spaced n h = record { high = n; is = sym (rw (pow-zero, mul-one)); fits = h }

past_the_end : (i n : ℕ) → 0 + i ≡ 8 → Spaced i n → n ≡ 0
past_the_end i n e s =
    let eight : i ≡ 8 = omega arith in
    omega (arith, s.is ∙ ap (λ (j : ℕ). s.high * 256 ^ j) eight)

-- ---- zeros
pub zeros-only : (k i n : ℕ) → k + i ≡ 8 → Spaced i n → zeros (bytes_from k n) ≡ true → n ≡ 0
unfolding bytes_from
zeros-only zero i n e s z = past_the_end i n e s
zeros-only (suc k) i n e s z =
    let first = eqb-true (n / 2 ^ 56) 0 (both_true (eqb (n / 2 ^ 56) 0) (zeros (bytes_from k (n % 2 ^ 56 * 256))) z).0 in
    let rest = zeros-only k (suc i) (n % 2 ^ 56 * 256) (omega arith) (next_spaced k i n e s) (both_true (eqb (n / 2 ^ 56) 0) (zeros (bytes_from k (n % 2 ^ 56 * 256))) z).1 in
    omega arith

pub some_bytes : (n : ℕ) → n < 2 ^ 64 → (n ≡ 0 → ⊥) → zeros (symbol_bytes n) ≡ false
some_bytes n h ne = go (zeros (symbol_bytes n)) refl
  where
    go : (t : Bool) → zeros (symbol_bytes n) ≡ t → t ≡ false
    go true z = absurd (ne (zeros-only 8 0 n refl (all_spaced n h) z))
    go false z = refl

pub zero-zeros : (k : ℕ) → zeros (bytes_from k 0) ≡ true
unfolding bytes_from
zero-zeros zero = refl
zero-zeros (suc k) = zero-zeros k

pub zero-padded : (k : ℕ) → padded (bytes_from k 0) ≡ true
unfolding bytes_from padded
zero-padded zero = refl
zero-padded (suc k) = zero-zeros k

-- a byte that is neither good nor padding
pub bad_byte : (k i n : ℕ) → suc k + i ≡ 8 → Spaced i n → (n ≡ 0 → ⊥) → good_byte (n / 2 ^ 56) ≡ false → padded (bytes_from (suc k) n) ≡ false
unfolding bytes_from padded
bad_byte k i n e s ne b = rw b (not-all (zeros (bytes_from (suc k) n)) refl)
  where
    not-all : (t : Bool) → zeros (bytes_from (suc k) n) ≡ t → t ≡ false
    not-all true z = absurd (ne (zeros-only (suc k) i n e s z))
    not-all false z = refl

pub good_byte_lem : (k n : ℕ) → good_byte (n / 2 ^ 56) ≡ true → padded (bytes_from (suc k) n) ≡ padded (bytes_from k (n % 2 ^ 56 * 256))
unfolding bytes_from padded
good_byte_lem k n g = rw g

-- ---- order
module _ (a b : ℕ) where
  first_decides : (eqb (a / 2 ^ 56) (b / 2 ^ 56) ≡ false) → ltb (a / 2 ^ 56) (b / 2 ^ 56) ≡ ltb a b
  first_decides d = go (ltb a b) refl
    where
      apart : a / 2 ^ 56 ≡ b / 2 ^ 56 → ⊥
      apart = eqb-false (a / 2 ^ 56) (b / 2 ^ 56) d

      go : (t : Bool) → ltb a b ≡ t → ltb (a / 2 ^ 56) (b / 2 ^ 56) ≡ t
      go true l =
          let less = ltb-true a b l in
          lt-ltb (a / 2 ^ 56) (b / 2 ^ 56) (omega (arith, apart))
      go false l =
          let more = ltb-false a b l in
          le-ltb (a / 2 ^ 56) (b / 2 ^ 56) (omega arith)

  rest_decides : (eqb (a / 2 ^ 56) (b / 2 ^ 56) ≡ true) → ltb (a % 2 ^ 56 * 256) (b % 2 ^ 56 * 256) ≡ ltb a b
  rest_decides d = go (ltb a b) refl
    where
      same : a / 2 ^ 56 ≡ b / 2 ^ 56
      same = eqb-true (a / 2 ^ 56) (b / 2 ^ 56) d

      go : (t : Bool) → ltb a b ≡ t → ltb (a % 2 ^ 56 * 256) (b % 2 ^ 56 * 256) ≡ t
      go true l =
          let less = ltb-true a b l in
          lt-ltb (a % 2 ^ 56 * 256) (b % 2 ^ 56 * 256) (omega (arith, same))
      go false l =
          let more = ltb-false a b l in
          le-ltb (a % 2 ^ 56 * 256) (b % 2 ^ 56 * 256) (omega (arith, same))

  by_first : (t r : Bool) → eqb (a / 2 ^ 56) (b / 2 ^ 56) ≡ t → r ≡ ltb (a % 2 ^ 56 * 256) (b % 2 ^ 56 * 256) → cond t r (ltb (a / 2 ^ 56) (b / 2 ^ 56)) ≡ ltb a b
  by_first true r d e = e ∙ rest_decides d
  by_first false r d e = first_decides d

before-from : (k i a b : ℕ) → k + i ≡ 8 → Spaced i a → Spaced i b → before (bytes_from k a) (bytes_from k b) ≡ ltb a b
unfolding bytes_from before
before-from zero i a b e s t = rw (past_the_end i a e s, past_the_end i b e t)
before-from (suc k) i a b e s t =
    by_first a b (eqb (a / 2 ^ 56) (b / 2 ^ 56)) (before (bytes_from k (a % 2 ^ 56 * 256)) (bytes_from k (b % 2 ^ 56 * 256))) refl
    (before-from k (suc i) (a % 2 ^ 56 * 256) (b % 2 ^ 56 * 256) (omega arith) (next_spaced k i a e s) (next_spaced k i b e t))

-- "ordered by unsigned bytes": the order of two symbols is that of their numbers
pub number-order_is_byte_order : (a b : ℕ) → a < 2 ^ 64 → b < 2 ^ 64 → before (symbol_bytes a) (symbol_bytes b) ≡ ltb a b
number-order_is_byte_order a b ha hb = before-from 8 0 a b refl (all_spaced a ha) (all_spaced b hb)

-- ---- there and back
leading-first : (b : ℕ) (bs : List ℕ) (k : ℕ) → leading (b ∷ bs) (suc k) ≡ b * 256 ^ k + leading bs k
unfolding leading
leading-first b bs zero = omega arith
leading-first b bs (suc k) = omega (arith, leading-first b bs k, mul_assoc b (256 ^ k) 256, ap (λ (x : ℕ). b * x) (pow-suc 256 k))

number-from : (k i n : ℕ) → k + i ≡ 8 → Spaced i n → leading (bytes_from k n) k * 256 ^ i ≡ n
unfolding bytes_from leading
number-from zero i n e s = zero-mul (256 ^ i) ∙ sym (past_the_end i n e s)
number-from (suc k) i n e s =
    let up = n % 2 ^ 56 * 256 in
    let low = leading (bytes_from k up) k in
    let whole : low * 256 ^ i * 256 ≡ up =
    mul_assoc low (256 ^ i) 256 ∙ ap (λ (x : ℕ). low * x) (sym (pow-suc 256 i)) ∙ number-from k (suc i) up (omega arith) (next_spaced k i n e s) in
    let first : n / 2 ^ 56 * 256 ^ k * 256 ^ i ≡ n / 2 ^ 56 * 2 ^ 56 = mul_assoc (n / 2 ^ 56) (256 ^ k) (256 ^ i) ∙ ap (λ (x : ℕ). n / 2 ^ 56 * x) (sym (seven_bytes k i e)) in
    ap (λ (x : ℕ). x * 256 ^ i) (leading-first (n / 2 ^ 56) (bytes_from k up) k) ∙ add-mul (n / 2 ^ 56 * 256 ^ k) low (256 ^ i) ∙ omega (arith, whole, first)

pub bytes-give_the_number : (n : ℕ) → n < 2 ^ 64 → of_bytes (symbol_bytes n) ≡ n
bytes-give_the_number n h = sym (mul-one (of_bytes (symbol_bytes n))) ∙ number-from 8 0 n refl (all_spaced n h)
