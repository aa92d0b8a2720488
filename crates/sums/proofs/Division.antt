-- Long division: a number's upper part is divided first, and what it leaves goes before the lower part.
use Rattle.std.proofs.Common.{◌≡◌, ℕ, ◌+◌, ◌*◌, ◌/◌, ◌%◌, ◌^◌, ◌<◌, sym, ap, ◌∙◌, subst, add_assoc, mod-lt, mul_comm, div-lt_iff_lt-mul, add-mul, add_comm, div-add-mod', mul_right_comm, arith}
use native.Mathlib.Nat.{add-mul-div_right, add-mul-mod_self_right}
use lib.Arith.{digits_lt}

-- a number by the quotient and the remainder of its upper part
regroup : (h l d B : ℕ) → h * B + l ≡ (h % d * B + l) + h / d * B * d
regroup h l d B =
    ap (λ (x : ℕ). x * B + l) (sym (div-add-mod' h d)) ∙ ap (λ (x : ℕ). x + l) (add-mul (h / d * d) (h % d) B) ∙ add_assoc (h / d * d * B) (h % d * B) l
    ∙ add_comm (h / d * d * B) (h % d * B + l) ∙ ap (λ (x : ℕ). h % d * B + l + x) (mul_right_comm (h / d) d B)

pub upper_quotient : (h l d B : ℕ) → 0 < d → (h * B + l) / d ≡ (h % d * B + l) / d + h / d * B
upper_quotient h l d B D = ap (λ (x : ℕ). x / d) (regroup h l d B) ∙ add-mul-div_right (h % d * B + l) (h / d * B) D

pub upper-rest : (h l d B : ℕ) → (h * B + l) % d ≡ (h % d * B + l) % d
upper-rest h l d B = ap (λ (x : ℕ). x % d) (regroup h l d B) ∙ add-mul-mod_self_right (h % d * B + l) (h / d * B) d

-- the number of one step, and its quotient, which is one digit
pub step_lt : (h l d B : ℕ) → 0 < d → l < B → h % d * B + l < d * B
step_lt h l d B D hl = digits_lt (mod-lt h D) hl

pub digit_lt : (h l d B : ℕ) → 0 < d → l < B → (h % d * B + l) / d < B
digit_lt h l d B D hl = (div-lt_iff_lt-mul D).1 (subst (λ (x : ℕ). h % d * B + l < x) (mul_comm d B) (step_lt h l d B D hl))

-- a word below an upper part, by two digits
module _ (h l d : ℕ) (hl : l < 2 ^ 64) (pos : 0 < d) where
  abbrev pub upper : ℕ
  upper = h % d * 2 ^ 32 + l / 2 ^ 32

  abbrev pub lower : ℕ
  lower = upper % d * 2 ^ 32 + l % 2 ^ 32

  pub upper_digit : upper / d < 2 ^ 32
  upper_digit = digit_lt h (l / 2 ^ 32) d (2 ^ 32) pos (omega arith)

  pub lower_digit : lower / d < 2 ^ 32
  lower_digit = digit_lt upper (l % 2 ^ 32) d (2 ^ 32) pos (omega arith)

  pub two_digits : h / d * 2 ^ 64 + (upper / d * 2 ^ 32 + lower / d) ≡ (h * 2 ^ 64 + l) / d
  two_digits =
      let m = h * 2 ^ 32 + l / 2 ^ 32 in
      let e : h * 2 ^ 64 + l ≡ m * 2 ^ 32 + l % 2 ^ 32 = omega arith in
      let r : m % d * 2 ^ 32 + l % 2 ^ 32 ≡ lower = ap (λ (x : ℕ). x * 2 ^ 32 + l % 2 ^ 32) (upper-rest h (l / 2 ^ 32) d (2 ^ 32)) in
      let a : (h * 2 ^ 64 + l) / d ≡ lower / d + m / d * 2 ^ 32 = ap (λ (x : ℕ). x / d) e ∙ upper_quotient m (l % 2 ^ 32) d (2 ^ 32) pos ∙ ap (λ (x : ℕ). x / d + m / d * 2 ^ 32) r in
      omega (arith, upper_quotient h (l / 2 ^ 32) d (2 ^ 32) pos)
