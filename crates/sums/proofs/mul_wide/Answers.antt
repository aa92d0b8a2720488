-- Multiplying by hand in base 2 ^ 32. All that is not linear is the four products, so `omega` does the columns.
use Rattle.std.proofs.Common.{◌≡◌, ℕ, ◌+◌, ◌*◌, ◌/◌, ◌%◌, ◌^◌, ◌<◌, sym, refl, ap, ◌∙◌, add_assoc, mul_assoc, mul_comm, add-mul, mul-le-mul, add_comm, div-add-mod', mul-add, mul_right_comm, mul_left_comm, arith}
use native.Mathlib.Nat.{add_left_comm}
use Rattle.sums.specs.Wide.{value_of, wide}
use Rattle.sums.proofs.TwoWords.{words_of, value_of-wide}
use Rattle.sums.proofs.mul_wide.Goals as goal

spread : (B a₀ a₁ b₀ b₁ : ℕ) → (a₁ * B + a₀) * (b₁ * B + b₀) ≡ a₁ * b₁ * (B * B) + a₀ * b₀ + a₁ * b₀ * B + a₀ * b₁ * B
spread B a₀ a₁ b₀ b₁ = simp (mul-add, add-mul, mul_assoc, mul_comm, mul_left_comm, add_assoc, add_comm, add_left_comm) refl

columns : (a b : ℕ) → a * b ≡ a / 2 ^ 32 * (b / 2 ^ 32) * 2 ^ 64 + a % 2 ^ 32 * (b % 2 ^ 32) + a / 2 ^ 32 * (b % 2 ^ 32) * 2 ^ 32 + a % 2 ^ 32 * (b / 2 ^ 32) * 2 ^ 32
columns a b =
    let e : a * b ≡ (a / 2 ^ 32 * 2 ^ 32 + a % 2 ^ 32) * (b / 2 ^ 32 * 2 ^ 32 + b % 2 ^ 32) = λ i. sym (div-add-mod' a (2 ^ 32)) i * sym (div-add-mod' b (2 ^ 32)) i in
    e ∙ spread (2 ^ 32) (a % 2 ^ 32) (a / 2 ^ 32) (b % 2 ^ 32) (b / 2 ^ 32)

-- by the halves of a alone: where b and the upper product are below 2 ^ 31, both parts are below 2 ^ 63
by-halves : (a b : ℕ) → a * b ≡ a / 2 ^ 32 * b * 2 ^ 32 + a % 2 ^ 32 * b
by-halves a b =
    ap (λ (x : ℕ). x * b) (sym (div-add-mod' a (2 ^ 32))) ∙ add-mul (a / 2 ^ 32 * 2 ^ 32) (a % 2 ^ 32) b
    ∙ ap (λ (x : ℕ). x + a % 2 ^ 32 * b) (mul_right_comm (a / 2 ^ 32) (2 ^ 32) b)

fits_one : (a b : ℕ) → b < 2 ^ 31 → a / 2 ^ 32 * b < 2 ^ 31 → a * b < 2 ^ 64
fits_one a b hb h =
    omega (arith, by-halves a b, mul-le-mul {n₁ = a % 2 ^ 32} {m₁ = b} {n₂ = 2 ^ 32} {m₂ = 2 ^ 31} (omega arith) (omega arith))

pub overflow_mul-result : goal.overflow_mul-result
overflow_mul-result c = record { fits = fits_one c.args.a c.args.b c.if-b-lt2147483648.true c.if-a-b-lt2147483648.true }

pub returns-then-a-b-lt2147483648 : goal.returns-then-a-b-lt2147483648
returns-then-a-b-lt2147483648 c =
    let a = c.args in
    words_of 0 (a.a * a.b) _ (fits_one a.a a.b c.if-b-lt2147483648.true c.if-a-b-lt2147483648.true) (omega arith)

pub returns : goal.returns
unfolding value_of
returns c =
    let a = c.args.a in
    let b = c.args.b in
    let first : value_of c.plus_middle.result ≡ _ = ap value_of c.plus_middle.ensures.0 ∙ value_of-wide _ in
    c.plus_middle-2.ensures.0 ∙ ap wide (ap (λ (x : ℕ). x + a % 2 ^ 32 * (b / 2 ^ 32) * 2 ^ 32) first ∙ sym (columns a b))
