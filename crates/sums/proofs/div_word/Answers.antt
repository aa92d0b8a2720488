-- Long division, a bit at a time. After k bits quotient * d + rest is r * 2 ^ k and the upper k bits of n.
use Rattle.std.proofs.Common.{◌≡◌, ℕ, ◌+◌, ◌-◌, ◌*◌, ◌/◌, ◌%◌, ◌^◌, ◌<◌, ◌≤◌, ap, ◌∙◌, mul_comm, add-mul, one-mul, pow-suc, mul_left_comm, add-one, arith, shr-shr}
use Rattle.sums.proofs.div_word.Goals as goal
use Rattle.sums.proofs.div_word.Goals.{then-next-room, else-next-room}

-- the upper k + 1 bits of n are the upper k and the next
next_bit : (n k : ℕ) → k < 64 → n / 2 ^ (64 - (k + 1)) ≡ 2 * (n / 2 ^ (64 - k)) + n / 2 ^ (63 - k) % 2
next_bit n k h =
    let e : 64 - (k + 1) ≡ 63 - k = omega arith in
    let f : 63 - k + 1 ≡ 64 - k = omega arith in
    ap (λ (x : ℕ). n / 2 ^ x) e ∙ halved (n / 2 ^ (63 - k)) (n / 2 ^ (64 - k)) (shr-shr n (63 - k) 1 ∙ ap (λ (x : ℕ). n / 2 ^ x) f)
  where
    halved : (x y : ℕ) → x / 2 ≡ y → x ≡ 2 * y + x % 2
    halved x y p = omega arith

power : (k : ℕ) → 2 ^ (k + 1) ≡ 2 * 2 ^ k
power k = ap (λ (x : ℕ). 2 ^ x) (add-one k) ∙ pow-suc 2 k ∙ mul_comm (2 ^ k) 2

shifted : (r k : ℕ) → r * 2 ^ (k + 1) ≡ 2 * (r * 2 ^ k)
shifted r k = ap (λ (x : ℕ). r * x) (power k) ∙ mul_left_comm r 2 (2 ^ k)

twice : (q d : ℕ) → (q + q) * d ≡ q * d + q * d
twice q d = add-mul q q d

twice-one : (q d : ℕ) → (q + q + 1) * d ≡ q * d + q * d + d
twice-one q d = add-mul (q + q) 1 d ∙ ap (λ (x : ℕ). (q + q) * d + x) (one-mul d) ∙ ap (λ (x : ℕ). x + d) (add-mul q q d)

-- what holds after k bits holds after k + 1 of the next quotient and rest
module _ (r n d q rest k : ℕ) (hk : k < 64) (hq : q < 2 ^ k) (e : q * d + rest ≡ r * 2 ^ k + n / 2 ^ (64 - k)) where
  one_more : (q' rest' : ℕ) → rest' < d → q' ≤ q + q + 1 → q' * d + rest' ≡ q * d + q * d + rest + rest + n / 2 ^ (63 - k) % 2
      → (rest' < d) × (q' < 2 ^ (k + 1)) × (q' * d + rest' ≡ r * 2 ^ (k + 1) + n / 2 ^ (64 - (k + 1)))
  one_more q' rest' hr hq' e' = (hr, omega (arith, power k), omega (arith, shifted r k, next_bit n k hk))

pub loop-k-preserved : goal.loop-k-preserved
loop-k-preserved c =
    let l = c.loop-k in
    let a = c.args in
    let next = one_more a.r a.n a.d l.quotient l.rest l.k c.loop-k-test.true l.invariant.1 l.invariant.2 c.if-next-room.quotient c.if-next-room.rest in
    elim c.if-next-room.branch [
      | then-next-room w ↦ next (omega arith) (omega arith) (omega (arith, ap (λ (x : ℕ). x * a.d) w.quotient-is ∙ twice-one l.quotient a.d))
      | else-next-room w ↦ next (omega arith) (omega arith) (omega (arith, ap (λ (x : ℕ). x * a.d) w.quotient-is ∙ twice l.quotient a.d))
    ]
