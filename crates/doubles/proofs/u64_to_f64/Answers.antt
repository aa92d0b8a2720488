-- Below 2 ^ 53 the cast is exact. From there the leading 53 digits, rounded to even, and the count of those dropped make the pattern.
use mathlib.Core.Path.{◌≡◌, sym, ap, ◌∙◌, subst}
use mathlib.Core.Bool.{not}
use Prim.Native.Nat.{ℕ, ◌+◌, ◌-◌, ◌*◌, ◌%◌, ◌^◌, ◌≤◌, ◌<◌}
use native.Mathlib.Nat.{mod-eq_of_lt}
use native.Mathlib.Omega.{arith}
use lib.Count.{count_leading_zeros}
use lib.Dec.{T}
use lib.Ieee.{binary64, nan_bits, of_bits}
use lib.Ieee.Nearest.{closest}
use Rattle.doubles.proofs.Even.{Digits, digits, leading_ge, leading_le, pattern_no_nan, even_pattern}
use Rattle.doubles.proofs.u64_to_f64.Goals as goal

-- the pattern as the code writes it
written : (n k q : ℕ) → Digits n k → q ≡ closest n (2 ^ k) → (k + 1074) * 2 ^ 52 % 2 ^ 64 + q ≡ (k + 1074) * 2 ^ 52 + closest n (2 ^ k)
written n k q d e =
    let p : (k + 1074) * 2 ^ 52 % 2 ^ 64 ≡ (k + 1074) * 2 ^ 52 = mod-eq_of_lt (small k d.few) in
    λ i. p i + e i
  where
    small : (k : ℕ) → k ≤ 11 → (k + 1074) * 2 ^ 52 < 2 ^ 64
    small k h = omega arith

pub overflow_sub-k : goal.overflow_sub-k
overflow_sub-k c = omega (arith, (digits c.args.n c.if-n-lt9007199254740992.false c.ranges.n.fits).0)

pub shifted_to_even-requires : goal.shifted_to_even-requires
shifted_to_even-requires c = omega (arith, (digits c.args.n c.if-n-lt9007199254740992.false c.ranges.n.fits).1.some)

pub overflow_add-result-2 : goal.overflow_add-result-2
overflow_add-result-2 c =
    let n = c.args.n in
    let k = 11 - count_leading_zeros 64 n in
    let d = (digits n c.if-n-lt9007199254740992.false c.ranges.n.fits).1 in
    omega (arith, written n k c.shifted_to_even.result d c.shifted_to_even.ensures, leading_le n k d.lo d.hi d.few)

pub float_from_bits-result : goal.float_from_bits-result
float_from_bits-result c =
    let n = c.args.n in
    let k = 11 - count_leading_zeros 64 n in
    let d = (digits n c.if-n-lt9007199254740992.false c.ranges.n.fits).1 in
    subst (λ (b : ℕ). T (not (nan_bits binary64 b))) (sym (written n k c.shifted_to_even.result d c.shifted_to_even.ensures))
    (pattern_no_nan (k + 1074) (closest n (2 ^ k)) (leading_ge n k d.lo d.hi d.few) (leading_le n k d.lo d.hi d.few) (omega arith))

pub returns : goal.returns
returns c =
    let n = c.args.n in
    let k = 11 - count_leading_zeros 64 n in
    let d = (digits n c.if-n-lt9007199254740992.false c.ranges.n.fits).1 in
    ap (of_bits binary64) (written n k c.shifted_to_even.result d c.shifted_to_even.ensures) ∙ even_pattern n k d.lo d.hi d.few
