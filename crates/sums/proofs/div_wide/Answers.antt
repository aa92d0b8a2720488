-- Each way gives the words of the quotient: none for a divisor of 0, one where the upper word is 0.
use Rattle.std.proofs.Common.{◌≡◌, ℕ, ◌+◌, ◌*◌, ◌/◌, ◌^◌, sym, ap, ◌∙◌, div-le_self, arith}
use native.Mathlib.Nat.{div-zero}
use Rattle.sums.specs.Wide.{value_of}
use Rattle.sums.proofs.TwoWords.{words_of}
use Rattle.sums.proofs.div_wide.Goals as goal

pub returns-then-d-eq0 : goal.returns-then-d-eq0
returns-then-d-eq0 c =
    let a = c.args in
    words_of 0 0 _ (omega arith) (sym (ap (λ (x : ℕ). value_of a.n / x) c.if-d-eq0.true ∙ div-zero (value_of a.n)))

pub returns-then-n-eq0 : goal.returns-then-n-eq0
unfolding value_of
returns-then-n-eq0 c =
    let n = c.args.n in
    let e : n.hi * 2 ^ 64 + n.lo ≡ n.lo = omega (arith, c.if-n-eq0.true) in
    words_of 0 (n.lo / c.args.d) _ (omega (arith, c.well_formed, div-le_self n.lo c.args.d)) (omega (arith, ap (λ (x : ℕ). x / c.args.d) e))
