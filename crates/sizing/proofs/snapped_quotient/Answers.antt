-- A quotient by the price and then by the step is the quotient by their product.
use Rattle.std.proofs.Common.{◌≡◌, ℕ, ◌*◌, ◌/◌, sym, ap, ◌∙◌, zero-mul}
use native.Mathlib.Nat.{div-div-eq-div-mul, div-zero}
use Rattle.sums.specs.Sums.{snap}
use Rattle.sizing.proofs.snapped_quotient.Goals as goal

at_once : (n price step : ℕ) → n / (price * step) * step ≡ snap (n / price) step
unfolding snap
at_once n price step = ap (λ (x : ℕ). x * step) (sym (div-div-eq-div-mul n price step))

pub returns-then-unit-eq0 : goal.returns-then-unit-eq0
returns-then-unit-eq0 c =
    let a = c.args in
    let none : a.n / (a.price * a.step) ≡ 0 = ap (λ (x : ℕ). a.n / x) c.if-unit-eq0.true ∙ div-zero a.n in
    sym (ap (λ (x : ℕ). x * a.step) none ∙ zero-mul a.step) ∙ at_once a.n a.price a.step

pub returns-else-unit-eq0 : goal.returns-else-unit-eq0
returns-else-unit-eq0 c = at_once c.args.n c.args.price c.args.step
