-- The steps times the step is at most n, so its upper word is one.
use Rattle.std.proofs.Common.{◌≡◌, ℕ, ◌+◌, ◌*◌, ◌/◌, ◌^◌, ◌<◌, ◌≤◌, sym, refl, ap, ◌∙◌, subst, lt_of_le_of_lt, add-mul, mul-one, mul_right_comm, div-mul-le_self, div-one, arith}
use Rattle.sums.specs.declared.Wide.{Wide}
use Rattle.sums.specs.Sums.{snap}
use Rattle.sums.specs.Wide.{value_of, wide}
use Rattle.sums.proofs.TwoWords.{words_of, wide-value_of, value_of-wide, wide_lo_fits}
use Rattle.sums.proofs.snap_wide.Goals as goal

-- (sh, sl) the steps in n, (lh, ll) those of the lower word times the step
module _ (n step sh sl lh ll : ℕ) (e : sh * 2 ^ 64 + sl ≡ n / step) (f : lh * 2 ^ 64 + ll ≡ sl * step) where
  whole : (lh + sh * step) * 2 ^ 64 + ll ≡ n / step * step
  whole =
      let g : n / step * step ≡ sh * step * 2 ^ 64 + sl * step =
      ap (λ (x : ℕ). x * step) (sym e) ∙ add-mul (sh * 2 ^ 64) sl step ∙ ap (λ (x : ℕ). x + sl * step) (mul_right_comm sh (2 ^ 64) step) in
      omega (arith, g, f)

  upper-le : (nh nl : ℕ) → nl < 2 ^ 64 → n ≡ nh * 2 ^ 64 + nl → lh + sh * step ≤ nh
  upper-le nh nl h d = omega (arith, whole, div-mul-le_self n step)

by_one : (n step : ℕ) → step ≡ 1 → n ≡ snap n step
unfolding snap
by_one n step e = sym (ap (λ (x : ℕ). n / x * x) e ∙ mul-one (n / 1) ∙ div-one n)

pub returns-then-step-eq1 : goal.returns-then-step-eq1
returns-then-step-eq1 c =
    let l : c.args.n.lo < 2 ^ 64 = omega (arith, c.well_formed) in
    sym (wide-value_of c.args.n l) ∙ ap wide (by_one (value_of c.args.n) c.args.step c.if-step-eq1.true)

-- the two calls, as the laws above ask them
module _ (n : Wide) (step : ℕ) (steps low : Wide) (e : steps ≡ wide (value_of n / step)) (f : low ≡ wide (steps.lo * step)) where
  steps_of : steps.hi * 2 ^ 64 + steps.lo ≡ value_of n / step
  unfolding value_of
  steps_of = ap value_of e ∙ value_of-wide _

  low_of : low.hi * 2 ^ 64 + low.lo ≡ steps.lo * step
  unfolding value_of
  low_of = ap value_of f ∙ value_of-wide _

  upper_fits : n.hi < 2 ^ 64 → n.lo < 2 ^ 64 → low.hi + steps.hi * step < 2 ^ 64
  unfolding value_of
  upper_fits h l = lt_of_le_of_lt (upper-le (value_of n) step steps.hi steps.lo low.hi low.lo steps_of low_of n.hi n.lo l refl) h

  snapped : record { hi = low.hi + steps.hi * step; lo = low.lo } ≡ wide (snap (value_of n) step)
  unfolding snap
  snapped =
      let l : low.lo < 2 ^ 64 = subst (λ (w : Wide). w.lo < 2 ^ 64) (sym f) (wide_lo_fits _) in
      words_of _ _ _ l (whole (value_of n) step steps.hi steps.lo low.hi low.lo steps_of low_of)

pub overflow_mul-result : goal.overflow_mul-result
overflow_mul-result c =
    let n = c.args.n in
    let h : n.hi < 2 ^ 64 = omega (arith, c.well_formed) in
    let l : n.lo < 2 ^ 64 = omega (arith, c.well_formed) in
    omega (arith, upper_fits n c.args.step c.div_wide-steps.result c.mul_wide-low.result c.div_wide-steps.ensures c.mul_wide-low.ensures h l)

pub overflow_add-result : goal.overflow_add-result
overflow_add-result c =
    let n = c.args.n in
    let h : n.hi < 2 ^ 64 = omega (arith, c.well_formed) in
    let l : n.lo < 2 ^ 64 = omega (arith, c.well_formed) in
    record { fits = upper_fits n c.args.step c.div_wide-steps.result c.mul_wide-low.result c.div_wide-steps.ensures c.mul_wide-low.ensures h l }

pub returns : goal.returns
returns c = snapped c.args.n c.args.step c.div_wide-steps.result c.mul_wide-low.result c.div_wide-steps.ensures c.mul_wide-low.ensures
