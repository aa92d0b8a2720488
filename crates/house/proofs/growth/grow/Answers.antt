-- A part's growth goes into its place and into the product; the first that has no positive first sum ends the loop.
use Rattle.std.proofs.Common.{◌≡◌, ℕ, ◌+◌, get_or, pos, sym, refl, ap, ◌∙◌, add-one, arith, w64, to_z, of_z, rules}
use lib.Signed.{lt_z}
use lib.Ieee.{Float, binary64, of_bits, mul, add, div}
use mir.ValLaws.{to_z-of_z}
use Rattle.doubles.specs.Doubles.{of_i64}
use Rattle.metrics.specs.Double.{zero, one}
use Rattle.metrics.specs.Curve.{compounded}
use Rattle.house.specs.Group.{every, growth_of, product_to}
use Rattle.house.specs.Inner.Parts.{is_positive}
use Rattle.house.proofs.Columns.{every_on, every_no, column-first, filled_on}
use Rattle.house.proofs.growth.grow.Goals as goal

product-on : (g : ℕ → Float) (i : ℕ) (p x : Float) → p ≡ product_to i g → x ≡ g i → mul binary64 p (add binary64 one x) ≡ product_to (i + 1) g
unfolding product_to compounded
product-on g i p x e q = rw (e, q, add-one i)

pub loop-p-init : goal.loop-p-init
unfolding every product_to of_bits
loop-p-init c = record { positive = refl; product = refl; growths = c.requires.empty ∙ column-first 64 zero _ }

pub returns-then-not-positive : goal.returns-then-not-positive
returns-then-not-positive c =
    let first = get_or c.args.firsts.now c.loop-p.p (pos 0) in
    let zf : to_z w64 (of_z w64 first) ≡ first = to_z-of_z w64 first (search rules) in
    every_no c.args.m (is_positive c.args.firsts.now) c.loop-p.p c.loop-p-test.true (ap (lt_z (pos 0)) (sym zf) ∙ c.if-not-positive.true)

pub loop-p-preserved : goal.loop-p-preserved
unfolding of_bits
loop-p-preserved c =
    let l = c.loop-p in
    let first = get_or c.args.firsts.now l.p (pos 0) in
    let gain = get_or c.args.gains.now l.p (pos 0) in
    let zf : to_z w64 (of_z w64 first) ≡ first = to_z-of_z w64 first (search rules) in
    let zg : to_z w64 (of_z w64 gain) ≡ gain = to_z-of_z w64 gain (search rules) in
    let top : c.i64_to_f64.result ≡ of_i64 gain = c.i64_to_f64.ensures ∙ ap of_i64 zg in
    let below : c.i64_to_f64-in-loop-p.result ≡ of_i64 first = c.i64_to_f64-in-loop-p.ensures ∙ ap of_i64 zf in
    let growth : div binary64 c.i64_to_f64.result c.i64_to_f64-in-loop-p.result ≡ growth_of gain first = rw (top, below) in
    record {
      positive = sym (every_on (is_positive c.args.firsts.now) l.p _ _ (sym l.invariant.positive) (sym (ap (lt_z (pos 0)) (sym zf) ∙ c.if-not-positive.false)));
      product = product-on _ l.p _ _ l.invariant.product growth;
      growths = filled_on 64 zero _ l.p _ _ (omega arith) l.invariant.growths growth;
    }

pub returns : goal.returns
unfolding of_bits
returns c =
    let l = c.loop-p in
    let e : l.p ≡ c.args.m = omega (arith, c.loop-p-test.false, l.auto.p-end) in
    record {
      positive = rw (← e) l.invariant.positive;
      figure = rw (← e, l.invariant.product);
      growths = rw (← e) l.invariant.growths;
    }
