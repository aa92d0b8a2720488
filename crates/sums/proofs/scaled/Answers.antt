-- Where the product's upper word is 0, the lower one is the product.
use Rattle.std.proofs.Common.{◌≡◌, ℕ, ◌*◌, ◌/◌, ap, ◌∙◌, zero-add, div-le_self, arith}
use Rattle.sums.specs.Sums.{SCALE}
use Rattle.sums.specs.Wide.{value_of, wide}
use Rattle.sums.proofs.TwoWords.{words_of, value_of-wide, one_word}
use Rattle.sums.proofs.scaled.Goals as goal

pub returns-then-product-eq0 : goal.returns-then-product-eq0
returns-then-product-eq0 c =
    let a = c.args in
    let w = one_word c.mul_wide-product.result (a.q * a.p) c.mul_wide-product.ensures c.if-product-eq0.true in
    let e : c.scale_word.result.quotient ≡ a.q * a.p / SCALE = c.scale_word.ensures.0 ∙ ap (λ (x : ℕ). x / SCALE) w.0 in
    words_of 0 _ _ (omega (arith, w.0, w.1, e, div-le_self (a.q * a.p) SCALE)) (zero-add _ ∙ e)

pub returns : goal.returns
returns c =
    c.scale_wide.ensures ∙ ap (λ (n : ℕ). wide (n / SCALE)) (ap value_of c.mul_wide-product.ensures ∙ value_of-wide _)
