-- The magnitude of the value in micro-units over that of the quantity, with the sign of the quotient.
use Rattle.std.proofs.Common.{◌≡◌, ◌*◌, ◌/◌, nat_abs, sym, ap, ◌∙◌, to_z-of_z, w64, to_z, of_z}
use mathlib.Core.Bool.{xor}
use lib.Signed.{non_neg}
use Rattle.sums.specs.Sums.{clamp64, signed, SCALE}
use Rattle.sums.specs.Wide.{value_of}
use Rattle.sums.proofs.Ints.{clamp_back}
use Rattle.sums.proofs.TwoWords.{value_of-wide}
use Rattle.sums.proofs.Signs.{price_at-signed}
use Rattle.sums.proofs.price_at.Goals as goal

pub returns : goal.returns
returns c =
    let v = c.args.value in
    let q = c.args.quantity in
    let rv : to_z w64 (of_z w64 v) ≡ v = to_z-of_z c.ranges.value in
    let rq : to_z w64 (of_z w64 q) ≡ q = to_z-of_z c.ranges.quantity in
    let mv : c.unsigned_abs.result ≡ nat_abs v = c.unsigned_abs.ensures ∙ ap nat_abs rv in
    let mq : c.unsigned_abs-2.result ≡ nat_abs q = c.unsigned_abs-2.ensures ∙ ap nat_abs rq in
    let t : value_of c.mul_wide-total.result ≡ nat_abs v * SCALE = ap value_of c.mul_wide-total.ensures ∙ value_of-wide _ ∙ (λ i. mv i * SCALE) in
    let n : value_of c.div_wide.result ≡ nat_abs v * SCALE / nat_abs q = ap value_of c.div_wide.ensures ∙ value_of-wide _ ∙ (λ i. t i / mq i) in
    let o : c.opposite.result ≡ xor (non_neg v) (non_neg q) = c.opposite.ensures ∙ (λ i. xor (non_neg (rv i)) (non_neg (rq i))) in
    clamp_back _ _ (c.clamped.ensures ∙ (λ i. clamp64 (signed (o i) (n i)))) ∙ sym (price_at-signed v q)
