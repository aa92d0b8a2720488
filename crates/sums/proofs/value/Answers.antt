-- A value is the scaled product of the magnitudes, with the sign of the product.
use Rattle.std.proofs.Common.{◌≡◌, ◌*◌, ◌/◌, nat_abs, sym, ap, ◌∙◌, to_z-of_z, w64, to_z, of_z}
use mathlib.Core.Bool.{xor}
use lib.Signed.{non_neg}
use Rattle.sums.specs.Sums.{clamp64, signed, SCALE}
use Rattle.sums.specs.Wide.{value_of}
use Rattle.sums.proofs.Ints.{clamp_back}
use Rattle.sums.proofs.TwoWords.{value_of-wide}
use Rattle.sums.proofs.Signs.{value-signed}
use Rattle.sums.proofs.value.Goals as goal

pub returns : goal.returns
returns c =
    let q = c.args.quantity in
    let p = c.args.price in
    let rq : to_z w64 (of_z w64 q) ≡ q = to_z-of_z c.ranges.quantity in
    let rp : to_z w64 (of_z w64 p) ≡ p = to_z-of_z c.ranges.price in
    let mq : c.unsigned_abs.result ≡ nat_abs q = c.unsigned_abs.ensures ∙ ap nat_abs rq in
    let mp : c.unsigned_abs-2.result ≡ nat_abs p = c.unsigned_abs-2.ensures ∙ ap nat_abs rp in
    let n : value_of c.scaled-amount.result ≡ nat_abs q * nat_abs p / SCALE = ap value_of c.scaled-amount.ensures ∙ value_of-wide _ ∙ (λ i. mq i * mp i / SCALE) in
    let o : c.opposite.result ≡ xor (non_neg q) (non_neg p) = c.opposite.ensures ∙ (λ i. xor (non_neg (rq i)) (non_neg (rp i))) in
    clamp_back _ _ (c.clamped.ensures ∙ (λ i. clamp64 (signed (o i) (n i)))) ∙ sym (value-signed q p)
