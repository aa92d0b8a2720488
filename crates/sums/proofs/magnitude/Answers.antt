-- The scaled product of the magnitudes, clamped.
use Rattle.std.proofs.Common.{◌≡◌, ◌*◌, ◌/◌, false, nat_abs, ap, ◌∙◌, to_z-of_z}
use Rattle.sums.specs.Sums.{clamp64, signed, notional, SCALE}
use Rattle.sums.specs.Wide.{value_of}
use Rattle.sums.proofs.Ints.{clamp_back, signed-pos}
use Rattle.sums.proofs.TwoWords.{value_of-wide}
use Rattle.sums.proofs.magnitude.Goals as goal

pub returns : goal.returns
unfolding notional
returns c =
    let q = c.args.quantity in
    let p = c.args.price in
    let mq : c.unsigned_abs.result ≡ nat_abs q = c.unsigned_abs.ensures ∙ ap nat_abs (to_z-of_z c.ranges.quantity) in
    let mp : c.unsigned_abs-2.result ≡ nat_abs p = c.unsigned_abs-2.ensures ∙ ap nat_abs (to_z-of_z c.ranges.price) in
    let n : value_of c.scaled.result ≡ nat_abs q * nat_abs p / SCALE = ap value_of c.scaled.ensures ∙ value_of-wide _ ∙ (λ i. mq i * mp i / SCALE) in
    clamp_back _ _ (c.clamped.ensures ∙ ap clamp64 (ap (signed false) n ∙ signed-pos _))
