-- The upper word and the lower one of the number that they stand for.
use Rattle.std.proofs.Common.{◌≡◌, ◌/◌, ◌%◌, ◌^◌, ◌<◌, Bool, true, false, cond, Some, None, ℤ, refl, ◌∙◌, arith, w64, to_z, of_z}
use mir.ValLaws.{to_z-of_z}
use Rattle.std.specs.Bool.{then_some}
use Rattle.sums.specs.Wide.{value_of}
use Rattle.house.specs.Inner.Raised.{ended, lowered}
use Rattle.house.proofs.sum.finish.Goals as goal

as_cond : (b : Bool) (z : ℤ) → then_some b z ≡ cond b (Some z) None
as_cond true z = refl
as_cond false z = refl

pub returns : goal.returns
unfolding ended value_of
returns c =
    let l : c.args.w.lo < 2 ^ 64 = omega (arith, c.well_formed) in
    let hi : value_of c.args.w / 2 ^ 64 ≡ c.args.w.hi = omega arith in
    let lo : value_of c.args.w % 2 ^ 64 ≡ c.args.w.lo = omega arith in
    let v : to_z w64 (of_z w64 c.lower.result) ≡ lowered c.args.w.lo = to_z-of_z w64 c.lower.result (record { sfits = c.lower.type_inv }) ∙ c.lower.ensures in
    c.then_some.ensures ∙ as_cond _ _ ∙ rw (hi, lo, v)
