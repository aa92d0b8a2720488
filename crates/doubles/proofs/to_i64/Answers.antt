-- The fields of a double that is no NaN give its sign and its size; the size, cut and held to the range, is the cast.
use mathlib.Core.Path.{sym, ap, ◌∙◌}
use Prim.Native.Nat.{◌^◌}
use mir.Syntax.{w64}
use mir.ValLaws.{to_z-of_z}
use lib.Dec.{leb}
use lib.Ieee.{binary64, to_bits, to_signed}
use Rattle.doubles.specs.Fields.{signed_size}
use Rattle.doubles.proofs.Fields.{yes, no, nan_is, sign_of_bits, sized}
use Rattle.doubles.proofs.Whole.{cast_whole}
use Rattle.doubles.proofs.to_i64.Goals as goal

pub returns-then-is_nan : goal.returns-then-is_nan
unfolding to_signed
returns-then-is_nan c = ap (to_signed 63) (sym (nan_is c.args.x (sym c.is_nan.ensures.value ∙ c.if-is_nan.true)))

pub returns : goal.returns
returns c =
    let x = c.args.x in
    let h = yes c.well_formed.0.1 in
    let b = to_bits binary64 x in
    to_z-of_z w64 c.signed.result (record { sfits = c.signed.type_inv }) ∙ c.signed.ensures
    ∙ (λ i. signed_size (sign_of_bits x h i) (c.whole_part.ensures i))
    ∙ cast_whole x (leb (2 ^ 63) b) b (sized x h (no (sym c.is_nan.ensures.value ∙ c.if-is_nan.false)))
