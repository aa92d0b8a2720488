-- The size is rounded where it is below 2 ^ 52 and is whole from there on; the cast then holds it to the range.
use mathlib.Core.Path.{sym, ap, ◌∙◌}
use Prim.Native.Nat.{◌^◌}
use mir.Syntax.{w64}
use mir.ValLaws.{to_z-of_z}
use lib.Dec.{leb}
use lib.Ieee.{binary64, to_bits, to_signed}
use Rattle.doubles.specs.Doubles.{round_away}
use Rattle.doubles.specs.Fields.{signed_size}
use Rattle.doubles.proofs.Fields.{yes, no, nan_is, sign_of_bits, sized}
use Rattle.doubles.proofs.Away.{away-above, cast_below}
use Rattle.doubles.proofs.round_to_i64.Goals as goal

pub returns-then-is_nan : goal.returns-then-is_nan
unfolding to_signed round_away
returns-then-is_nan c = ap (λ x. to_signed 63 (round_away x)) (sym (nan_is c.args.x (sym c.is_nan.ensures.value ∙ c.if-is_nan.true)))

pub returns-then-exponent-lt1075 : goal.returns-then-exponent-lt1075
returns-then-exponent-lt1075 c =
    let x = c.args.x in
    let h = yes c.well_formed.0.1 in
    let b = to_bits binary64 x in
    to_z-of_z w64 c.signed.result (record { sfits = c.signed.type_inv }) ∙ c.signed.ensures
    ∙ (λ i. signed_size (sign_of_bits x h i) (c.nearest_whole.ensures i))
    ∙ cast_below x h (leb (2 ^ 63) b) b c.exponent.result (sized x h (no (sym c.is_nan.ensures.value ∙ c.if-is_nan.false))) c.exponent.ensures c.if-exponent-lt1075.true

pub returns : goal.returns
returns c =
    let x = c.args.x in
    let h = yes c.well_formed.0.1 in
    let b = to_bits binary64 x in
    to_z-of_z w64 c.to_i64.result (record { sfits = c.to_i64.type_inv }) ∙ c.to_i64.ensures
    ∙ ap (to_signed 63)
    (away-above x h (leb (2 ^ 63) b) b c.exponent.result (sized x h (no (sym c.is_nan.ensures.value ∙ c.if-is_nan.false))) c.exponent.ensures c.if-exponent-lt1075.false)
