-- 2 ^ 63 more, modulo 2 ^ 64.
use Rattle.std.proofs.Common.{◌∙◌, arith, w64}
use mir.ValLaws.{to_z-of_z}
use Rattle.house.proofs.Raised.{word_lowered}
use Rattle.house.proofs.sum.lower.Goals as goal

pub returns : goal.returns
returns c =
    to_z-of_z w64 c.cast_signed.result (record { sfits = c.cast_signed.type_inv }) ∙ c.cast_signed.ensures ∙ word_lowered c.args.w (omega (arith, c.ranges.w))
