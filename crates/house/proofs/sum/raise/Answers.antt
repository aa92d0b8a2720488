-- 2 ^ 63 more, modulo 2 ^ 64.
use Rattle.std.proofs.Common.{◌≡◌, ap, ◌∙◌, w64, of_z}
use mir.ValLaws.{to_z-of_z}
use Rattle.house.proofs.Raised.{word_raised}
use Rattle.house.proofs.sum.raise.Goals as goal

pub returns : goal.returns
returns c =
    let e : c.cast_unsigned.result ≡ of_z w64 c.args.x = c.cast_unsigned.ensures ∙ ap (of_z w64) (to_z-of_z w64 c.args.x c.ranges.x) in
    rw e (word_raised c.args.x c.ranges.x)
