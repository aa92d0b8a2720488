-- Two steps of long division in base 2 ^ 32.
use Rattle.std.proofs.Common.{◌^◌, ◌<◌, arith}
use Rattle.sums.specs.Wide.{value_of}
use Rattle.sums.proofs.TwoWords.{words_of}
use Rattle.sums.proofs.Division.{upper_digit, lower_digit, two_digits}
use Rattle.sums.proofs.div_digits.Goals as goal

pub returns : goal.returns
unfolding value_of
returns c =
    let n = c.args.n in
    let d = c.args.d in
    let low : n.lo < 2 ^ 64 = omega (arith, c.well_formed) in
    words_of _ _ _ (omega (arith, upper_digit n.hi n.lo d low c.requires.0, lower_digit n.hi n.lo d low c.requires.0)) (two_digits n.hi n.lo d low c.requires.0)
