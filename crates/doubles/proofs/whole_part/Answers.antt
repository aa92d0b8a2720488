-- By the exponent's field: below 1 nothing is left, from 2 ^ 63 on it is held, and in between the digits are shifted to their place.
use Rattle.doubles.proofs.Whole.{whole-none, whole_top, whole_right, whole-left}
use Rattle.doubles.proofs.whole_part.Goals as goal

pub returns-then-e-lt1023 : goal.returns-then-e-lt1023
returns-then-e-lt1023 c =
    let b = c.args.bits in
    whole-none b c.exponent-e.result c.exponent-e.ensures c.if-e-lt1023.true

pub returns-then-e-ge1086 : goal.returns-then-e-ge1086
returns-then-e-ge1086 c =
    let b = c.args.bits in
    whole_top b c.exponent-e.result c.exponent-e.ensures c.if-e-ge1086.true

pub returns-then-e-lt1075 : goal.returns-then-e-lt1075
returns-then-e-lt1075 c =
    whole_right c.args.bits c.exponent-e.result c.exponent-e.ensures c.significand-digits.result c.significand-digits.ensures c.if-e-lt1023.false c.if-e-lt1075.true

pub returns : goal.returns
returns c =
    whole-left c.args.bits c.exponent-e.result c.exponent-e.ensures c.significand-digits.result c.significand-digits.ensures c.if-e-lt1075.false c.if-e-ge1086.false
