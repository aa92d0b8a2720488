-- Below a half nothing is left; from there on the digits and half a unit are shifted to their place.
use mathlib.Core.Path.{sym, subst}
use Prim.Native.Nat.{ℕ, ◌<◌}
use Rattle.doubles.proofs.Away.{nearest_none, nearest_shift}
use Rattle.doubles.proofs.nearest_whole.Goals as goal

pub returns-then-e-lt1022 : goal.returns-then-e-lt1022
returns-then-e-lt1022 c =
    let b = c.args.bits in
    nearest_none b c.exponent-e.result c.exponent-e.ensures c.if-e-lt1022.true

pub returns : goal.returns
returns c =
    let low : c.exponent-e.result < 1075 = subst (λ (x : ℕ). x < 1075) (sym c.exponent-e.ensures) c.requires in
    nearest_shift c.args.bits c.exponent-e.result c.exponent-e.ensures c.significand-digits.result c.significand-digits.ensures c.if-e-lt1022.false low
