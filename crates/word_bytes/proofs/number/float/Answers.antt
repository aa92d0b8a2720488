-- The test tells the patterns of NaN; the kit's `from_bits` takes every other.
use mathlib.Core.Path.{◌≡◌, refl, sym, ◌∙◌, subst}
use mathlib.Core.Bool.{Bool, not}
use lib.Dec.{T}
use lib.Ieee.{binary64, nan, of_bits}
use lib.Ieee.Bits.{nan_bits_is, nan_bits_above}
use borrow.Author.Tests.{lt-ltb, le-ltb}
use Rattle.word_bytes.proofs.Numbers.{is_nan_lem}
use Rattle.word_bytes.proofs.number.float.Goals as goal

pub float_from_bits-result : goal.float_from_bits-result
float_from_bits-result c = subst (λ (t : Bool). T (not t)) (sym (nan_bits_above binary64 c.args.w ∙ le-ltb _ _ c.if-w-gt9218868437227405312.false)) tt

none : of_bits binary64 0x7ff8_0000_0000_0000 ≡ nan
unfolding of_bits
none = refl

pub returns-then-w-gt9218868437227405312 : goal.returns-then-w-gt9218868437227405312
returns-then-w-gt9218868437227405312 c =
    let w = c.args.w in
    none ∙ sym (is_nan_lem (of_bits binary64 w) (sym (nan_bits_is binary64 w) ∙ nan_bits_above binary64 w ∙ lt-ltb _ _ c.if-w-gt9218868437227405312.true))
