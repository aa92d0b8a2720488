-- Only a NaN differs from itself.
use mathlib.Core.Path.{◌≡◌, refl, sym, ◌∙◌, ap}
use Prim.Native.Nat.{ℕ}
use lib.Ieee.{binary64, nan, to_bits}
use Rattle.word_bytes.proofs.Numbers.{is_nan_lem}
use Rattle.word_bytes.proofs.number.pattern.Goals as goal

none : ◌≡◌ {A = ℕ} 0x7ff8_0000_0000_0000 (to_bits binary64 nan)
unfolding to_bits
none = refl

pub returns-then-is_nan : goal.returns-then-is_nan
returns-then-is_nan c = none ∙ ap (to_bits binary64) (sym (is_nan_lem c.args.x (sym c.is_nan.ensures.value ∙ c.if-is_nan.true)))
