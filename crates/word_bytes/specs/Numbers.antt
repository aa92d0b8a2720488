-- What a word stands for: a signed number, or a double. Definitions only.
use Rattle.std.specs.Prelude.{ℕ, ℤ, Float}
use Rattle.std.specs.Float.{binary64}
use Rattle.std.specs.Float.Ieee.{of_bits, to_bits}
use Rattle.std.specs.Int.{w64}
use Rattle.std.proofs.Common.{to_z, of_z}

-- Two's complement: a word from 2^63 on stands for what it is less 2^64.
abbrev pub signed_of : ℕ → ℤ
signed_of w = to_z w64 w

abbrev pub unsigned_of : ℤ → ℕ
unsigned_of n = of_z w64 n

-- IEEE 754-2019 3.4: sign, exponent and fraction of binary64. Every NaN pattern stands for the one NaN, which is written as one pattern.
abbrev pub float_of : ℕ → Float
float_of w = of_bits binary64 w

abbrev pub pattern_of : Float → ℕ
pattern_of x = to_bits binary64 x
