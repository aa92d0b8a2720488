-- A word and what it stands for are each the other's inverse.
use mathlib.Core.Path.{◌≡◌, refl}
use mathlib.Core.Bool.{true, not}
use Prim.Native.Nat.{ℕ, ◌<◌, ◌^◌}
use native.Mathlib.Omega.{arith}
use lib.Dec.{T}
use lib.IntN.{ℤ}
use lib.Ieee.{Float, nan, inf, fin, binary64, fits, is_nan}
use lib.Ieee.Bits.{of_bits-to_bits, to_bits-of_bits, to_bits-lt}
use mir.Syntax.{w64}
use mir.Val.{SFits}
use mir.ValLaws.{of_z-to_z, to_z-of_z, of_z_fits}
use Rattle.word_bytes.specs.Numbers.{signed_of, unsigned_of, float_of, pattern_of}

pub is_nan_lem : (x : Float) → is_nan x ≡ true → x ≡ nan
unfolding is_nan
is_nan_lem nan e = refl
is_nan_lem (inf s) e = let z : ◌≡◌ {A = ℕ} 0 1 = cc in absurd (omega arith)
is_nan_lem (fin s m k) e = let z : ◌≡◌ {A = ℕ} 0 1 = cc in absurd (omega arith)

pub signed_unsigned : (n : ℤ) → SFits w64 n → signed_of (unsigned_of n) ≡ n
signed_unsigned n f = to_z-of_z w64 n f

pub unsigned_signed : (w : ℕ) → w < 2 ^ 64 → unsigned_of (signed_of w) ≡ w
unsigned_signed w h = of_z-to_z w64 w (record { fits = h })

pub unsigned_lt : (n : ℤ) → SFits w64 n → unsigned_of n < 2 ^ 64
unsigned_lt n f = (of_z_fits w64 n f).fits

-- of every double that there is, NaN too
pub float_pattern : (x : Float) → T (fits binary64 x) → float_of (pattern_of x) ≡ x
float_pattern x f = of_bits-to_bits binary64 x f

-- of every pattern that is no NaN's
pub pattern_float : (w : ℕ) → w < 2 ^ 64 → T (not (is_nan (float_of w))) → pattern_of (float_of w) ≡ w
pattern_float w h f = to_bits-of_bits binary64 w h f

pub pattern_lt : (x : Float) → T (fits binary64 x) → pattern_of x < 2 ^ 64
pattern_lt x f = to_bits-lt binary64 x f
