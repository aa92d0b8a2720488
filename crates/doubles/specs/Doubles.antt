-- Doubles that other definitions name, and what the casts, the rounding and the tests of binary64 give. Definitions only. A double is lib.Ieee's `Float`: `nan`, an infinity, or m * 2 ^ e with its sign.
use Rattle.std.specs.Prelude.{Bool, true, false, ◌&&◌, List, [], ◌∷◌, ℕ, ◌+◌, ◌*◌, ◌/◌, ℤ, pos, negsuc, Float}
use Rattle.std.specs.Float.{nan, inf, fin, binary64}
use Rattle.std.specs.Float.Ieee.{up, down, round, of_int, to_signed}
use Rattle.std.specs.Float.Ieee.Scale as Scale

abbrev pub zero : Float
zero = fin false 0 (pos 0)

abbrev pub one : Float
one = fin false 1 (pos 0)

-- 625 times 2 ^ 4
abbrev pub ten_thousand : Float
ten_thousand = fin false 625 (pos 4)

-- IEEE 754-2019 5.7.2, isFinite: "zero, subnormal or normal (not infinite or NaN)".
abbrev pub finite : Float → Bool
finite x = Scale.finite x

-- no member is an infinity or a NaN
unfoldable pub all_finite : List Float → Bool
all_finite [] = true
all_finite (x ∷ xs) = finite x && all_finite xs

-- Document 01: "f64 to i64 truncates, saturates, and gives 0 for NaN." Rust Reference, Numeric cast, and IEEE 754-2019 5.8 for the values in
-- range: toward zero; beyond the range, infinities included, to the nearer end; a NaN to 0.
abbrev pub to_i64 : Float → ℤ
to_i64 x = to_signed 63 x

-- Document 01: "i64 to f64 rounds to nearest, ties to even, u64 likewise." IEEE 754-2019 5.4.1, convertFromInt, by 4.3.1, roundTiesToEven.
abbrev pub of_i64 : ℤ → Float
of_i64 z = of_int binary64 z

abbrev pub of_u64 : ℕ → Float
of_u64 n = of_int binary64 (pos n)

-- The whole number nearest to m * 2 ^ e, the upper one at a tie: m * 2 ^ e + 1 / 2, cut.
abbrev pub near_whole : ℕ → ℤ → ℕ
near_whole m e = (2 * (m * up e) + down e) / (2 * down e)

-- Document 01: "`round` takes halves away from zero." IEEE 754-2019 5.9, roundToIntegralTiesToAway: a zero result has the operand's sign, and
-- a whole number, an infinity and a NaN are as they were.
unfoldable pub round_away : Float → Float
unfolding round
round_away nan = nan
round_away (inf s) = inf s
round_away (fin s m (pos k)) = fin s m (pos k)
round_away (fin s m (negsuc k)) = round binary64 s (near_whole m (negsuc k)) 1
