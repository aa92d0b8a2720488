-- Commission and slippage: document 01, 'Sums' and 'Numbers that bound an account', and the ceiling of document 02, request 3.
use Rattle.std.specs.Prelude.{ℕ, Bool, true, false, cond, ◌&&◌, ◌||◌, ℤ, pos, nat_abs, Float}
use Rattle.std.specs.Int.Signed.{lt_z, le_z}
use Rattle.std.specs.Float.{fin, binary64}
use Rattle.std.specs.Float.Ieee.{add, mul, div, le}
pub use Rattle.doubles.specs.Doubles.{zero, one, ten_thousand}
use Rattle.doubles.specs.Doubles.{finite, to_i64, of_i64, of_u64, round_away}
use Rattle.position.specs.Shares.{is_zero}
use Rattle.cost_model.specs.declared.CostModel.{CostModel}

-- "the two rates and the floor travel together as one value": without a ceiling
abbrev pub model : Float → Float → ℤ → CostModel
model c s m = record { commission_bps = c; slippage_bps = s; min_commission = m; max_commission = pos 0 }

abbrev pub with_ceiling : ℤ → CostModel → CostModel
with_ceiling k m = record { commission_bps = m.commission_bps; slippage_bps = m.slippage_bps; min_commission = m.min_commission; max_commission = k }

abbrev pub free : CostModel
free = model zero zero (pos 0)

-- "Commission is round(notional × bps / 10,000), multiplied first, .."
unfoldable pub commission : Float → ℕ → ℤ
commission bps n = to_i64 (round_away (div binary64 (mul binary64 (of_u64 n) bps) ten_thousand))

-- ".. and at least `min_commission`."
unfoldable pub at_least : ℤ → ℤ → ℤ
at_least floor c = cond (lt_z c floor) floor c

-- Document 02, 3: "today's commission". The notional counts by its magnitude.
unfoldable pub uncapped : CostModel → ℤ → ℤ
uncapped m n = at_least m.min_commission (commission m.commission_bps (nat_abs n))

-- "Settings gain a ceiling, 0 meaning none": of the ceiling and a commission
unfoldable pub at_most : ℤ → ℤ → ℤ
at_most ceiling c = cond (is_zero ceiling) c (cond (lt_z ceiling c) ceiling c)

-- "`compute_cost` answers the lesser of today's commission and the ceiling"
unfoldable pub cost : CostModel → ℤ → ℤ
cost m n = at_most m.max_commission (uncapped m n)

-- a buy's sign is 1, a sale's -1
abbrev pub sign : Bool → Float
sign true = one
sign false = fin true 1 (pos 0)

-- "1 + sign × slippage / 10,000"
unfoldable pub slippage_factor : CostModel → Bool → Float
slippage_factor m buys = add binary64 one (div binary64 (mul binary64 (sign buys) m.slippage_bps) ten_thousand)

unfoldable pub slipped : Float → ℤ → ℤ
slipped factor price = to_i64 (round_away (mul binary64 (of_i64 price) factor))

-- "Effective price is round(price × (1 + sign × slippage / 10,000))."
unfoldable pub effective : CostModel → Bool → ℤ → ℤ
effective m buys price = slipped (slippage_factor m buys) price

-- "`commission_bps` .. finite and at least 0"; a zero of either sign is
unfoldable pub good_rate : Float → Bool
good_rate x = finite x && le zero x

-- Document 02, 3: "1 also when a non-zero ceiling is below `min_commission`": of floor and ceiling
unfoldable pub good_ceiling : ℤ → ℤ → Bool
good_ceiling floor ceiling = is_zero ceiling || le_z floor ceiling

-- and "`slippage_bps` from 0 to 10,000", "`min_commission` .. at least 0"
unfoldable pub good_costs : CostModel → Bool
good_costs m =
    good_rate m.commission_bps
    && (le zero m.slippage_bps
    && (le m.slippage_bps ten_thousand
    && (le_z (pos 0) m.min_commission && good_ceiling m.min_commission m.max_commission)))
