-- Settings as words and as bytes. Definitions only.
use Rattle.std.specs.Prelude.{ℕ, ◌+◌, Bool, cond, not, List, [], ◌∷◌, ◌++◌, eqb, ltb, length, get_or, Option, Some, None}
use Rattle.std.specs.Float.Ieee.{is_nan}
use Rattle.word_bytes.specs.Words.{words_of, bytes_of}
use Rattle.word_bytes.specs.Numbers.{signed_of, unsigned_of, float_of, pattern_of}
use Rattle.table.specs.Keyed.{pick, both}
use Rattle.cost_model.specs.declared.CostModel.{CostModel}
use Rattle.cost_model.specs.Costs.{model, with_ceiling}
use Rattle.account.specs.declared.settings.Rules.{Rules}
use Rattle.account.specs.declared.settings.Settings.{Settings}
use Rattle.account.specs.declared.settings.TradeCap.{TradeCap}
use Rattle.account.specs.declared.settings.TradeCap.TheVariants.{Absent, AtMost}
use Rattle.account.specs.Settings.{settings, zero_settings}
use Rattle.account_bytes.specs.Sizes.{settings_length, commission_at, slippage_at, min_commission_at, step_at, min_order_at, max_order_at, band_at, cap_mark_at, cap_count_at, max_notional_at, recording_at, cash_first_at, max_commission_at, cover_rule_at, long_only_at}

-- ---- marks: 1 for yes, 0 for no
abbrev pub flag_word : Bool → ℕ
flag_word on = cond on 1 0

abbrev pub flag_of : ℕ → Bool
flag_of w = eqb w 1

abbrev pub is_flag : ℕ → Bool
is_flag w = ltb w 2

-- no NaN
abbrev pub is_number : ℕ → Bool
is_number w = not (is_nan (float_of w))

-- a word that stands for nothing
abbrev pub is_spare : ℕ → Bool
is_spare w = eqb w 0

-- ---- the trade cap: a mark, and the count, 0 where absent
abbrev pub cap_mark : TradeCap → ℕ
cap_mark Absent = 0
cap_mark (AtMost n) = 1

abbrev pub cap_count : TradeCap → ℕ
cap_count Absent = 0
cap_count (AtMost n) = n

unfoldable pub cap_of : ℕ → ℕ → TradeCap
cap_of mark n = pick (eqb mark 0) Absent (AtMost n)

unfoldable pub is_cap : ℕ → ℕ → Bool
is_cap mark n = pick (eqb mark 0) (eqb n 0) (eqb mark 1)

-- ---- costs: "the two rates and the floor travel together as one value", and the ceiling with them, whose word stands behind the other settings
abbrev pub costs_of : Settings → CostModel
costs_of s = s.rules.cost_model

abbrev pub cost_words : CostModel → List ℕ
cost_words m = pattern_of m.commission_bps ∷ pattern_of m.slippage_bps ∷ unsigned_of m.min_commission ∷ []

abbrev pub costs_at : ℕ → List ℕ → CostModel
costs_at from ws =
    with_ceiling (signed_of (get_or ws (from + max_commission_at) 0))
    (model (float_of (get_or ws (from + commission_at) 0)) (float_of (get_or ws (from + slippage_at) 0)) (signed_of (get_or ws (from + min_commission_at) 0)))

-- what is chosen at opening
abbrev pub rules_at : ℕ → List ℕ → Rules
rules_at from ws = record { cost_model = costs_at from ws }

-- ---- settings
unfoldable pub settings_words : Settings → List ℕ
settings_words s =
    cost_words (costs_of s)
    ++ (unsigned_of s.quantity_step
    ∷ unsigned_of s.min_order_value
    ∷ unsigned_of s.max_order_value
    ∷ pattern_of s.no_trade_band_bps
    ∷ cap_mark s.max_trades_per_rebalance
    ∷ cap_count s.max_trades_per_rebalance
    ∷ unsigned_of s.max_rebalance_notional
    ∷ flag_word s.recording
    ∷ flag_word s.cash_first
    ∷ unsigned_of (costs_of s).max_commission
    ∷ 0
    ∷ 0
    ∷ [])

-- the settings of the words from a place on
unfoldable pub settings_at : ℕ → List ℕ → Settings
settings_at from ws =
    settings
    (rules_at from ws)
    (signed_of (get_or ws (from + step_at) 0))
    (signed_of (get_or ws (from + min_order_at) 0))
    (signed_of (get_or ws (from + max_order_at) 0))
    (float_of (get_or ws (from + band_at) 0))
    (cap_of (get_or ws (from + cap_mark_at) 0) (get_or ws (from + cap_count_at) 0))
    (signed_of (get_or ws (from + max_notional_at) 0))
    (flag_of (get_or ws (from + recording_at) 0))
    (flag_of (get_or ws (from + cash_first_at) 0))

-- ---- whether words are words of settings, kind by kind
abbrev pub are_rates : ℕ → List ℕ → Bool
are_rates from ws =
    both (is_number (get_or ws (from + commission_at) 0))
    (both (is_number (get_or ws (from + slippage_at) 0))
    (is_number (get_or ws (from + band_at) 0)))

abbrev pub are_flags : ℕ → List ℕ → Bool
are_flags from ws =
    both (is_flag (get_or ws (from + recording_at) 0))
    (is_flag (get_or ws (from + cash_first_at) 0))

abbrev pub spare_settings : ℕ → List ℕ → Bool
spare_settings from ws =
    both (is_spare (get_or ws (from + cover_rule_at) 0))
    (is_spare (get_or ws (from + long_only_at) 0))

-- No rate a NaN, the count of an absent cap 0, marks and flags 0 or 1, and 0 where no setting stands. So no two runs of words hold the same settings.
unfoldable pub are_settings : ℕ → List ℕ → Bool
are_settings from ws =
    both (are_rates from ws)
    (both (is_cap (get_or ws (from + cap_mark_at) 0) (get_or ws (from + cap_count_at) 0))
    (both (are_flags from ws)
    (spare_settings from ws)))

-- ---- bytes
unfoldable pub hold_settings : List ℕ → Bool
hold_settings l = both (eqb (length l) settings_length) (are_settings 0 (words_of l))

-- none where they hold none
unfoldable pub read_settings : List ℕ → Option Settings
read_settings l = pick (hold_settings l) (Some (settings_at 0 (words_of l))) None

-- all zeros, which are no good settings, where the bytes hold none
unfoldable pub given_settings : List ℕ → Settings
given_settings l = pick (hold_settings l) (settings_at 0 (words_of l)) zero_settings

-- as found where the length is another
unfoldable pub written_settings : Settings → List ℕ → List ℕ
written_settings s l = pick (eqb (length l) settings_length) (bytes_of (settings_words s)) l
