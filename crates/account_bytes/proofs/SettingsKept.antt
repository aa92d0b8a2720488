-- Settings that are written are read back, and bytes of settings that are read are written back.
use Rattle.std.specs.Prelude.{Some}
use mathlib.Core.Path.{◌≡◌, refl, sym, ◌∙◌, ap, subst}
use mathlib.Core.Bool.{Bool, true, false, not}
use Prim.Native.Nat.{ℕ, zero, suc, ◌+◌, ◌/◌, ◌<◌, ◌^◌}
use native.Mathlib.Omega.{arith}
use mathlib.Core.List.{List, ◌∷◌, ◌++◌}
use lib.Dec.{T, eqb}
use lib.ListN.{length, get_or}
use lib.Seq.{take_all}
use lib.Ieee.{Float, nan, inf, fin, binary64, fits, is_nan, le}
use lib.Ieee.Scale.{finite}
use mir.Syntax.{w64}
use mir.Val.{SFits}
use borrow.Author.Tests.{eq-eqb, ne_eqb, eqb-true, ltb-true}
use Rattle.table.proofs.Keyed.{both_true}
use Rattle.account.specs.declared.settings.Settings.{Settings}
use Rattle.account.specs.declared.settings.TradeCap.{TradeCap}
use Rattle.account.specs.declared.settings.TradeCap.TheVariants.{Absent, AtMost}
use Rattle.account.specs.Settings.{good_band, good_settings}
use Rattle.account.proofs.Changes.{rules_costs, good_parts as good-settings}
use Rattle.cost_model.specs.Costs as Costs
use Rattle.cost_model.specs.Costs.{good_rate}
use Rattle.cost_model.proofs.Costs.{good_parts as good-costs}
use Rattle.word_bytes.specs.Words.{words_in, words_of, bytes_of}
use Rattle.word_bytes.specs.Numbers.{signed_of, unsigned_of, float_of, pattern_of}
use Rattle.word_bytes.proofs.Words.{Words, Octets, length-words, words-bytes, length-bytes, words_fit, bytes-words}
use Rattle.word_bytes.proofs.Numbers.{signed_unsigned, unsigned_signed, unsigned_lt, float_pattern, pattern_float, pattern_lt}
use Rattle.account_bytes.specs.Sizes.{settings_size, settings_length, commission_at, slippage_at, band_at, cap_mark_at, cap_count_at, recording_at, cash_first_at, cover_rule_at, long_only_at}
use Rattle.account_bytes.specs.Settings.{flag_word, flag_of, is_flag, is_number, cap_mark, cap_count, cap_of, is_cap, costs_of, settings_words, settings_at, are_rates, are_flags, spare_settings, are_settings, given_settings, hold_settings, read_settings, written_settings}
use Rattle.account_bytes.proofs.Writing.{length-settings}
use Rattle.account_bytes.proofs.Lists.{run, run_is, word_lt}

-- ---- what settings are kept: those whose rates are no NaN. The rest holds of every value of a program.
pub record NoNan (s : Settings) : Type 0 where
  pub commission : is_nan (costs_of s).commission_bps ≡ false
  pub slippage : is_nan (costs_of s).slippage_bps ≡ false
  pub band : is_nan s.no_trade_band_bps ≡ false

pub record Kept (s : Settings) : Type 0 where
  pub rates : NoNan s
  pub commission : T (fits binary64 (costs_of s).commission_bps)
  pub slippage : T (fits binary64 (costs_of s).slippage_bps)
  pub floor : SFits w64 (costs_of s).min_commission
  pub ceiling : SFits w64 (costs_of s).max_commission
  pub step : SFits w64 s.quantity_step
  pub lowest : SFits w64 s.min_order_value
  pub highest : SFits w64 s.max_order_value
  pub band : T (fits binary64 s.no_trade_band_bps)
  pub cap : cap_count s.max_trades_per_rebalance < 2 ^ 64
  pub notional : SFits w64 s.max_rebalance_notional

-- Good settings have no NaN, so those of a sound account are kept.
finite_number : (x : Float) → T (finite x) → is_nan x ≡ false
unfolding is_nan
finite_number nan h = absurd h
finite_number (inf s) h = refl
finite_number (fin s m e) h = refl

above-number : (x : Float) → T (le Costs.zero x) → is_nan x ≡ false
unfolding is_nan le
above-number nan h = absurd h
above-number (inf s) h = refl
above-number (fin s m e) h = refl

band-number : (x : Float) → good_band x ≡ true → is_nan x ≡ false
unfolding is_nan good_rate
band-number nan e = sym e
band-number (inf s) e = refl
band-number (fin s m k) e = refl

pub good-rates : (s : Settings) → good_settings s ≡ true → NoNan s
good-rates s e =
    let g = good-settings s e in
    let c = good-costs (costs_of s) (rules_costs s.rules g.rules) in
    record {
      commission = finite_number (costs_of s).commission_bps c.finite_rate;
      slippage = above-number (costs_of s).slippage_bps c.slippage_low;
      band = band-number s.no_trade_band_bps g.band;
    }

-- ---- word by word
flag_back : (on : Bool) → flag_of (flag_word on) ≡ on
flag_back true = refl
flag_back false = refl

is_flag_lem : (on : Bool) → is_flag (flag_word on) ≡ true
is_flag_lem true = refl
is_flag_lem false = refl

flag_lt : (on : Bool) → flag_word on < 2 ^ 64
flag_lt true = omega arith
flag_lt false = omega arith

cap_back : (c : TradeCap) → cap_of (cap_mark c) (cap_count c) ≡ c
unfolding cap_of
cap_back Absent = refl
cap_back (AtMost n) = refl

is_cap_lem : (c : TradeCap) → is_cap (cap_mark c) (cap_count c) ≡ true
unfolding is_cap
is_cap_lem Absent = refl
is_cap_lem (AtMost n) = refl

mark_lt : (c : TradeCap) → cap_mark c < 2 ^ 64
mark_lt Absent = omega arith
mark_lt (AtMost n) = omega arith

is_rate : (x : Float) → T (fits binary64 x) → is_nan x ≡ false → is_number (pattern_of x) ≡ true
is_rate x f n = ap (λ (y : Float). not (is_nan y)) (float_pattern x f) ∙ ap not n

word_of_flag : (w : ℕ) → is_flag w ≡ true → flag_word (flag_of w) ≡ w
word_of_flag zero e = refl
word_of_flag (suc zero) e = refl
word_of_flag (suc (suc n)) e = absurd (omega (arith, ltb-true (suc (suc n)) 2 e))

mark_of_cap : (m n : ℕ) → is_cap m n ≡ true → cap_mark (cap_of m n) ≡ m
unfolding is_cap cap_of
mark_of_cap zero n e = refl
mark_of_cap (suc m) n e =
    let z : eqb (suc m) 0 ≡ false = ne_eqb (suc m) 0 (λ q. omega arith) in
    simp z (sym (eqb-true (suc m) 1 (simp z at e)))

count_of_cap : (m n : ℕ) → is_cap m n ≡ true → cap_count (cap_of m n) ≡ n
unfolding is_cap cap_of
count_of_cap zero n e = sym (eqb-true n 0 e)
count_of_cap (suc m) n e = simp (ne_eqb (suc m) 0 (λ q. omega arith))

pattern_back : (w : ℕ) → w < 2 ^ 64 → is_number w ≡ true → pattern_of (float_of w) ≡ w
pattern_back w h e = pattern_float w h (subst T (sym e) tt)

-- ---- the words of settings, a line a word
pub settings_back : (s : Settings) → Kept s → settings_at 0 (settings_words s) ≡ s
unfolding settings_at settings_words
settings_back s k =
    simp (
      float_pattern (costs_of s).commission_bps k.commission,
      float_pattern (costs_of s).slippage_bps k.slippage,
      signed_unsigned (costs_of s).min_commission k.floor,
      signed_unsigned s.quantity_step k.step,
      signed_unsigned s.min_order_value k.lowest,
      signed_unsigned s.max_order_value k.highest,
      float_pattern s.no_trade_band_bps k.band,
      cap_back s.max_trades_per_rebalance,
      signed_unsigned s.max_rebalance_notional k.notional,
      flag_back s.recording,
      flag_back s.cash_first,
      signed_unsigned (costs_of s).max_commission k.ceiling,
    )

pub are_back : (s : Settings) → Kept s → are_settings 0 (settings_words s) ≡ true
unfolding are_settings settings_words
are_back s k =
    simp (
      is_rate (costs_of s).commission_bps k.commission k.rates.commission,
      is_rate (costs_of s).slippage_bps k.slippage k.rates.slippage,
      is_rate s.no_trade_band_bps k.band k.rates.band,
      is_cap_lem s.max_trades_per_rebalance,
      is_flag_lem s.recording,
      is_flag_lem s.cash_first,
    )

pub settings_fit : (s : Settings) → Kept s → Words (settings_words s)
unfolding settings_words
settings_fit s k =
    omega (
      arith,
      pattern_lt (costs_of s).commission_bps k.commission,
      pattern_lt (costs_of s).slippage_bps k.slippage,
      unsigned_lt (costs_of s).min_commission k.floor,
      unsigned_lt s.quantity_step k.step,
      unsigned_lt s.min_order_value k.lowest,
      unsigned_lt s.max_order_value k.highest,
      pattern_lt s.no_trade_band_bps k.band,
      mark_lt s.max_trades_per_rebalance,
      k.cap,
      unsigned_lt s.max_rebalance_notional k.notional,
      flag_lt s.recording,
      flag_lt s.cash_first,
      unsigned_lt (costs_of s).max_commission k.ceiling,
    )

-- the same words where the settings come after another word
pub settings-after : (w : ℕ) (s : Settings) (l : List ℕ) → settings_at 1 (w ∷ (settings_words s ++ l)) ≡ settings_at 0 (settings_words s)
unfolding settings_at settings_words
settings-after w s l = refl

pub are_after : (w : ℕ) (s : Settings) (l : List ℕ) → are_settings 1 (w ∷ (settings_words s ++ l)) ≡ are_settings 0 (settings_words s)
unfolding are_settings settings_words
are_after w s l = refl

-- what the test says, kind by kind
record Rates (from : ℕ) (ws : List ℕ) : Type 0 where
  commission : is_number (get_or ws (from + commission_at) 0) ≡ true
  slippage : is_number (get_or ws (from + slippage_at) 0) ≡ true
  band : is_number (get_or ws (from + band_at) 0) ≡ true

rates : (from : ℕ) (ws : List ℕ) → are_rates from ws ≡ true → Rates from ws
rates from ws e =
    let a = both_true _ _ e in
    let b = both_true _ _ a.1 in
    record { commission = a.0; slippage = b.0; band = b.1 }

record Flags (from : ℕ) (ws : List ℕ) : Type 0 where
  recording : is_flag (get_or ws (from + recording_at) 0) ≡ true
  first : is_flag (get_or ws (from + cash_first_at) 0) ≡ true

flags : (from : ℕ) (ws : List ℕ) → are_flags from ws ≡ true → Flags from ws
flags from ws e = let a = both_true _ _ e in record { recording = a.0; first = a.1 }

record Spare (from : ℕ) (ws : List ℕ) : Type 0 where
  cover : get_or ws (from + cover_rule_at) 0 ≡ 0
  long-only : get_or ws (from + long_only_at) 0 ≡ 0

spare : (from : ℕ) (ws : List ℕ) → spare_settings from ws ≡ true → Spare from ws
spare from ws e =
    let a = both_true _ _ e in
    record { cover = eqb-true _ 0 a.0; long-only = eqb-true _ 0 a.1 }

record Tested (from : ℕ) (ws : List ℕ) : Type 0 where
  rate : Rates from ws
  cap : is_cap (get_or ws (from + cap_mark_at) 0) (get_or ws (from + cap_count_at) 0) ≡ true
  flag : Flags from ws
  none : Spare from ws

tested : (from : ℕ) (ws : List ℕ) → are_settings from ws ≡ true → Tested from ws
unfolding are_settings
tested from ws e =
    let a = both_true _ _ e in
    let b = both_true _ _ a.1 in
    let c = both_true _ _ b.1 in
    record { rate = rates from ws a.0; cap = b.0; flag = flags from ws c.0; none = spare from ws c.1 }

-- an amount takes any word
amount : (from : ℕ) (ws : List ℕ) → Words ws → (i : ℕ) → unsigned_of (signed_of (get_or ws (from + i) 0)) ≡ get_or ws (from + i) 0
amount from ws o i = unsigned_signed (get_or ws (from + i) 0) (word_lt ws (from + i) o)

rate_back : (from : ℕ) (ws : List ℕ) → Words ws → (i : ℕ) → is_number (get_or ws (from + i) 0) ≡ true → pattern_of (float_of (get_or ws (from + i) 0)) ≡ get_or ws (from + i) 0
rate_back from ws o i e = pattern_back (get_or ws (from + i) 0) (word_lt ws (from + i) o) e

pub words_back : (from : ℕ) (ws : List ℕ) → Words ws → are_settings from ws ≡ true → settings_words (settings_at from ws) ≡ run settings_size from ws
unfolding settings_words settings_at
words_back from ws o e =
    let t = tested from ws e in
    simp (
      amount from ws o,
      rate_back from ws o commission_at t.rate.commission,
      rate_back from ws o slippage_at t.rate.slippage,
      rate_back from ws o band_at t.rate.band,
      mark_of_cap (get_or ws (from + cap_mark_at) 0) (get_or ws (from + cap_count_at) 0) t.cap,
      count_of_cap (get_or ws (from + cap_mark_at) 0) (get_or ws (from + cap_count_at) 0) t.cap,
      word_of_flag (get_or ws (from + recording_at) 0) t.flag.recording,
      word_of_flag (get_or ws (from + cash_first_at) 0) t.flag.first,
      t.none.cover,
      t.none.long-only,
    )

-- ---- bytes
-- Settings that are written are read back as they were.
pub settings-read_back : (s : Settings) → Kept s → (l : List ℕ) → length l ≡ settings_length → read_settings (written_settings s l) ≡ Some s
unfolding read_settings hold_settings written_settings
settings-read_back s k l n =
    let w : words_of (bytes_of (settings_words s)) ≡ settings_words s = words-bytes (settings_words s) (settings_fit s k) in
    let m : length (bytes_of (settings_words s)) ≡ settings_length = length-bytes (settings_words s) ∙ omega (arith, length-settings s) in
    simp (eq-eqb (length l) settings_length n) (simp (eq-eqb (length (bytes_of (settings_words s))) settings_length m, w, are_back s k, settings_back s k))

-- Bytes that hold settings, read and written, are as they were.
pub settings-written_back : (l : List ℕ) → Octets l → hold_settings l ≡ true → (m : List ℕ) → length m ≡ settings_length → written_settings (given_settings l) m ≡ l
unfolding given_settings hold_settings written_settings
settings-written_back l o g m k =
    let ws : List ℕ = words_of l in
    let b = both_true _ _ g in
    let n : length l ≡ settings_length = eqb-true (length l) settings_length b.0 in
    let z : length l / 8 ≡ settings_size = omega arith in
    let f : Words ws = words_fit (length l / 8) l o (omega arith) in
    let c : length ws ≡ settings_size = length-words (length l / 8) l ∙ z in
    let w : settings_words (settings_at 0 ws) ≡ ws = words_back 0 ws f b.1 ∙ run_is settings_size 0 ws (omega arith) ∙ take_all settings_size ws (omega arith) in
    simp (eq-eqb (length m) settings_length k, eq-eqb (length l) settings_length n, b.1) (ap bytes_of w ∙ ap (λ (i : ℕ). bytes_of (words_in i l)) z ∙ bytes-words settings_size l o n)
