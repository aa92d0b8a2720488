-- The numbers before the positions: those of an account may stand, they give it back with plain zeros, and numbers that may stand are those of their account.
use mathlib.Core.Path.{◌≡◌, refl, sym, ◌∙◌, subst}
use Prim.Native.Nat.{ℕ, zero, suc, ◌<◌, ◌≤◌, ◌^◌}
use native.Mathlib.Omega.{arith}
use mathlib.Core.Bool.{Bool, true, false, not}
use mathlib.Core.List.{List, [], ◌∷◌}
use lib.Dec.{T, eqb}
use lib.ListN.{length, get_or, drop}
use lib.Seq.{take_all}
use lib.Ieee.{Float, binary64, fits, is_nan}
use borrow.Author.Tests.{le-leb, leb-true, ltb-true, not-true}
use Rattle.answer.specs.Choice.{pick}
use Rattle.table.specs.declared.table.Table.{Table}
use Rattle.account.specs.declared.account.Account.{Account}
use Rattle.account.specs.declared.account.Counters.{Counters}
use Rattle.account.specs.declared.account.Series.{Series}
use Rattle.account.specs.declared.settings.Settings.{Settings}
use Rattle.account.specs.declared.settings.TradeCap.{TradeCap}
use Rattle.account.specs.declared.settings.TradeCap.TheVariants.{Absent, AtMost}
use Rattle.account.specs.Account.{sound_account}
use Rattle.account.proofs.SoundAccounts.{account-small}
use Rattle.account_bytes.specs.Settings.{costs_of, cap_mark, cap_count, cap_of, flag_word, flag_of}
use Rattle.account_bytes.proofs.SettingsKept.{NoNan, Kept}
use Rattle.account_bytes.proofs.AccountKept.{KeptCounts, KeptAccount}
use Rattle.account_bytes.proofs.Lists.{run, run_is}
use Rattle.word_bytes.specs.Numbers.{float_of, pattern_of}
use Rattle.word_bytes.proofs.Numbers.{pattern_float, pattern_lt}
use Rattle.seven_bit.specs.Signed.{folded}
use Rattle.seven_bit.proofs.Signed.{unfolded-folded, folded-unfolded, folded_fits}
use Rattle.saved_form.specs.declared.field.Field.{Field}
use Rattle.saved_form.specs.declared.field.Kind.TheVariants.{Any, Flag, AfterMark, Pattern}
use Rattle.saved_form.specs.Fields.{newest, since, head_fields, negative_zero, allowed, follows, has_field}
use Rattle.saved_form.specs.Values.{scalars_of, rate_pattern, setting_values, counter_values, head_values, settings_of, counters_of, series_of, account_of}
use Rattle.zero_laws.specs.Zeros.{plain_zero, plain_account}
use Rattle.zero_laws.proofs.Patterns.{plain-read}
use Rattle.saved_laws.proofs.Places.{◌▸◌}
use Rattle.saved_laws.proofs.Fields.{Stands, Allowed, allowed-length}

-- ---- of an account, number by number
pub rate_allowed : (x : Float) → allowed Pattern (rate_pattern x) ≡ true
unfolding allowed rate_pattern
rate_allowed x = go (eqb (pattern_of x) negative_zero) refl
  where
    go : (t : Bool) → eqb (pattern_of x) negative_zero ≡ t → not (eqb (pick t 0 (pattern_of x)) negative_zero) ≡ true
    go true e = refl
    go false e = rw e

pub rate_small : (x : Float) → T (fits binary64 x) → rate_pattern x < 2 ^ 64
unfolding rate_pattern
rate_small x f = go (eqb (pattern_of x) negative_zero)
  where
    go : (t : Bool) → pick t 0 (pattern_of x) < 2 ^ 64
    go true = omega arith
    go false = pattern_lt x f

mark_stands : (c : TradeCap) → Stands true Flag (cap_mark c)
unfolding allowed
mark_stands Absent = (refl, omega arith)
mark_stands (AtMost n) = (refl, omega arith)

count_stands : (c : TradeCap) → cap_count c < 2 ^ 64 → Stands (has_field newest (since 1 AfterMark) (cap_mark c)) AfterMark (cap_count c)
unfolding has_field follows allowed
count_stands Absent h = refl
count_stands (AtMost n) h = (refl, h)

flag_stands : (on : Bool) → Stands true Flag (flag_word on)
unfolding allowed
flag_stands true = (refl, omega arith)
flag_stands false = (refl, omega arith)

settings-allowed : (s : Settings) (before : ℕ) (later : List ℕ) → Kept s → Allowed newest (drop 14 head_fields) (flag_word s.cash_first) later → Allowed newest (drop 1 head_fields) before (setting_values s later)
unfolding head_fields setting_values has_field follows allowed
settings-allowed s before later g o =
    (refl, folded_fits (costs_of s).min_commission g.floor)
    ▸ (refl, folded_fits s.min_order_value g.lowest)
    ▸ (refl, folded_fits s.max_order_value g.highest)
    ▸ (refl, folded_fits s.max_rebalance_notional g.notional)
    ▸ (refl, folded_fits s.quantity_step g.step)
    ▸ (rate_allowed (costs_of s).commission_bps, rate_small (costs_of s).commission_bps g.commission)
    ▸ (rate_allowed s.no_trade_band_bps, rate_small s.no_trade_band_bps g.band)
    ▸ (rate_allowed (costs_of s).slippage_bps, rate_small (costs_of s).slippage_bps g.slippage)
    ▸ mark_stands s.max_trades_per_rebalance
    ▸ count_stands s.max_trades_per_rebalance g.cap
    ▸ (refl, folded_fits (costs_of s).max_commission g.ceiling)
    ▸ flag_stands s.recording
    ▸ flag_stands s.cash_first
    ▸ o

counts_allowed : (c : Counters) (x : Series) (before n : ℕ) → KeptCounts c x → n ≤ 64 → Allowed newest (drop 14 head_fields) before (counter_values c x (n ∷ []))
unfolding head_fields counter_values has_field follows allowed
counts_allowed c x before n k h =
    (refl, k.orders)
    ▸ (refl, folded_fits c.last_rebalance_notional k.notional)
    ▸ (refl, k.trimmed)
    ▸ (refl, folded_fits c.trimmed_shortfall_cents k.shortfall)
    ▸ (refl, k.records)
    ▸ (refl, k.equities)
    ▸ (refl, k.returns)
    ▸ (refl, folded_fits x.prev_equity k.previous)
    ▸ (le-leb n 64 h, omega arith)
    ▸ omega arith

pub head_allowed : (a : Account) → sound_account a ≡ true → KeptAccount a → Allowed newest head_fields 0 (head_values (scalars_of a))
unfolding head_fields head_values has_field follows allowed
head_allowed a e k =
    (refl, folded_fits a.cash k.cash)
    ▸ settings-allowed a.settings (folded a.cash) (counter_values a.counters a.series (a.positions.count ∷ [])) k.settings
    (counts_allowed a.counters a.series (flag_word a.settings.cash_first) a.positions.count k.counts (account-small a e))

-- ---- back to the account
rate_back : (x : Float) → T (fits binary64 x) → float_of (rate_pattern x) ≡ plain_zero x
unfolding rate_pattern
rate_back x f = plain-read x f

cap_back : (c : TradeCap) → cap_of (cap_mark c) (cap_count c) ≡ c
unfolding cap_of
cap_back Absent = refl
cap_back (AtMost n) = refl

flag_back : (on : Bool) → flag_of (flag_word on) ≡ on
flag_back true = refl
flag_back false = refl

module _ (a : Account) (k : KeptAccount a) where
  pub head_back : account_of (head_values (scalars_of a)) a.positions ≡ plain_account a
  unfolding account_of settings_of counters_of series_of head_values setting_values counter_values
  head_back = simp (
    unfolded-folded,
    rate_back (costs_of a.settings).commission_bps k.settings.commission,
    rate_back (costs_of a.settings).slippage_bps k.settings.slippage,
    rate_back a.settings.no_trade_band_bps k.settings.band,
    cap_back,
    flag_back,
  )

-- ---- numbers that may stand are those of their account
-- the field at a place, after the number before it
allowed_at : (form : ℕ) (fs : List Field) (before : ℕ) (vs : List ℕ) (f : Field) (i : ℕ) → Allowed form fs before vs → i < length fs → Stands (has_field form (get_or fs i f) (get_or (before ∷ vs) i 0)) (get_or fs i f).kind (get_or vs i 0)
allowed_at form [] before vs f i o h = absurd (omega arith)
allowed_at form (g ∷ fs) before [] f i o h = absurd o
allowed_at form (g ∷ fs) before (v ∷ vs) f zero o h = o.0
allowed_at form (g ∷ fs) before (v ∷ vs) f (suc i) o h = allowed_at form fs v vs f i o.1 (omega arith)

pattern_one : (w : ℕ) → allowed Pattern w ≡ true → w < 2 ^ 64 → is_nan (float_of w) ≡ false → rate_pattern (float_of w) ≡ w
unfolding rate_pattern allowed
pattern_one w s h n =
    let p : pattern_of (float_of w) ≡ w = pattern_float w h (subst (λ (b : Bool). T (not b)) (sym n) tt) in
    rw p (rw (not-true (eqb w negative_zero) s) refl)

flag_one : (w : ℕ) → allowed Flag w ≡ true → flag_word (flag_of w) ≡ w
unfolding allowed
flag_one zero s = refl
flag_one (suc zero) s = refl
flag_one (suc (suc w)) s = absurd (omega (arith, ltb-true (suc (suc w)) 2 s))

mark_one : (m n : ℕ) → allowed Flag m ≡ true → cap_mark (cap_of m n) ≡ m
unfolding allowed cap_of
mark_one zero n s = refl
mark_one (suc zero) n s = refl
mark_one (suc (suc m)) n s = absurd (omega (arith, ltb-true (suc (suc m)) 2 s))

count-one : (m n : ℕ) → allowed Flag m ≡ true → Stands (has_field newest (since 1 AfterMark) m) AfterMark n → cap_count (cap_of m n) ≡ n
unfolding allowed cap_of has_field follows
count-one zero n s t = sym t
count-one (suc zero) n s t = refl
count-one (suc (suc m)) n s t = absurd (omega (arith, ltb-true (suc (suc m)) 2 s))

module _ (vs : List ℕ) (t : Table) (o : Allowed newest head_fields 0 vs) where
  at_place : (i : ℕ) → i < 23 → Stands (has_field newest (get_or head_fields i (since 1 Any)) (get_or (0 ∷ vs) i 0)) (get_or head_fields i (since 1 Any)).kind (get_or vs i 0)
  unfolding head_fields
  at_place i h = allowed_at newest head_fields 0 vs (since 1 Any) i o h

  pub few : get_or vs 22 0 ≤ 64
  unfolding head_fields has_field follows allowed
  few = leb-true (get_or vs 22 0) 64 (at_place 22 (omega arith)).0

  module _ (n : NoNan (settings_of vs)) (c : t.count ≡ get_or vs 22 0) where
    pub head_one : head_values (scalars_of (account_of vs t)) ≡ vs
    unfolding account_of settings_of counters_of series_of head_values setting_values counter_values head_fields has_field follows allowed
    head_one =
        let l : length vs ≡ 23 = allowed-length newest head_fields 0 vs o in
        let whole : run 23 0 vs ≡ vs = run_is 23 0 vs (omega arith) ∙ take_all 23 vs (omega arith) in
        let p6 = at_place 6 (omega arith) in
        let p7 = at_place 7 (omega arith) in
        let p8 = at_place 8 (omega arith) in
        let p9 = at_place 9 (omega arith) in
        let p10 = at_place 10 (omega arith) in
        let p12 = at_place 12 (omega arith) in
        let p13 = at_place 13 (omega arith) in
        simp (
          folded-unfolded,
          pattern_one (get_or vs 6 0) p6.0 p6.1 n.commission,
          pattern_one (get_or vs 7 0) p7.0 p7.1 n.band,
          pattern_one (get_or vs 8 0) p8.0 p8.1 n.slippage,
          mark_one (get_or vs 9 0) (get_or vs 10 0) p9.0,
          count-one (get_or vs 9 0) (get_or vs 10 0) p9.0 p10,
          flag_one (get_or vs 12 0) p12.0,
          flag_one (get_or vs 13 0) p13.0,
          c,
        ) whole
