-- How long a file can be: "at most ten groups" a number, nine where it is the pattern of a rate, one where it is a mark, a flag or a count of at most 64.
use mathlib.Core.Path.{◌≡◌, refl, sym, subst}
use Prim.Native.Nat.{ℕ, zero, suc, ◌+◌, ◌*◌, ◌/◌, ◌%◌, ◌<◌, ◌≤◌, ◌^◌}
use native.Mathlib.Omega.{arith}
use native.Mathlib.Nat.{mul-pos}
use mathlib.Core.Bool.{Bool, true, false}
use mathlib.Core.List.{List, [], ◌∷◌, ◌++◌, map}
use lib.Dec.{T, eqb, ltb}
use lib.IntN.{ℤ, pos}
use lib.ListN.{length, length-append}
use lib.Ieee.{Float, nan, inf, fin, binary64, up, le, fits, to_bits}
use lib.Ieee.Fits.{up_pos}
use borrow.Author.Tests.{ltb-false}
use Rattle.answer.specs.Choice.{pick}
use Rattle.answer.proofs.Choice.{both_true}
use Rattle.doubles.specs.Doubles as Doubles
use Rattle.doubles.proofs.Order.{le-fin→}
use Rattle.position.specs.declared.position.Position.{Position}
use Rattle.position.specs.Rows.{key_of, numbers_of}
use Rattle.cost_model.specs.Costs.{good_rate}
use Rattle.cost_model.proofs.Costs.{good_parts as good-costs}
use Rattle.account.specs.declared.account.Account.{Account}
use Rattle.account.specs.declared.settings.TradeCap.{TradeCap}
use Rattle.account.specs.declared.settings.TradeCap.TheVariants.{Absent, AtMost}
use Rattle.account.specs.Account.{held_in, sound_account}
use Rattle.account.proofs.Changes.{good_parts as good-settings}
use Rattle.account.proofs.SoundAccounts.{account-small, account-settings, account-costs}
use Rattle.account_bytes.specs.Settings.{costs_of, cap_mark, flag_word}
use Rattle.account_bytes.proofs.AccountKept.{KeptAccount}
use Rattle.word_bytes.specs.Numbers.{pattern_of}
use Rattle.word_bytes.proofs.Numbers.{pattern_lt}
use Rattle.seven_bit.specs.Groups.{write, groups}
use Rattle.seven_bit.specs.Signed.{folded}
use Rattle.seven_bit.proofs.Groups.{write-few}
use Rattle.saved_form.specs.declared.field.Field.{Field}
use Rattle.saved_form.specs.Fields.{newest, head_fields, position_fields, negative_zero, has_field}
use Rattle.saved_form.specs.Texts.{text_of, symbol_file}
use Rattle.saved_form.specs.Values.{scalars_of, rate_pattern, setting_values, counter_values, head_values}
use Rattle.saved_form.specs.Writing.{field_file, fields_file, position_file, positions_file, file_of}
use Rattle.saved_laws.specs.Statement.{longest}
use Rattle.saved_laws.proofs.Places.{◌▸◌}
use Rattle.saved_laws.proofs.Texts.{Text}
use Rattle.zero_laws.proofs.Patterns.{plain_pattern}
use Rattle.zero_laws.specs.Zeros.{plain_zero}
use Rattle.saved_laws.proofs.Positions.{Fit, Fits}
use Rattle.saved_laws.proofs.Files.{rows-count, rows_fit}

-- ---- how many groups
-- the numbers of at most m groups after the first
abbrev below : ℕ → ℕ
below zero = 128
below (suc m) = 128 * below m

at_most_by : (k m n : ℕ) (t : Bool) → ltb n 128 ≡ t → n < below m → ((m : ℕ) → n / 128 < below m → length (write k (n / 128)) ≤ m + 1) → length (pick t (n ∷ []) ((128 + n % 128) ∷ write k (n / 128))) ≤ m + 1
at_most_by k m n true e h f = omega arith
at_most_by k zero n false e h f = absurd (omega (arith, ltb-false n 128 e))
at_most_by k (suc m) n false e h f = omega (arith, f m (omega arith))

at_most : (k m n : ℕ) → n < below m → length (write k n) ≤ m + 1
unfolding write
at_most zero m n h = omega arith
at_most (suc k) m n h = at_most_by k m n (ltb n 128) refl h (λ i g. at_most k i (n / 128) g)

ten : (n : ℕ) → length (groups n) ≤ 10
ten n = write-few 9 n

nine : (n : ℕ) → n < 2 ^ 63 → length (groups n) ≤ 9
nine n h = at_most 9 8 n (omega arith)

one : (n : ℕ) → n < 128 → length (groups n) ≤ 1
one n h = at_most 9 0 n h

mark_one : (c : TradeCap) → length (groups (cap_mark c)) ≤ 1
mark_one Absent = one 0 (omega arith)
mark_one (AtMost n) = one 1 (omega arith)

flag_one : (on : Bool) → length (groups (flag_word on)) ≤ 1
flag_one true = one 1 (omega arith)
flag_one false = one 0 (omega arith)

-- ---- the pattern of a rate that is not below 0 has its top bit clear, once its zeros are plain
either_sign : (m : ℕ) (e : ℤ) → T (fits binary64 (fin false m e)) → T (fits binary64 (fin true m e))
unfolding fits
either_sign zero e f = f
either_sign (suc m) e f = f

sign_bit : (m : ℕ) (e : ℤ) → pattern_of (fin true m e) ≡ 2 ^ 63 + pattern_of (fin false m e)
unfolding to_bits
sign_bit m e = omega arith

positive-low : (m : ℕ) (e : ℤ) → T (fits binary64 (fin false m e)) → pattern_of (fin false m e) < 2 ^ 63
positive-low m e f = omega (arith, sign_bit m e, pattern_lt (fin true m e) (either_sign m e f))

picked_low : (n : ℕ) (t : Bool) → n < 2 ^ 63 → pick t 0 n < 2 ^ 63
picked_low n true h = omega arith
picked_low n false h = h

rate_low : (x : Float) → T (fits binary64 x) → T (le Doubles.zero x) → rate_pattern x < 2 ^ 63
unfolding rate_pattern
rate_low nan f h = unfold le in absurd h
rate_low (inf true) f h = unfold le in absurd h
rate_low (inf false) f h = picked_low (pattern_of (inf false)) (eqb (pattern_of (inf false)) negative_zero) (unfold to_bits in omega arith)
rate_low (fin true zero e) f h = subst (λ (n : ℕ). n < 2 ^ 63) (plain_pattern (fin true zero e) f) (unfold plain_zero to_bits in omega arith)
rate_low (fin true (suc m) e) f h =
    let p : 0 < suc m * up e = mul-pos (omega arith) (up_pos e) in
    absurd (omega (arith, le-fin→ false 0 (pos 0) true (suc m) e h))
rate_low (fin false m e) f h = picked_low (pattern_of (fin false m e)) (eqb (pattern_of (fin false m e)) negative_zero) (positive-low m e f)

not_below : (x : Float) → good_rate x ≡ true → T (le Doubles.zero x)
unfolding good_rate
not_below x g = subst T (sym (both_true (Doubles.finite x) (le Doubles.zero x) g).1) tt

-- ---- numbers in a row, each within its bound
abbrev Within : List ℕ → List ℕ → Type 0
Within [] bs = 0 ≤ 0
Within (v ∷ vs) [] = ⊥
Within (v ∷ vs) (b ∷ bs) = (length (groups v) ≤ b) × Within vs bs

abbrev sum : List ℕ → ℕ
sum [] = 0
sum (b ∷ bs) = b + sum bs

field_by : (v : ℕ) (t : Bool) → length (pick t (groups v) []) ≤ length (groups v)
field_by v true = omega arith
field_by v false = omega arith

field_most : (form : ℕ) (f : Field) (before v : ℕ) → length (field_file form f before v) ≤ length (groups v)
unfolding field_file
field_most form f before v = field_by v (has_field form f before)

fields_most : (form : ℕ) (fs : List Field) (before : ℕ) (vs bs : List ℕ) → Within vs bs → length (fields_file form fs before vs) ≤ sum bs
unfolding fields_file
fields_most form [] before vs bs w = omega arith
fields_most form (f ∷ fs) before [] bs w = omega arith
fields_most form (f ∷ fs) before (v ∷ vs) [] w = absurd w
fields_most form (f ∷ fs) before (v ∷ vs) (b ∷ bs) w =
    omega (arith, length-append (field_file form f before v) (fields_file form fs v vs), field_most form f before v, fields_most form fs v vs bs w.1, w.0)

-- ---- positions
symbol-most : (s : ℕ) → Text s → length (symbol_file s) ≤ 9
unfolding symbol_file
symbol-most s t = omega (arith, length-append (groups (length (text_of s))) (text_of s), one (length (text_of s)) (omega (arith, t.short)), t.short)

position-most : (p : Position) → Fit p → length (position_file p) ≤ 49
unfolding position_file
position-most p f =
    let n = fields_most newest position_fields 0 (map folded (numbers_of p)) (10 ∷ 10 ∷ 10 ∷ 10 ∷ []) (ten _ ▸ ten _ ▸ ten _ ▸ ten _ ▸ omega arith) in
    omega (arith, length-append (symbol_file (key_of p)) (fields_file newest position_fields 0 (map folded (numbers_of p))), symbol-most (key_of p) f.text)

positions_most : (ps : List Position) → Fits ps → length (positions_file ps) ≤ 49 * length ps
unfolding positions_file
positions_most [] f = omega arith
positions_most (p ∷ ps) f = omega (arith, length-append (position_file p) (positions_file ps), position-most p f.0, positions_most ps f.1)

-- ---- the numbers before the positions
abbrev bounds : List ℕ
bounds = 10 ∷ 10 ∷ 10 ∷ 10 ∷ 10 ∷ 10 ∷ 9 ∷ 9 ∷ 9 ∷ 1 ∷ 10 ∷ 10 ∷ 1 ∷ 1 ∷ 10 ∷ 10 ∷ 10 ∷ 10 ∷ 10 ∷ 10 ∷ 10 ∷ 10 ∷ 1 ∷ []

module _ (a : Account) (e : sound_account a ≡ true) (k : KeptAccount a) where
  head_within : Within (head_values (scalars_of a)) bounds
  unfolding head_values setting_values counter_values
  head_within =
      let s = a.settings in
      let g = good-settings s (account-settings a e) in
      let c = good-costs (costs_of s) (account-costs a e) in
      ten _ ▸ ten _ ▸ ten _ ▸ ten _ ▸ ten _ ▸ ten _
      ▸ nine _ (rate_low (costs_of s).commission_bps k.settings.commission c.rate)
      ▸ nine _ (rate_low s.no_trade_band_bps k.settings.band (not_below s.no_trade_band_bps g.band))
      ▸ nine _ (rate_low (costs_of s).slippage_bps k.settings.slippage c.slippage_low)
      ▸ mark_one s.max_trades_per_rebalance ▸ ten _ ▸ ten _ ▸ flag_one s.recording ▸ flag_one s.cash_first
      ▸ ten _ ▸ ten _ ▸ ten _ ▸ ten _ ▸ ten _ ▸ ten _ ▸ ten _ ▸ ten _
      ▸ one a.positions.count (omega (arith, account-small a e))
      ▸ omega arith

  -- "The longest file of form 1 is 3,328 bytes"
  pub at_most_3328 : length (file_of a) ≤ longest
  unfolding file_of
  at_most_3328 =
      let h : List ℕ = fields_file newest head_fields 0 (head_values (scalars_of a)) in
      let p : List ℕ = positions_file (held_in a.positions) in
      omega (
        arith,
        length-append (groups newest) (h ++ p),
        length-append h p,
        one newest (omega arith),
        fields_most newest head_fields 0 (head_values (scalars_of a)) bounds head_within,
        positions_most (held_in a.positions) (rows_fit a e k),
        rows-count a e k,
        account-small a e,
      )
