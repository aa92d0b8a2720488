-- An account that is written is read back, and bytes of an account that are read are written back.
use Rattle.std.specs.Prelude.{Some}
use mathlib.Core.Path.{◌≡◌, refl, sym, ◌∙◌, ap}
use mathlib.Core.Bool.{true}
use Prim.Native.Nat.{ℕ, ◌+◌, ◌/◌, ◌<◌, ◌^◌}
use native.Mathlib.Omega.{arith}
use mathlib.Core.List.{List, [], ◌∷◌, ◌++◌, map, append-nil}
use lib.ListN.{length, get_or, take, drop, length-map, drop_of_length-le}
use lib.Seq.{sets, take_at, drop_at, drop-cons, drop-drop, take_all}
use mir.Syntax.{w64}
use mir.Val.{SFits}
use borrow.Author.Tests.{eq-eqb, eqb-true}
use Rattle.table.specs.Rows.{Full, columns_of}
use Rattle.table.specs.declared.table.Columns.{Columns}
use Rattle.table.proofs.Keyed.{both_true}
use Rattle.table.specs.declared.table.Table.{Table}
use Rattle.account.specs.declared.account.Account.{Account}
use Rattle.account.specs.declared.account.Counters.{Counters}
use Rattle.account.specs.declared.account.Series.{Series}
use Rattle.account.specs.Account.{sound_account, with_series}
use Rattle.account.proofs.SoundAccounts.{account-settings}
use Rattle.word_bytes.specs.Words.{words_in, words_of, bytes_of, turned}
use Rattle.word_bytes.specs.Numbers.{signed_of, unsigned_of}
use Rattle.word_bytes.proofs.Words.{Words, Octets, length-words, words-bytes, length-bytes, words_fit, bytes-words}
use Rattle.word_bytes.proofs.Numbers.{signed_unsigned, unsigned_signed, unsigned_lt}
use Rattle.account_bytes.specs.Sizes.{settings_size, settings_from, counters_size, counters_from, last_notional_at, shortfall_at, open_count_at, closed_total_at, series_from, prev_equity_at, counts_size, column_size, symbols_from, quantities_from, averages_from, realized_from, totals_from, account_size, account_length}
use Rattle.account_bytes.specs.Settings.{settings_words, settings_at, are_settings}
use Rattle.account_bytes.specs.Account.{count_words, counters_of, spare_counters, series_words, series_of, column_words, symbols_at, numbers_at, table_from, account_words_of, account_of, hold_account, read_account, account_in, written_account, written_series}
use Rattle.account_bytes.proofs.Writing.{length-account, bytes_are}
use Rattle.account_bytes.proofs.Lists.{Numbers, words_append, words_take, words-drop, word_lt, words-turned, words_unsigned, turned_back, signed_back, unsigned_back, run, run_is, rejoined}
use Rattle.account_bytes.proofs.SettingsKept.{NoNan, Kept, good-rates, settings_back, are_back, settings_fit, settings-after, are_after, words_back}

-- ---- what accounts are kept: those with kept settings. The rest holds of every value of a program.
pub record KeptTable (t : Table) : Type 0 where
  pub full : Full (columns_of t)
  pub count : t.count < 2 ^ 64
  pub symbols : Words t.columns.symbol
  pub quantities : Numbers t.columns.quantity
  pub averages : Numbers t.columns.average
  pub realized : Numbers t.columns.realized
  pub totals : Numbers t.columns.total

pub record KeptCounts (k : Counters) (s : Series) : Type 0 where
  pub orders : k.last_rebalance_order_count < 2 ^ 64
  pub notional : SFits w64 k.last_rebalance_notional
  pub trimmed : k.trimmed_fill_count < 2 ^ 64
  pub shortfall : SFits w64 k.trimmed_shortfall_cents
  pub records : k.record_count < 2 ^ 64
  pub equities : s.equity_count < 2 ^ 64
  pub returns : s.return_count < 2 ^ 64
  pub previous : SFits w64 s.prev_equity

pub record KeptAccount (a : Account) : Type 0 where
  pub cash : SFits w64 a.cash
  pub settings : Kept a.settings
  pub counts : KeptCounts a.counters a.series
  pub positions : KeptTable a.positions

-- A sound account is one of them.
pub sound-rates : (a : Account) → sound_account a ≡ true → NoNan a.settings
sound-rates a e = good-rates a.settings (account-settings a e)

-- ---- every word of an account is a word
counts_fit : (k : Counters) (s : Series) (n : ℕ) → KeptCounts k s → n < 2 ^ 64 → Words (count_words k s n)
unfolding count_words
counts_fit k s n c h =
    omega (
      arith,
      unsigned_lt k.last_rebalance_notional c.notional,
      unsigned_lt k.trimmed_shortfall_cents c.shortfall,
      unsigned_lt s.prev_equity c.previous,
    )

columns_fit : (t : Table) → KeptTable t → Words (column_words (columns_of t))
unfolding column_words
columns_fit t k =
    let q : List ℕ = map unsigned_of t.columns.quantity in
    let a : List ℕ = map unsigned_of t.columns.average in
    let r : List ℕ = map unsigned_of t.columns.realized in
    let c : List ℕ = map unsigned_of t.columns.total in
    words_append (map turned t.columns.symbol) (q ++ (a ++ (r ++ c))) (words-turned t.columns.symbol)
    (words_append q (a ++ (r ++ c)) (words_unsigned t.columns.quantity k.quantities)
    (words_append a (r ++ c) (words_unsigned t.columns.average k.averages)
    (words_append r c (words_unsigned t.columns.realized k.realized)
    (words_unsigned t.columns.total k.totals))))

account_fit : (a : Account) → KeptAccount a → Words (account_words_of a)
unfolding account_words_of
account_fit a k =
    let n : List ℕ = count_words a.counters a.series a.positions.count in
    let c : List ℕ = column_words (columns_of a.positions) in (
      unsigned_lt a.cash k.cash,
      words_append (settings_words a.settings) (n ++ c) (settings_fit a.settings k.settings)
          (words_append n c (counts_fit a.counters a.series a.positions.count k.counts k.positions.count)
          (columns_fit a.positions k.positions)),
    )

-- ---- from an account to words and back
counters_back : (a : Account) → KeptCounts a.counters a.series → counters_of (account_words_of a) ≡ a.counters
unfolding account_words_of settings_words count_words
counters_back a c = simp (signed_unsigned a.counters.last_rebalance_notional c.notional, signed_unsigned a.counters.trimmed_shortfall_cents c.shortfall)

series_back : (a : Account) → KeptCounts a.counters a.series → series_of (account_words_of a) ≡ a.series
unfolding account_words_of settings_words count_words
series_back a c = simp (signed_unsigned a.series.prev_equity c.previous)

-- the columns, each 64 words after the one before it
record Cut (c : Columns) : Type 0 where
  symbol : take 64 (column_words c) ≡ map turned c.symbol
  quantity : take 64 (drop 64 (column_words c)) ≡ map unsigned_of c.quantity
  average : take 64 (drop 128 (column_words c)) ≡ map unsigned_of c.average
  realized : take 64 (drop 192 (column_words c)) ≡ map unsigned_of c.realized
  total : take 64 (drop 256 (column_words c)) ≡ map unsigned_of c.total

cut : (c : Columns) → Full c → Cut c
unfolding column_words
cut c f =
    let s : List ℕ = map turned c.symbol in
    let q : List ℕ = map unsigned_of c.quantity in
    let a : List ℕ = map unsigned_of c.average in
    let r : List ℕ = map unsigned_of c.realized in
    let k : List ℕ = map unsigned_of c.total in
    let n1 : length s ≡ 64 = length-map c.symbol turned ∙ f.symbol in
    let n2 : length q ≡ 64 = length-map c.quantity unsigned_of ∙ f.quantity in
    let n3 : length a ≡ 64 = length-map c.average unsigned_of ∙ f.average in
    let n4 : length r ≡ 64 = length-map c.realized unsigned_of ∙ f.realized in
    let n5 : length k ≡ 64 = length-map c.total unsigned_of ∙ f.total in
    let all : List ℕ = s ++ (q ++ (a ++ (r ++ k))) in
    let d1 : drop 64 all ≡ q ++ (a ++ (r ++ k)) = drop_at s (q ++ (a ++ (r ++ k))) 64 n1 in
    let d2 : drop 128 all ≡ a ++ (r ++ k) = sym (drop-drop 64 64 all) ∙ ap (drop 64) d1 ∙ drop_at q (a ++ (r ++ k)) 64 n2 in
    let d3 : drop 192 all ≡ r ++ k = sym (drop-drop 64 128 all) ∙ ap (drop 64) d2 ∙ drop_at a (r ++ k) 64 n3 in
    let d4 : drop 256 all ≡ k = sym (drop-drop 64 192 all) ∙ ap (drop 64) d3 ∙ drop_at r k 64 n4 in
    record {
      symbol = take_at s (q ++ (a ++ (r ++ k))) 64 n1;
      quantity = ap (take 64) d1 ∙ take_at q (a ++ (r ++ k)) 64 n2;
      average = ap (take 64) d2 ∙ take_at a (r ++ k) 64 n3;
      realized = ap (take 64) d3 ∙ take_at r k 64 n4;
      total = ap (take 64) d4 ∙ take_all 64 k (omega arith);
    }

table_back : (a : Account) → KeptTable a.positions → table_from (account_words_of a) ≡ a.positions
unfolding table_from account_words_of settings_words count_words
table_back a k =
    let t = a.positions in
    let c = cut (columns_of t) k.full in
    simp (
      ap (map turned) c.symbol ∙ turned_back t.columns.symbol k.symbols,
      ap (map signed_of) c.quantity ∙ signed_back t.columns.quantity k.quantities,
      ap (map signed_of) c.average ∙ signed_back t.columns.average k.averages,
      ap (map signed_of) c.realized ∙ signed_back t.columns.realized k.realized,
      ap (map signed_of) c.total ∙ signed_back t.columns.total k.totals,
    )

cash_back : (a : Account) → SFits w64 a.cash → signed_of (get_or (account_words_of a) 0 0) ≡ a.cash
unfolding account_words_of
cash_back a f = signed_unsigned a.cash f

settings-first : (a : Account) → settings_at settings_from (account_words_of a) ≡ settings_at 0 (settings_words a.settings)
unfolding account_words_of
settings-first a = settings-after _ a.settings _

are_first : (a : Account) → are_settings settings_from (account_words_of a) ≡ are_settings 0 (settings_words a.settings)
unfolding account_words_of
are_first a = are_after _ a.settings _

spare_first : (a : Account) → spare_counters (account_words_of a) ≡ true
unfolding account_words_of settings_words count_words
spare_first a = refl

account_back : (a : Account) → KeptAccount a → account_of (account_words_of a) ≡ a
unfolding account_of
account_back a k =
    simp (
      cash_back a k.cash,
      settings-first a ∙ settings_back a.settings k.settings,
      counters_back a k.counts,
      series_back a k.counts,
      table_back a k.positions,
    )

-- ---- from words to an account and back
-- two words that stand for no counter
record Spare (ws : List ℕ) : Type 0 where
  open_count_lem : get_or ws open_count_at 0 ≡ 0
  closed-total : get_or ws closed_total_at 0 ≡ 0

spare : (ws : List ℕ) → spare_counters ws ≡ true → Spare ws
spare ws e = let b = both_true _ _ e in record { open_count_lem = eqb-true _ 0 b.0; closed-total = eqb-true _ 0 b.1 }

-- with another series three of the words are others
counted : (s : Series) (ws : List ℕ) → Words ws → spare_counters ws ≡ true → count_words (counters_of ws) s (table_from ws).count ≡ sets (run counts_size counters_from ws) counters_size (series_words s)
unfolding count_words table_from
counted s ws o e =
    let z = spare ws e in
    simp (unsigned_signed (get_or ws last_notional_at 0) (word_lt ws last_notional_at o), unsigned_signed (get_or ws shortfall_at 0) (word_lt ws shortfall_at o), z.open_count_lem, z.closed-total)

-- one column, written back, and the words after it
number-column : (from next : ℕ) (ws : List ℕ) → Words ws → next ≡ from + column_size → map unsigned_of (numbers_at from ws) ++ drop next ws ≡ drop from ws
number-column from next ws o e =
    ap (λ (l : List ℕ). l ++ drop next ws) (unsigned_back (take column_size (drop from ws)) (words_take column_size (drop from ws) (words-drop from ws o))) ∙ rejoined column_size from next ws e

column-words : (ws : List ℕ) → Words ws → length ws ≡ account_size → column_words (columns_of (table_from ws)) ≡ drop symbols_from ws
unfolding column_words table_from
column-words ws o n =
    let s : List ℕ = map turned (symbols_at symbols_from ws) in
    let q : List ℕ = map unsigned_of (numbers_at quantities_from ws) in
    let a : List ℕ = map unsigned_of (numbers_at averages_from ws) in
    let r : List ℕ = map unsigned_of (numbers_at realized_from ws) in
    let k : List ℕ = map unsigned_of (numbers_at totals_from ws) in
    let z : drop account_size ws ≡ [] = drop_of_length-le ws {i = account_size} (omega arith) in
    let e5 : k ≡ drop totals_from ws = sym (append-nil k) ∙ ap (λ (l : List ℕ). k ++ l) (sym z) ∙ number-column totals_from account_size ws o refl in
    let e4 : r ++ k ≡ drop realized_from ws = ap (λ (l : List ℕ). r ++ l) e5 ∙ number-column realized_from totals_from ws o refl in
    let e3 : a ++ (r ++ k) ≡ drop averages_from ws = ap (λ (l : List ℕ). a ++ l) e4 ∙ number-column averages_from realized_from ws o refl in
    let e2 : q ++ (a ++ (r ++ k)) ≡ drop quantities_from ws = ap (λ (l : List ℕ). q ++ l) e3 ∙ number-column quantities_from averages_from ws o refl in
    let e1 : s ≡ take column_size (drop symbols_from ws) = turned_back (take column_size (drop symbols_from ws)) (words_take column_size (drop symbols_from ws) (words-drop symbols_from ws o)) in
    ap (λ (l : List ℕ). s ++ l) e2 ∙ ap (λ (l : List ℕ). l ++ drop quantities_from ws) e1 ∙ rejoined column_size symbols_from quantities_from ws refl

-- cash, settings, counts and columns in their places
joined : (ws : List ℕ) → length ws ≡ account_size → get_or ws 0 0 ∷ (run settings_size settings_from ws ++ (run counts_size counters_from ws ++ drop symbols_from ws)) ≡ ws
joined ws n =
    let c : run counts_size counters_from ws ++ drop symbols_from ws ≡ drop counters_from ws = ap (λ (l : List ℕ). l ++ drop symbols_from ws) (run_is counts_size counters_from ws (omega arith)) ∙ rejoined counts_size counters_from symbols_from ws refl in
    let s : run settings_size settings_from ws ++ drop counters_from ws ≡ drop settings_from ws = ap (λ (l : List ℕ). l ++ drop counters_from ws) (run_is settings_size settings_from ws (omega arith)) ∙ rejoined settings_size settings_from counters_from ws refl in
    ap (λ (l : List ℕ). get_or ws 0 0 ∷ (run settings_size settings_from ws ++ l)) c ∙ ap (λ (l : List ℕ). get_or ws 0 0 ∷ l) s ∙ sym (drop-cons ws 0 0 (omega arith))

-- words that the tests let pass
record Passed (ws : List ℕ) : Type 0 where
  fit : Words ws
  long : length ws ≡ account_size
  settings : are_settings settings_from ws ≡ true
  spare : spare_counters ws ≡ true

series-words : (s : Series) (ws : List ℕ) → Passed ws → account_words_of (with_series s (account_of ws)) ≡ sets ws series_from (series_words s)
unfolding account_words_of account_of
series-words s ws p =
    simp (unsigned_signed (get_or ws 0 0) (word_lt ws 0 p.fit), words_back settings_from ws p.fit p.settings, counted s ws p.fit p.spare, column-words ws p.fit p.long) (ap (λ (l : List ℕ). sets l series_from (series_words s)) (joined ws p.long))

account-words : (ws : List ℕ) → Passed ws → account_words_of (account_of ws) ≡ ws
unfolding account_of
account-words ws p =
    series-words (series_of ws) ws p
    ∙ ap (λ (l : List ℕ). sets l series_from (series_words (series_of ws))) (sym (joined ws p.long))
    ∙ simp (unsigned_signed (get_or ws prev_equity_at 0) (word_lt ws prev_equity_at p.fit)) (joined ws p.long)

-- ---- bytes
-- An account that is written is read back as it was.
pub account-read_back : (a : Account) → KeptAccount a → (l : List ℕ) → length l ≡ account_length → read_account (written_account a l) ≡ Some a
unfolding read_account hold_account written_account
account-read_back a k l n =
    let ws : List ℕ = account_words_of a in
    let w : words_of (bytes_of ws) ≡ ws = words-bytes ws (account_fit a k) in
    let m : length (bytes_of ws) ≡ account_length = length-bytes ws ∙ omega (arith, length-account a k.positions.full) in
    simp (eq-eqb (length l) account_length n) (simp (eq-eqb (length (bytes_of ws)) account_length m, w, are_first a ∙ are_back a.settings k.settings, spare_first a, account_back a k))

-- what is known of bytes that hold one
record Good (l : List ℕ) : Type 0 where
  long : length l ≡ account_length
  passed : Octets l → Passed (words_of l)

words_pass : (l : List ℕ) → length l ≡ account_length → are_settings settings_from (words_of l) ≡ true → spare_counters (words_of l) ≡ true → Octets l → Passed (words_of l)
words_pass l n s z o = record { fit = words_fit (length l / 8) l o (omega arith); long = length-words (length l / 8) l ∙ omega arith; settings = s; spare = z }

good : (l : List ℕ) → hold_account l ≡ true → Good l
unfolding hold_account
good l g =
    let b = both_true _ _ g in
    let c = both_true _ _ b.1 in
    let n : length l ≡ account_length = eqb-true (length l) account_length b.0 in
    record { long = n; passed = words_pass l n c.0 c.1 }

pub good-long : (l : List ℕ) → hold_account l ≡ true → length l ≡ account_length
good-long l g = (good l g).long

-- Bytes that hold an account, read and written, are as they were.
pub account-written_back : (l : List ℕ) → Octets l → hold_account l ≡ true → (m : List ℕ) → length m ≡ account_length → written_account (account_in l) m ≡ l
unfolding account_in written_account
account-written_back l o g m k =
    let d = good l g in
    let n = d.long in
    let z : length l / 8 ≡ account_size = omega arith in
    simp (eq-eqb (length m) account_length k, g) (ap bytes_of (account-words (words_of l) (d.passed o)) ∙ ap (λ (i : ℕ). bytes_of (words_in i l)) z ∙ bytes-words account_size l o n)

-- Where the words of an account's series are those of another, the bytes are those of the account with it.
pub series-written : (s : Series) (l m : List ℕ) → Octets l → Octets m → hold_account l ≡ true → length m ≡ length l → words_of m ≡ sets (words_of l) series_from (series_words s) → m ≡ written_series s l
unfolding written_series written_account
series-written s l m o p g k h =
    let d = good l g in
    let n = d.long in
    simp (g, eq-eqb (length l) account_length n) (bytes_are account_size m _ p (k ∙ n) (h ∙ sym (series-words s (words_of l) (d.passed o))))
