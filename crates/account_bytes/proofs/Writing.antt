-- Runs of words that are written one after the other, and the bytes that they leave.
use mathlib.Core.Path.{◌≡◌, refl, sym, ◌∙◌, ap}
use Prim.Native.Nat.{ℕ, ◌*◌, ◌/◌}
use native.Mathlib.Omega.{arith}
use mathlib.Core.List.{List, [], ◌∷◌, ◌++◌, map}
use lib.ListN.{length, set, length-append, length-map}
use lib.Seq.{sets}
use Rattle.table.specs.Rows.{Full, columns_of}
use Rattle.table.specs.declared.table.Columns.{Columns}
use Rattle.table.proofs.Stores.{sets_append, sets_all}
use Rattle.account.specs.declared.settings.Settings.{Settings}
use Rattle.account.specs.declared.account.Account.{Account}
use Rattle.account.specs.declared.account.Counters.{Counters}
use Rattle.account.specs.declared.account.Series.{Series}
use Rattle.word_bytes.specs.Words.{words_in, words_of, bytes_of, turned}
use Rattle.word_bytes.specs.Numbers.{unsigned_of}
use Rattle.word_bytes.proofs.Words.{Octets, bytes-words}
use Rattle.account_bytes.specs.Sizes.{settings_size, settings_from, counters_from, series_from, count_at_of, counts_size, column_size, symbols_from, quantities_from, averages_from, realized_from, totals_from, account_size}
use Rattle.account_bytes.specs.Settings.{settings_words}
use Rattle.account_bytes.specs.Account.{counter_words, series_words, count_words, column_words, account_words_of}

-- bytes that hold words and nothing else are the bytes of these words
pub bytes_are : (n : ℕ) (l ws : List ℕ) → Octets l → length l ≡ 8 * n → words_of l ≡ ws → l ≡ bytes_of ws
bytes_are n l ws o e h =
    let z : length l / 8 ≡ n = omega arith in
    sym (bytes-words n l o e) ∙ ap (λ (k : ℕ). bytes_of (words_in k l)) (sym z) ∙ ap bytes_of h

-- ---- the account
pub length-columns : (c : Columns) → Full c → length (column_words c) ≡ 5 * column_size
unfolding column_words
length-columns c f = simp (length-append, length-map, f.symbol, f.quantity, f.average, f.realized, f.total)

-- column after column
pub columns-put : (c : Columns) → Full c → (w0 w1 w2 w3 w4 w5 : List ℕ)
    → w1 ≡ sets w0 symbols_from (map turned c.symbol)
    → w2 ≡ sets w1 quantities_from (map unsigned_of c.quantity)
    → w3 ≡ sets w2 averages_from (map unsigned_of c.average)
    → w4 ≡ sets w3 realized_from (map unsigned_of c.realized)
    → w5 ≡ sets w4 totals_from (map unsigned_of c.total)
    → w5 ≡ sets w0 symbols_from (column_words c)
unfolding column_words
columns-put c f w0 w1 w2 w3 w4 w5 e1 e2 e3 e4 e5 =
    let s : List ℕ = map turned c.symbol in
    let q : List ℕ = map unsigned_of c.quantity in
    let a : List ℕ = map unsigned_of c.average in
    let r : List ℕ = map unsigned_of c.realized in
    let k : List ℕ = map unsigned_of c.total in
    let n1 : length s ≡ column_size = length-map c.symbol turned ∙ f.symbol in
    let n2 : length q ≡ column_size = length-map c.quantity unsigned_of ∙ f.quantity in
    let n3 : length a ≡ column_size = length-map c.average unsigned_of ∙ f.average in
    let n4 : length r ≡ column_size = length-map c.realized unsigned_of ∙ f.realized in
    let d4 : w5 ≡ sets w3 realized_from (r ++ k) = e5 ∙ ap (λ (w : List ℕ). sets w totals_from k) e4 ∙ sets_append w3 realized_from r k totals_from (omega arith) in
    let d3 : w5 ≡ sets w2 averages_from (a ++ (r ++ k)) = d4 ∙ ap (λ (w : List ℕ). sets w realized_from (r ++ k)) e3 ∙ sets_append w2 averages_from a (r ++ k) realized_from (omega arith) in
    let d2 : w5 ≡ sets w1 quantities_from (q ++ (a ++ (r ++ k))) = d3 ∙ ap (λ (w : List ℕ). sets w averages_from (a ++ (r ++ k))) e2 ∙ sets_append w1 quantities_from q (a ++ (r ++ k)) averages_from (omega arith) in
    d2 ∙ ap (λ (w : List ℕ). sets w quantities_from (q ++ (a ++ (r ++ k)))) e1 ∙ sets_append w0 symbols_from s (q ++ (a ++ (r ++ k))) quantities_from (omega arith)

pub length-settings : (s : Settings) → length (settings_words s) ≡ settings_size
unfolding settings_words
length-settings s = refl

pub length_counts : (k : Counters) (s : Series) (n : ℕ) → length (count_words k s n) ≡ counts_size
unfolding count_words
length_counts k s n = refl

-- counters, series, count
pub counts_put : (k : Counters) (s : Series) (n : ℕ) (w0 w1 w2 w3 : List ℕ)
    → w1 ≡ sets w0 counters_from (counter_words k)
    → w2 ≡ sets w1 series_from (series_words s)
    → w3 ≡ set w2 count_at_of n
    → w3 ≡ sets w0 counters_from (count_words k s n)
unfolding count_words
counts_put k s n w0 w1 w2 w3 e1 e2 e3 =
    let d : w3 ≡ sets w1 series_from (series_words s ++ (n ∷ [])) = e3 ∙ ap (λ (w : List ℕ). set w count_at_of n) e2 ∙ sets_append w1 series_from (series_words s) (n ∷ []) count_at_of refl in
    d ∙ ap (λ (w : List ℕ). sets w series_from (series_words s ++ (n ∷ []))) e1 ∙ sets_append w0 counters_from (counter_words k) (series_words s ++ (n ∷ [])) series_from refl

pub length-account : (a : Account) → Full (columns_of a.positions) → length (account_words_of a) ≡ account_size
unfolding account_words_of
length-account a f = simp (length-append, length-settings a.settings, length_counts a.counters a.series a.positions.count, length-columns (columns_of a.positions) f)

whole : (a : Account) (w : List ℕ) → sets (set w 0 (unsigned_of a.cash)) 1 (settings_words a.settings ++ (count_words a.counters a.series a.positions.count ++ column_words (columns_of a.positions))) ≡ sets w 0 (account_words_of a)
unfolding account_words_of
whole a w = refl

-- cash, settings, counts and columns
pub account-put : (a : Account) → Full (columns_of a.positions) → (w0 w1 w2 w3 w4 : List ℕ) → length w0 ≡ account_size
    → w1 ≡ set w0 0 (unsigned_of a.cash)
    → w2 ≡ sets w1 settings_from (settings_words a.settings)
    → w3 ≡ sets w2 counters_from (count_words a.counters a.series a.positions.count)
    → w4 ≡ sets w3 symbols_from (column_words (columns_of a.positions))
    → w4 ≡ account_words_of a
account-put a f w0 w1 w2 w3 w4 n e1 e2 e3 e4 =
    let s : List ℕ = settings_words a.settings in
    let k : List ℕ = count_words a.counters a.series a.positions.count in
    let c : List ℕ = column_words (columns_of a.positions) in
    let d3 : w4 ≡ sets w2 counters_from (k ++ c) = e4 ∙ ap (λ (w : List ℕ). sets w symbols_from c) e3 ∙ sets_append w2 counters_from k c symbols_from (omega (arith, length_counts a.counters a.series a.positions.count)) in
    let d2 : w4 ≡ sets w1 settings_from (s ++ (k ++ c)) = d3 ∙ ap (λ (w : List ℕ). sets w counters_from (k ++ c)) e2 ∙ sets_append w1 settings_from s (k ++ c) counters_from (omega (arith, length-settings a.settings)) in
    let d1 : w4 ≡ sets w0 0 (account_words_of a) = d2 ∙ ap (λ (w : List ℕ). sets w settings_from (s ++ (k ++ c))) e1 ∙ whole a w0 in
    d1 ∙ sets_all w0 (account_words_of a) (n ∙ sym (length-account a f))
