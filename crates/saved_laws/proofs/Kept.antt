-- Numbers and positions that were read make an account whose fields fit their widths.
use mathlib.Core.Path.{◌≡◌}
use Prim.Native.Nat.{ℕ, zero, suc, ◌-◌, ◌<◌, ◌≤◌, ◌^◌}
use native.Mathlib.Omega.{arith}
use mathlib.Core.Bool.{Bool, true, false}
use mathlib.Core.List.{List, [], ◌∷◌, ◌++◌, map}
use lib.Dec.{eqb}
use lib.IntN.{ℤ, pos}
use lib.ListN.{length, get_or, replicate, length-append, length-map, length-replicate}
use lib.Ieee.{binary64}
use lib.Ieee.Bits.{of_bits-fits}
use mir.Syntax.{w64}
use mir.Val.{SFits}
use Rattle.answer.specs.Choice.{pick}
use Rattle.position.specs.declared.position.Position.{Position}
use Rattle.position.specs.Rows.{key_of, held, avg, realized, total}
use Rattle.table.specs.Rows.{columns_of, padded_column, Full}
use Rattle.account.specs.declared.settings.TradeCap.TheVariants.{Absent, AtMost}
use Rattle.account.specs.Account.{table_of}
use Rattle.account_bytes.specs.Settings.{cap_count, cap_of}
use Rattle.account_bytes.proofs.Lists.{Numbers, words_append, word_lt}
use Rattle.account_bytes.proofs.SettingsKept.{NoNan}
use Rattle.account_bytes.proofs.AccountKept.{KeptTable, KeptAccount}
use Rattle.word_bytes.proofs.Words.{Words}
use Rattle.seven_bit.proofs.Signed.{unfolded-fits}
use Rattle.saved_form.specs.Values.{number_in, settings_of, counters_of, series_of, account_of}
use Rattle.saved_laws.proofs.Positions.{Kept}

-- ---- columns
numbers_append : (l m : List ℤ) → Numbers l → Numbers m → Numbers (l ++ m)
numbers_append [] m o p = p
numbers_append (z ∷ l) m o p = (o.0, numbers_append l m o.1 p)

word_zeros : (n : ℕ) → Words (replicate n 0)
word_zeros zero = omega arith
word_zeros (suc n) = (omega arith, word_zeros n)

number-zeros : (n : ℕ) → Numbers (replicate n (pos 0))
number-zeros zero = omega arith
number-zeros (suc n) = (record { sfits = omega arith }, number-zeros n)

keys : (ps : List Position) → Kept ps → Words (map key_of ps)
keys [] k = omega arith
keys (p ∷ ps) k = (k.0, keys ps k.2)

quantities : (ps : List Position) → Kept ps → Numbers (map held ps)
quantities [] k = omega arith
quantities (p ∷ ps) k = (k.1.0, quantities ps k.2)

averages : (ps : List Position) → Kept ps → Numbers (map avg ps)
averages [] k = omega arith
averages (p ∷ ps) k = (k.1.1.0, averages ps k.2)

profits : (ps : List Position) → Kept ps → Numbers (map realized ps)
profits [] k = omega arith
profits (p ∷ ps) k = (k.1.1.1.0, profits ps k.2)

totals : (ps : List Position) → Kept ps → Numbers (map total ps)
totals [] k = omega arith
totals (p ∷ ps) k = (k.1.1.1.1.0, totals ps k.2)

padded-length : {A P : Type 0} (z : A) (g : P → A) (ps : List P) → length ps ≤ 64 → length (padded_column 64 z (map g ps)) ≡ 64
padded-length z g ps h = simp (length-append, length-replicate, length-map) (omega arith)

pub table-full : (ps : List Position) → length ps ≤ 64 → Full (columns_of (table_of ps))
unfolding table_of
table-full ps h = record {
  symbol = padded-length 0 key_of ps h;
  quantity = padded-length (pos 0) held ps h;
  average = padded-length (pos 0) avg ps h;
  realized = padded-length (pos 0) realized ps h;
  total = padded-length (pos 0) total ps h;
}

column : (l : List ℤ) → Numbers l → Numbers (padded_column 64 (pos 0) l)
column l o = numbers_append l (replicate (64 - length l) (pos 0)) o (number-zeros (64 - length l))

pub kept_table : (ps : List Position) → length ps ≤ 64 → Kept ps → KeptTable (table_of ps)
unfolding table_of
kept_table ps h k = record {
  full = table-full ps h;
  count = omega arith;
  symbols = words_append (map key_of ps) (replicate (64 - length (map key_of ps)) 0) (keys ps k) (word_zeros (64 - length (map key_of ps)));
  quantities = column (map held ps) (quantities ps k);
  averages = column (map avg ps) (averages ps k);
  realized = column (map realized ps) (profits ps k);
  totals = column (map total ps) (totals ps k);
}

-- ---- the account
cap_fits : (m n : ℕ) → n < 2 ^ 64 → cap_count (cap_of m n) < 2 ^ 64
unfolding cap_of
cap_fits m n h = go (eqb m 0)
  where
    go : (t : Bool) → cap_count (pick t Absent (AtMost n)) < 2 ^ 64
    go true = omega arith
    go false = h

pub kept-account : (vs : List ℕ) (ps : List Position) → Words vs → NoNan (settings_of vs) → length ps ≤ 64 → Kept ps → KeptAccount (account_of vs (table_of ps))
unfolding account_of settings_of counters_of series_of
kept-account vs ps w n h k = record {
  cash = number_fits 0;
  settings = record {
    rates = n;
    commission = of_bits-fits binary64 (get_or vs 6 0);
    slippage = of_bits-fits binary64 (get_or vs 8 0);
    floor = number_fits 1;
    ceiling = number_fits 11;
    step = number_fits 5;
    lowest = number_fits 2;
    highest = number_fits 3;
    band = of_bits-fits binary64 (get_or vs 7 0);
    cap = cap_fits (get_or vs 9 0) (get_or vs 10 0) (word_lt vs 10 w);
    notional = number_fits 4;
  };
  counts = record {
    orders = word_lt vs 14 w;
    notional = number_fits 15;
    trimmed = word_lt vs 16 w;
    shortfall = number_fits 17;
    records = word_lt vs 18 w;
    equities = word_lt vs 19 w;
    returns = word_lt vs 20 w;
    previous = number_fits 21;
  };
  positions = kept_table ps h k;
}
  where
    number_fits : (i : ℕ) → SFits w64 (number_in vs i)
    number_fits i = unfolded-fits (get_or vs i 0) (word_lt vs i w)
