-- Targets and prices of bytes in columns: in those that a caller lends, and by value.
use Rattle.std.specs.Prelude.{ℕ, ◌+◌, ◌*◌, ◌/◌, List, [], ℤ, pos, Float, length, Option, Some, None}
use Rattle.std.specs.Float.{binary64}
use Rattle.std.specs.Float.Ieee.{of_bits}
use Rattle.word_bytes.specs.Words.{word_at}
use Rattle.table.specs.Keyed.{pick}
use Rattle.table.specs.Rows.{padded_column}
use Rattle.fills.specs.Records.{fronted}
use Rattle.list_bytes.specs.declared.price.Prices.{Prices}
use Rattle.list_bytes.specs.declared.target.Targets.{Targets}
use Rattle.list_bytes.specs.Entries.{whole_list, at_places_of}
use Rattle.list_bytes.specs.Inner.Entries.{count_of}
use Rattle.list_bytes.specs.Lists.{symbols_in, weights_in, prices_in}

-- ---- in lent columns
-- how many entries there are, a column of symbols and one of what stands beside them
pub record EntryColumns (A : Type 0) : Type 0 where
  pub count : ℕ
  pub symbol : List ℕ
  pub value : List A

abbrev pub entry_columns : {A : Type 0} → ℕ → List ℕ → List A → EntryColumns A
entry_columns n s v = record { count = n; symbol = s; value = v }

-- all entries in the first places, and the rest as found; a list that is not whole gives nothing
abbrev pub entries_into : {A : Type 0} → ℕ → List ℕ → List A → List ℕ → List A → EntryColumns A
entries_into most l vs s v = entry_columns (count_of most (length l)) (fronted (pick (whole_list most l) (symbols_in l) []) s) (fronted (pick (whole_list most l) vs []) v)

-- what stands beside the symbols, as f reads a word
abbrev pub values_in : {A : Type 0} → (ℕ → A) → List ℕ → List A
values_in f l = at_places_of (length l / 16) (λ i. f (word_at l (2 * i + 1)))

unfoldable pub targets_into : List ℕ → List ℕ → List Float → EntryColumns Float
targets_into l s v = entries_into 64 l (weights_in l) s v

unfoldable pub prices_into : List ℕ → List ℕ → List ℤ → EntryColumns ℤ
prices_into l s v = entries_into 128 l (prices_in l) s v

-- ---- by value
-- none of a list that is not whole
unfoldable pub targets_of : List ℕ → Option Targets
targets_of l = pick (whole_list 64 l) (Some (record { count = length l / 16; symbol = padded_column 64 0 (symbols_in l); weight = padded_column 64 (of_bits binary64 0) (weights_in l) })) None

unfoldable pub prices_of : List ℕ → Option Prices
prices_of l = pick (whole_list 128 l) (Some (record { count = length l / 16; symbol = padded_column 128 0 (symbols_in l); price = padded_column 128 (pos 0) (prices_in l) })) None
