-- Targets and prices as bytes: an entry is two words, the first the symbol's text. Definitions only.
use Rattle.std.specs.Prelude.{ℕ, ◌+◌, ◌*◌, ◌/◌, List, ℤ, Float, length}
use Rattle.word_bytes.specs.Words.{word_at, symbol_at}
use Rattle.word_bytes.specs.Numbers.{signed_of, float_of}
use Rattle.list_bytes.specs.Entries.{at_places_of}

-- what stands at the entry i
abbrev pub entry_symbol : List ℕ → ℕ → ℕ
entry_symbol l i = symbol_at l (2 * i)

abbrev pub entry_weight : List ℕ → ℕ → Float
entry_weight l i = float_of (word_at l (2 * i + 1))

abbrev pub entry_price : List ℕ → ℕ → ℤ
entry_price l i = signed_of (word_at l (2 * i + 1))

-- the columns of all entries; fewer than sixteen bytes that are left at the end are no entry
abbrev pub symbols_in : List ℕ → List ℕ
symbols_in l = at_places_of (length l / 16) (entry_symbol l)

abbrev pub weights_in : List ℕ → List Float
weights_in l = at_places_of (length l / 16) (entry_weight l)

abbrev pub prices_in : List ℕ → List ℤ
prices_in l = at_places_of (length l / 16) (entry_price l)
