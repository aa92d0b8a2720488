-- The figures of a snapshot as words: cash, equity, open positions and realized profit. Definitions only.
use Rattle.std.specs.Prelude.{ℕ, List, [], ◌∷◌, ℤ}
use Rattle.word_bytes.specs.Numbers.{unsigned_of}

abbrev pub figure_words : ℤ → ℤ → ℕ → ℤ → List ℕ
figure_words cash equity positions profit = unsigned_of cash ∷ unsigned_of equity ∷ positions ∷ unsigned_of profit ∷ []
