-- Weights as bytes: an entry is two words, a symbol's text and a double. Definitions only.
use Rattle.std.specs.Prelude.{ℕ, ◌/◌, min, List, [], ◌∷◌, Float, length, take}
use Rattle.word_bytes.specs.Words.{bytes_of, turned}
use Rattle.word_bytes.specs.Numbers.{pattern_of}
use Rattle.fills.specs.Records.{fronted}

-- the words of symbols with their weights
unfoldable pub pair_words : List ℕ → List Float → List ℕ
pair_words [] ws = []
pair_words (s ∷ ss) [] = []
pair_words (s ∷ ss) (w ∷ ws) = turned s ∷ pattern_of w ∷ pair_words ss ws

abbrev pub weight_bytes : List ℕ → List Float → List ℕ
weight_bytes ss ws = bytes_of (pair_words ss ws)

-- how many weights are written: as many as the count, columns of 64 and so many bytes allow
abbrev pub weights_fitting : ℕ → ℕ → ℕ
weights_fitting count out = min count (min 64 (out / 16))

-- in the first places, and the rest as found
unfoldable pub written_weights : ℕ → List ℕ → List Float → List ℕ → List ℕ
written_weights count ss ws out = fronted (weight_bytes (take (weights_fitting count (length out)) ss) (take (weights_fitting count (length out)) ws)) out
