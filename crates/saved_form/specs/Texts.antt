-- "a symbol is its length and bytes": its bytes without padding, and the number that they spell.
use Rattle.std.specs.Prelude.{ℕ, ◌-◌, Bool, List, [], ◌∷◌, ◌++◌, eqb, leb, length, get_or}
use Rattle.answer.specs.Choice.{pick, both}
use Rattle.position.specs.Symbols.{symbol_bytes, of_bytes}
use Rattle.seven_bit.specs.Groups.{groups}

-- the bytes up to the first zero
unfoldable pub unpadded : List ℕ → List ℕ
unpadded [] = []
unpadded (b ∷ bs) = pick (eqb b 0) [] (b ∷ unpadded bs)

abbrev pub text_of : ℕ → List ℕ
text_of s = unpadded (symbol_bytes s)

unfoldable pub symbol_file : ℕ → List ℕ
symbol_file s = groups (length (text_of s)) ++ text_of s

-- "a symbol length outside 1 to 8"
abbrev pub good_length_of : ℕ → Bool
good_length_of n = both (leb 1 n) (leb n 8)

-- The number of a text. A text that ends in a zero would have a shorter one's: it spells 0, which is no symbol.
unfoldable pub spelt : List ℕ → ℕ
spelt t = pick (eqb (get_or t (length t - 1) 0) 0) 0 (of_bytes t)
