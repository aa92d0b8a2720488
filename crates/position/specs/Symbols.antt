-- A symbol's bytes in its number: document 01, "Symbols: 1 to 8 bytes, each 33 to 126, padded with zeros, ordered by unsigned bytes."
use Rattle.std.specs.Prelude.{ℕ, zero, suc, ◌+◌, ◌*◌, ◌/◌, ◌%◌, ◌^◌, Bool, true, false, not, cond, ◌&&◌, List, [], ◌∷◌, leb, ltb, eqb, get_or}
use Rattle.answer.specs.Choice.{all}

-- the first k bytes of a number of 64 bits, the highest one first: each takes the top place in its turn
unfoldable pub bytes_from : ℕ → ℕ → List ℕ
bytes_from zero n = []
bytes_from (suc k) n = n / 2 ^ 56 ∷ bytes_from k (n % 2 ^ 56 * 256)

abbrev pub symbol_bytes : ℕ → List ℕ
symbol_bytes n = bytes_from 8 n

-- the number of the first k bytes, a missing one being zero
unfoldable pub leading : List ℕ → ℕ → ℕ
leading bs zero = 0
leading bs (suc k) = leading bs k * 256 + get_or bs k 0

abbrev pub of_bytes : List ℕ → ℕ
of_bytes bs = leading bs 8

-- "each 33 to 126"
abbrev pub good_byte : ℕ → Bool
good_byte b = leb 33 b && leb b 126

abbrev pub zeros : List ℕ → Bool
zeros l = all (λ x. eqb x 0) l

-- good bytes, "padded with zeros"
unfoldable pub padded : List ℕ → Bool
padded [] = true
padded (b ∷ bs) = cond (good_byte b) (padded bs) (zeros (b ∷ bs))

-- "1 to 8 bytes": not all of them padding
unfoldable pub good_symbol : ℕ → Bool
good_symbol n = not (zeros (symbol_bytes n)) && padded (symbol_bytes n)

-- "ordered by unsigned bytes": the first byte in which two differ decides
unfoldable pub before : List ℕ → List ℕ → Bool
before [] ys = false
before (x ∷ xs) [] = false
before (x ∷ xs) (y ∷ ys) = cond (eqb x y) (before xs ys) (ltb x y)
