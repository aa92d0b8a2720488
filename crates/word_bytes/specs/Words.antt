-- A run of bytes as words of 64 bits, eight bytes a word. Definitions only.
use Rattle.std.specs.Prelude.{ℕ, zero, suc, ◌+◌, ◌*◌, ◌/◌, ◌%◌, cond, List, [], ◌∷◌, ◌++◌, reverse, ltb, length, get_or, take, drop}
use Rattle.std.proofs.lemmas.List.Edits.{sets}

-- The number of a run of bytes, little-endian: the first is the lowest.
abbrev pub little : List ℕ → ℕ
little [] = 0
little (b ∷ l) = b + 256 * little l

-- The same big-endian, as text is read: the first is the highest.
abbrev pub big : List ℕ → ℕ
big l = little (reverse l)

-- The n low bytes of a number, the lowest first.
abbrev pub digits : ℕ → ℕ → List ℕ
digits zero w = []
digits (suc n) w = (w % 256) ∷ digits n (w / 256)

-- The first n words of a run of bytes.
unfoldable pub words_in : ℕ → List ℕ → List ℕ
words_in zero l = []
words_in (suc n) l = little (take 8 l) ∷ words_in n (drop 8 l)

-- The words of a run of bytes. Fewer than eight bytes that are left at its end are no word.
abbrev pub words_of : List ℕ → List ℕ
words_of l = words_in (length l / 8) l

-- The bytes of words.
unfoldable pub bytes_of : List ℕ → List ℕ
bytes_of [] = []
bytes_of (w ∷ ws) = digits 8 w ++ bytes_of ws

-- The word at place i, of the bytes 8i to 8i + 7; past the last, 0.
abbrev pub word_at : List ℕ → ℕ → ℕ
word_at l i = get_or (words_of l) i 0

-- The bytes with w as the word at place i, all others as found; where it does not fit, all as found.
unfoldable pub put_word : List ℕ → ℕ → ℕ → List ℕ
put_word l i w = cond (ltb i (length l / 8)) (sets l (8 * i) (digits 8 w)) l

-- A word with its bytes in the other order: the number of a symbol, and the word that its text is.
unfoldable pub turned : ℕ → ℕ
turned w = big (digits 8 w)

-- A symbol stands as its text: document 01's "1 to 8 bytes, [..] padded with zeros", in reading order.
abbrev pub symbol_at : List ℕ → ℕ → ℕ
symbol_at l i = turned (word_at l i)

abbrev pub put_symbol : List ℕ → ℕ → ℕ → List ℕ
put_symbol l i s = put_word l i (turned s)
