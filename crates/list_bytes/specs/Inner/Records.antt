-- Records in number slices, whatever these hold, as bytes; and words put into bytes one after the other.
use Rattle.std.specs.Prelude.{ℕ, zero, suc, ◌+◌, ◌*◌, ◌/◌, min, List, [], ◌∷◌, ◌++◌, ℤ, pos, length, get_or}
use Rattle.word_bytes.specs.Words.{bytes_of, turned, put_word}
use Rattle.word_bytes.specs.Numbers.{unsigned_of}
use Rattle.fills.specs.Records.{fronted}
use Rattle.list_bytes.specs.Entries.{at_places_of}

-- the four words of the record at place i
abbrev pub four_at : List ℕ → ℕ → List ℕ
four_at ws i = get_or ws (4 * i) 0 ∷ get_or ws (4 * i + 1) 0 ∷ get_or ws (4 * i + 2) 0 ∷ turned (get_or ws (4 * i + 3) 0) ∷ []

-- the word of its signed number j
abbrev pub int_at : List ℤ → ℕ → ℕ → ℕ
int_at is i j = unsigned_of (get_or is (8 * i + j) (pos 0))

-- the words of the first n records
unfoldable pub rows_in : ℕ → List ℕ → List ℤ → List ℕ
rows_in zero ws is = []
rows_in (suc n) ws is = rows_in n ws is ++ (four_at ws n ++ at_places_of 8 (int_at is n))

-- how many records are written: as many as the count and three slices of these lengths allow
abbrev pub fitting : ℕ → ℕ → ℕ → ℕ → ℕ
fitting count words ints out = min count (min (min (words / 4) (ints / 8)) (out / 96))

-- "records fill the first places [..] and the rest are as found"
unfoldable pub written_records : List ℕ → List ℤ → ℕ → List ℕ → List ℕ
written_records ws is count out = fronted (bytes_of (rows_in (fitting count (length ws) (length is) (length out)) ws is)) out

-- words from place k on
unfoldable pub put_all : List ℕ → ℕ → List ℕ → List ℕ
put_all l k [] = l
put_all l k (w ∷ ws) = put_all (put_word l k w) (k + 1) ws
