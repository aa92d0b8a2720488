-- Entries of two words in bytes: how many there are, and a column of what stands at their places. Definitions only.
use Rattle.std.specs.Prelude.{ℕ, zero, suc, ◌/◌, ◌%◌, Bool, List, [], ◌∷◌, ◌++◌, eqb, leb, length}
use Rattle.table.specs.Keyed.{both}

-- whether n bytes are a whole number of entries, and no more than the bound
abbrev pub is_whole : ℕ → ℕ → Bool
is_whole most n = both (eqb (n % 16) 0) (leb (n / 16) most)

abbrev pub whole_list : ℕ → List ℕ → Bool
whole_list most l = is_whole most (length l)

-- what f gives at the places 0 to n - 1
unfoldable pub at_places_of : {A : Type 0} → ℕ → (ℕ → A) → List A
at_places_of zero f = []
at_places_of (suc n) f = at_places_of n f ++ (f n ∷ [])
