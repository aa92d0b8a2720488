-- Lists of targets and of prices, as parallel lists of numbers.
use Rattle.std.specs.Prelude.{ℕ, suc, Bool, true, false, not, List, [], ◌∷◌, eqb, ltb, length, ℤ, pos, Option, Some, None}
use Rattle.std.specs.Int.Signed.{le_z}
use Rattle.position.specs.Symbols.{good_symbol}
use Rattle.table.specs.Keyed.{pick, both, all}

-- whether the symbol stands in the list
unfoldable pub among : ℕ → List ℕ → Bool
among s [] = false
among s (k ∷ ks) = pick (eqb k s) true (among s ks)

-- not "a symbol is bad"
unfoldable pub all_good : List ℕ → Bool
all_good = all good_symbol

-- not "a symbol stands twice in one list"
unfoldable pub distinct : List ℕ → Bool
distinct [] = true
distinct (s ∷ l) = both (not (among s l)) (distinct l)

-- not "a price is below 1"
unfoldable pub all_priced : List ℤ → Bool
all_priced = all (le_z (pos 1))

-- "the first offending index": how many members pass the test before the first that does not
unfoldable pub first_failing : {A : Type 0} → (A → Bool) → List A → ℕ
first_failing t [] = 0
first_failing t (x ∷ l) = pick (t x) (suc (first_failing t l)) 0

abbrev pub first_bad : List ℕ → ℕ
first_bad = first_failing good_symbol

abbrev pub first_unpriced : List ℤ → ℕ
first_unpriced = first_failing (le_z (pos 1))

-- "for 3 that is the index of the second appearance whose index is smallest": how many symbols, each new after those before it, stand before the first that is not
unfoldable pub repeat_after : List ℕ → List ℕ → ℕ
repeat_after before [] = 0
repeat_after before (s ∷ l) = pick (among s before) 0 (suc (repeat_after (s ∷ before) l))

abbrev pub first_repeat : List ℕ → ℕ
first_repeat = repeat_after []

-- the price that the list gives a symbol; 0 where it gives none, which no listed price is
unfoldable pub price_of : List ℕ → List ℤ → ℕ → ℤ
price_of [] ps s = pos 0
price_of (k ∷ ks) [] s = pos 0
price_of (k ∷ ks) (p ∷ ps) s = pick (eqb k s) p (price_of ks ps s)

-- a place in a list, none where it is past the last
abbrev pub place_in : {A : Type 0} → List A → ℕ → Option ℕ
place_in l i = pick (ltb i (length l)) (Some i) None
