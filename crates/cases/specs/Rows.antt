-- A row of the table of cases: what the definitions answer, and what document 01 says.
use Rattle.std.specs.Prelude.{ℕ, Bool, true, false, ◌&&◌, List, [], ◌∷◌, eqb, ℤ, pos, negsuc}

pub record Row : Type 0 where
  pub answered : List ℤ
  pub expected : List ℤ

abbrev pub says : List ℤ → List ℤ → Row
says answered expected = record { answered = answered; expected = expected }

abbrev pub same_number : ℤ → ℤ → Bool
same_number (pos m) (pos n) = eqb m n
same_number (pos m) (negsuc n) = false
same_number (negsuc m) (pos n) = false
same_number (negsuc m) (negsuc n) = eqb m n

abbrev pub same_numbers : List ℤ → List ℤ → Bool
same_numbers [] [] = true
same_numbers [] (y ∷ ys) = false
same_numbers (x ∷ xs) [] = false
same_numbers (x ∷ xs) (y ∷ ys) = same_number x y && same_numbers xs ys

-- each row's answers are those of the document
abbrev pub all_right : List Row → Bool
all_right [] = true
all_right (r ∷ rs) = same_numbers r.answered r.expected && all_right rs
