-- Lists in ascending order of a key: the search, the insertion, and the order itself.
use Rattle.std.specs.Prelude.{ℕ, List, [], ◌∷◌, Bool, true, false, eqb, leb, ltb, length}
use Rattle.std.proofs.Math.Option.{Option, none, some}
pub use Rattle.answer.specs.Choice.{pick, both, all}

abbrev pub there : {A : Type 0} → Option A → Bool
there none = false
there (some a) = true

abbrev pub or_else : {A : Type 0} → A → Option A → A
or_else d none = d
or_else d (some a) = a

-- 1 for what the list lacks
abbrev pub new : {A : Type 0} → Option A → ℕ
new none = 1
new (some a) = 0

-- the element of a key, in a list that ascends
abbrev pub seek : {A : Type 0} → (A → ℕ) → ℕ → List A → Option A
seek key s [] = none
seek key s (q ∷ qs) = pick (leb s (key q)) (pick (eqb (key q) s) (some q) none) (seek key s qs)

-- the element in the place of the one with its key, or inserted before the first of a greater key
abbrev pub put : {A : Type 0} → (A → ℕ) → A → List A → List A
put key p [] = p ∷ []
put key p (q ∷ qs) = pick (leb (key p) (key q)) (pick (eqb (key q) (key p)) (p ∷ qs) (p ∷ (q ∷ qs))) (q ∷ put key p qs)

-- "At most 64 positions": without room for a new one the list stays as it is
abbrev pub put64 : {A : Type 0} → (A → ℕ) → A → List A → List A
put64 key p ps = pick (there (seek key (key p) ps)) (put key p ps) (pick (ltb (length ps) 64) (put key p ps) ps)

-- "strictly ascending"
abbrev pub over : ℕ → List ℕ → Bool
over k [] = true
over k (x ∷ l) = ltb k x

abbrev pub ascending : List ℕ → Bool
ascending [] = true
ascending (x ∷ l) = both (over x l) (ascending l)
