-- Keys that ascend, as a fact.
use Rattle.std.specs.Prelude.{ℕ, ◌≤◌, ◌<◌, List, [], ◌∷◌}

-- "strictly ascending"
abbrev pub Over : ℕ → List ℕ → Type 0
Over k [] = 0 ≤ 0
Over k (x ∷ l) = k < x

abbrev pub Rising : List ℕ → Type 0
Rising [] = 0 ≤ 0
Rising (x ∷ l) = Over x l × Rising l
