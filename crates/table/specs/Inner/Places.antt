-- What a search answers: the place of a key, or the place at which it would be inserted.
use Rattle.std.specs.Prelude.{ℕ, ◌+◌, ◌≤◌, ◌<◌, ◌≡◌, List, [], ◌∷◌, length, eqb, leb, ltb}
use Rattle.table.specs.Keyed.{pick}
use Rattle.table.specs.Inner.Keyed.{Rising}
use Rattle.table.specs.declared.found.Found.{Found}
use Rattle.table.specs.declared.found.Found.TheVariants.{At, Absent}

abbrev pub shorter : ℕ → ℕ → ℕ
shorter n m = pick (ltb n m) n m

-- among keys that start at place i
abbrev pub found_from : ℕ → ℕ → List ℕ → Found
found_from i s [] = Absent i
found_from i s (k ∷ ks) = pick (leb s k) (pick (eqb k s) (At i) (Absent i)) (found_from (i + 1) s ks)

abbrev pub found : ℕ → List ℕ → Found
found s ks = found_from 0 s ks

-- a place of m, or the one after them
abbrev pub Within : ℕ → Found → Type 0
Within m (At i) = i < m
Within m (Absent i) = i ≤ m

pub record Finds (s : ℕ) (ks : List ℕ) (r : Found) : Type 0 where
  pub within : Within (length ks) r
  pub settled : Rising ks → r ≡ found s ks
