-- Laws of stores in a row, for whoever writes lent places: a run after a run, and a run over every place.
use Prim.Native.Nat.{ℕ, suc, ◌+◌}
use mathlib.Core.Path.{◌≡◌, ap, ◌∙◌}
use mathlib.Core.List.{List, [], ◌∷◌, ◌++◌, append-nil}
use native.Mathlib.Omega.{arith}
use lib.ListN.{length, set, drop_of_length-le}
use lib.Seq.{sets, sets-eq}

-- a run after a run that ends where it begins
pub sets_append : {A : Type 0} (l : List A) (i : ℕ) (x y : List A) (j : ℕ) → j ≡ i + length x → sets (sets l i x) j y ≡ sets l i (x ++ y)
sets_append l i [] y j e = let z : j ≡ i = omega arith in ap (λ (k : ℕ). sets l k y) z
sets_append l i (v ∷ x) y j e = sets_append (set l i v) (suc i) x y j (omega arith)

-- what was there before a store into each place does not show
pub sets_all : {A : Type 0} (l vs : List A) → length l ≡ length vs → sets l 0 vs ≡ vs
sets_all l vs e =
    sets-eq vs l 0 (omega arith)
    ∙ ap (λ (r : List _). vs ++ r) (drop_of_length-le l {i = 0 + length vs} (omega arith))
    ∙ append-nil vs
