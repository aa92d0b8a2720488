-- How definitions choose by a test. `pick`, the first where the test holds and else the second, is the kit's `cond`, and `both` its `&&`, before what it joins.
use Rattle.std.specs.Prelude.{Bool, true, ◌&&◌, List, [], ◌∷◌}
pub use Rattle.std.specs.Prelude.{cond as pick}

abbrev pub both : Bool → Bool → Bool
both a b = a && b

-- the test of every member
abbrev pub all : {A : Type 0} → (A → Bool) → List A → Bool
all f [] = true
all f (x ∷ l) = both (f x) (all f l)
