-- A pass that tests every double of a list: what it has found before a place, and that the place moves on.
use Prim.Native.Nat.{ℕ, ◌+◌, ◌≤◌, ◌<◌}
use mathlib.Core.Path.{◌≡◌, refl, sym, ap, ◌∙◌}
use mathlib.Core.Bool.{Bool, true, false, ◌&&◌}
use mathlib.Core.List.{List, ◌∷◌}
use native.Mathlib.Omega.{arith}
use native.Mathlib.Numerals.{add-one}
use lib.ListN.{length, drop, get_or, drop_of_length-le}
use lib.Seq.{drop-cons}
use lib.Ieee.{Float}
use Rattle.doubles.specs.Doubles.{finite, all_finite}

-- f says whether all before the place are finite
pub record Looking (xs : List Float) (f : Bool) (i : ℕ) : Type 0 where
  pub inside : i ≤ length xs
  pub all-finite : (f && all_finite (drop i xs)) ≡ all_finite xs

and_assoc : (a b c : Bool) → ((a && b) && c) ≡ (a && (b && c))
and_assoc true b c = refl
and_assoc false b c = refl

and-true : (a : Bool) → (a && true) ≡ a
and-true true = refl
and-true false = refl

module _ (xs : List Float) where
  pub drop-next : (i : ℕ) (d : Float) → i < length xs → drop i xs ≡ get_or xs i d ∷ drop (i + 1) xs
  drop-next i d l = rw add-one (drop-cons xs i d l)

  pub finite-first : Looking xs true 0
  finite-first = record { inside = omega arith; all-finite = refl }

  pub finite_on : (f : Bool) (i : ℕ) (d : Float) → i < length xs → Looking xs f i → Looking xs (f && finite (get_or xs i d)) (i + 1)
  unfolding all_finite
  finite_on f i d l g =
      record {
        inside = omega arith;
        all-finite = and_assoc f (finite (get_or xs i d)) (all_finite (drop (i + 1) xs)) ∙ sym (ap (λ l. f && all_finite l) (drop-next i d l)) ∙ g.all-finite;
      }

  pub finite-last : (f : Bool) (i : ℕ) → length xs ≤ i → Looking xs f i → f ≡ all_finite xs
  unfolding all_finite
  finite-last f i l g = sym (and-true f) ∙ sym (ap (λ l. f && all_finite l) (drop_of_length-le xs l)) ∙ g.all-finite
