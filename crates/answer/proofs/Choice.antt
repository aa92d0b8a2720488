-- Laws of a choice by a test.
use mathlib.Core.Path.{◌≡◌, refl}
use mathlib.Core.Bool.{Bool, true, false}
use Rattle.answer.specs.Choice.{pick, both}

-- what holds of each, by the test, holds of what is picked
pub by_test : {A : Type 0} (Q : A → Type 0) (t : Bool) (x y : A) → (t ≡ true → Q x) → (t ≡ false → Q y) → Q (pick t x y)
by_test Q true x y f g = f refl
by_test Q false x y f g = g refl

pub both_false : (a : Bool) → both a false ≡ false
both_false true = refl
both_false false = refl

pub both_true : (a b : Bool) → both a b ≡ true → (a ≡ true) × (b ≡ true)
both_true true b e = (refl, e)
both_true false b e = cc
