-- A choice between two answers, each with the account in it read back.
use mathlib.Core.Path.{◌≡◌, ap, ◌∙◌}
use mathlib.Core.Bool.{Bool, true, false}
use Rattle.table.specs.Keyed.{pick}

pub picked : {A B : Type 0} (f : A → B) {b c : Bool} {x y : B} {u v : A} → b ≡ c → x ≡ f u → y ≡ f v → pick b x y ≡ f (pick c u v)
picked f {c = c} {x = x} {y = y} {u = u} {v = v} e p q = ap (λ b. pick b x y) e ∙ go c
  where
    go : (c : Bool) → pick c x y ≡ f (pick c u v)
    go true = p
    go false = q
