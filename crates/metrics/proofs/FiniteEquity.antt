-- An equity that is finite at the end tells that every return was: what is not finite stays so under the products that follow.
use mathlib.Core.Path.{◌≡◌, refl, sym, ◌∙◌}
use mathlib.Core.Bool.{Bool, true, false, cond}
use mathlib.Core.List.{List, [], ◌∷◌, foldl}
use lib.Dec.{eqb}
use lib.Ieee.{Float, nan, inf, fin, binary64, unlike, add, mul}
use Rattle.doubles.specs.Doubles.{finite, all_finite}
use Rattle.metrics.specs.Double.{one}
use Rattle.metrics.specs.Curve.{compounded, curve_after}
use Rattle.metrics.specs.declared.curve.Curve.{Curve}

never_finite : (z s : Bool) → finite (cond z nan (inf s)) ≡ false
never_finite true s = refl
never_finite false s = refl

factors_finite : (x y : Float) → finite (mul binary64 x y) ≡ true → (finite x ≡ true) × (finite y ≡ true)
unfolding mul
factors_finite nan y h = (h, cc)
factors_finite (inf s) nan h = (h, h)
factors_finite (inf s) (inf t) h = (h, h)
factors_finite (inf s) (fin t n d) h = (sym (never_finite (eqb n 0) (unlike s t)) ∙ h, refl)
factors_finite (fin s m e) nan h = (refl, h)
factors_finite (fin s m e) (inf t) h = (refl, sym (never_finite (eqb m 0) (unlike s t)) ∙ h)
factors_finite (fin s m e) (fin t n d) h = (refl, refl)

return-finite : (r : Float) → finite (add binary64 one r) ≡ true → finite r ≡ true
unfolding add
return-finite nan h = h
return-finite (inf s) h = h
return-finite (fin s m e) h = refl

pub equity-finite : (c : Curve) (rs : List Float) → finite (foldl curve_after c rs).equity ≡ true → (finite c.equity ≡ true) × (all_finite rs ≡ true)
unfolding curve_after compounded all_finite
equity-finite c [] h = (h, refl)
equity-finite c (r ∷ rs) h =
    let rest = equity-finite (curve_after c r) rs h in
    let both = factors_finite c.equity (add binary64 one r) rest.0 in
    (both.0, simp (return-finite r both.1, rest.1))
