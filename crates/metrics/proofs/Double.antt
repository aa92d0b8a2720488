-- The library's absolute value of a double is that of the figures.
use mathlib.Core.Path.{◌≡◌, refl}
use mathlib.Core.Bool.{false}
use lib.Ieee.{Float, nan, inf, fin}
use Rattle.std.specs.Float.{float_with_sign}
use Rattle.metrics.specs.Double.{absolute}

pub absolute_is : (x : Float) → float_with_sign false x ≡ absolute x
unfolding float_with_sign absolute
absolute_is nan = refl
absolute_is (inf s) = refl
absolute_is (fin s m e) = refl
