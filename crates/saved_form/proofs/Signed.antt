-- A signed number that a call was given, through the bits that hold it.
use mathlib.Core.Path.{◌≡◌, ◌∙◌, ap}
use Prim.Native.Nat.{ℕ}
use lib.IntN.{ℤ}
use mir.Syntax.{w64}
use mir.Val.{to_z, of_z, SFits}
use mir.ValLaws.{to_z-of_z}
use Rattle.seven_bit.specs.Signed.{folded}

pub folds : {r : ℕ} {z : ℤ} → SFits w64 z → r ≡ folded (to_z w64 (of_z w64 z)) → r ≡ folded z
folds {z = z} f e = e ∙ ap folded (to_z-of_z w64 z f)
