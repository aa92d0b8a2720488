-- Laws of share counts.
use Prim.Native.Nat.{ℕ, suc, ◌-◌, ◌^◌}
use mathlib.Core.Path.{◌≡◌, refl, ap}
use mathlib.Core.Bool.{true, false}
use native.Mathlib.Omega.{arith}
use lib.IntN.{ℤ, pos, negsuc}
use lib.Signed.{lt_z, le_z}
use lib.Dec.{eqb}
use borrow.Author.Tests.{eqb-true, ne_eqb}
use mir.Syntax.{w64}
use mir.Val.{SFits, of_z}
use Rattle.sums.proofs.Ints.{lt_yes, lt_no, le_is, gt_is}
use Rattle.position.specs.Shares.{is_zero}

-- ---- zero
pub zero_bits : (z : ℤ) → SFits w64 z → eqb (of_z w64 z) 0 ≡ is_zero z
unfolding is_zero
zero_bits (pos n) f = refl
zero_bits (negsuc n) f = ne_eqb (2 ^ 64 - suc n) 0 (λ e. omega (arith, f.sfits, e))

pub zero_is : (z : ℤ) → is_zero z ≡ true → z ≡ pos 0
unfolding is_zero
zero_is (pos n) e = ap pos (eqb-true n 0 e)
zero_is (negsuc n) e = absurd (let z : ◌≡◌ {A = ℕ} 0 1 = cc in omega arith)

-- ---- the other side of a test
pub lt_not_ge : (a b : ℤ) → lt_z a b ≡ true → le_z b a ≡ false
lt_not_ge a b h = gt_is b a (omega (arith, lt_yes a b h))

pub not_lt_ge : (a b : ℤ) → lt_z a b ≡ false → le_z b a ≡ true
not_lt_ge a b h = le_is b a (omega (arith, lt_no a b h))
