-- At an equity above 0 a drift is a number, not below 0, so that drifts can be compared.
use Prim.Native.Nat.{ℕ, zero, suc, ◌*◌, ◌^◌, ◌≤◌, ◌<◌}
use mathlib.Core.Path.{◌≡◌, refl}
use mathlib.Core.Bool.{Bool, true, false, cond}
use native.Mathlib.Omega.{arith}
use lib.Dec.{T, eqb}
use lib.IntN.{ℤ, pos, negsuc, nat_abs}
use lib.Signed.{le_z}
use lib.Ieee.{Float, nan, inf, fin, binary64, up, down, round, mul, div, le, is_nan, of_int}
use lib.Ieee.Fits.{down_pos}
use mir.Syntax.{w64}
use mir.Val.{SFits}
use borrow.Author.Tests.{eqb-true}
use Rattle.sums.proofs.Ints.{nat_abs_parts, P-fits, N-fits}
use Rattle.doubles.specs.Doubles.{one, ten_thousand, finite, of_u64, of_i64}
use Rattle.doubles.proofs.Order.{clear, round_clear, le-fin→}
use Rattle.doubles.proofs.Laws.{of_u64_mono, of_u64_clear, of_u64-finite}
use Rattle.sizing.specs.Sizing.{drift}

-- ---- over a number of at least 1
not_none : (n : ℕ) (d : ℤ) → T (le one (fin false n d)) → n ≡ 0 → ⊥
not_none zero d h e = let q : 1 * up (pos 0) * down d ≤ 0 * up d * down (pos 0) = le-fin→ false 1 (pos 0) false 0 d h in omega (arith, down_pos d)
not_none (suc n) d h e = omega arith

div_clear : (x y : Float) → T (clear x) → T (finite x) → T (le one y) → T (finite y) → T (clear y) → T (clear (div binary64 x y))
unfolding div
div_clear nan y p f h g q = absurd p
div_clear (inf s) y p f h g q = absurd f
div_clear (fin true m e) y p f h g q = absurd p
div_clear (fin false m e) nan p f h g q = absurd q
div_clear (fin false m e) (inf t) p f h g q = absurd g
div_clear (fin false m e) (fin true n d) p f h g q = absurd q
div_clear (fin false m e) (fin false n d) p f h g q = go (eqb n 0) refl
  where
    go : (b : Bool) → eqb n 0 ≡ b → T (clear (cond b (cond (eqb m 0) nan (inf false)) (round binary64 false (m * up e * down d) (n * up d * down e))))
    go true z = absurd (not_none n d h (eqb-true n 0 z))
    go false z = round_clear binary64 (m * up e * down d) (n * up d * down e)

times_clear : (x : Float) → T (clear x) → T (clear (mul binary64 x ten_thousand))
unfolding mul
times_clear nan p = p
times_clear (inf true) p = absurd p
times_clear (inf false) p = tt
times_clear (fin true m e) p = absurd p
times_clear (fin false m e) p = round_clear binary64 (m * up e * (625 * up (pos 4))) (down e * down (pos 4))

one_is : of_u64 1 ≡ one
unfolding of_int round
one_is = refl

module _ (v equity : ℤ) (fv : SFits w64 v) (fe : SFits w64 equity) where
  -- no NaN, and its sign is clear
  pub drift_clear : le_z (pos 1) equity ≡ true → T (clear (drift v equity))
  unfolding drift
  drift_clear h = times_clear _ (go equity fe h)
    where
      small : nat_abs v < 2 ^ 64
      small = omega (arith, nat_abs_parts v, P-fits v fv, N-fits v fv)

      go : (z : ℤ) → SFits w64 z → le_z (pos 1) z ≡ true → T (clear (div binary64 (of_u64 (nat_abs v)) (of_i64 z)))
      go (pos zero) f g = let z : ◌≡◌ {A = ℕ} 0 1 = cc in absurd (omega arith)
      go (negsuc n) f g = let z : ◌≡◌ {A = ℕ} 0 1 = cc in absurd (omega arith)
      go (pos (suc n)) f g = div_clear (of_u64 (nat_abs v)) (of_u64 (suc n)) (of_u64_clear (nat_abs v)) (of_u64-finite (nat_abs v) small) (rw one_is at (of_u64_mono 1 (suc n) (omega arith))) (of_u64-finite (suc n) (omega (arith, f.sfits))) (of_u64_clear (suc n))

pub clear_number : (x : Float) → T (clear x) → is_nan x ≡ false
unfolding is_nan
clear_number nan p = absurd p
clear_number (inf s) p = refl
clear_number (fin s m e) p = refl
