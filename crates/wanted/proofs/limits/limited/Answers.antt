-- Skipped where the notional of what is left is below the minimum, which it never is where that is 0 or less.
use mathlib.Core.Path.{◌≡◌, refl}
use mathlib.Core.Bool.{Bool, true, false}
use native.Mathlib.Omega.{arith}
use borrow.Author.Rules.{rules}
use mir.Syntax.{w64}
use mir.Val.{SFits}
use mir.Facts.{to_z-of_z}
use lib.IntN.{ℤ, pos, negsuc}
use lib.Dec.{ltb}
use Prim.Native.Nat.{ℕ}
use borrow.Author.Tests.{ltb-true, ltb-false}
use lib.Signed.{lt_z, le_z}
use Rattle.sums.proofs.Laws.{notional_nonneg}
use Rattle.wanted.specs.Plan.{limited}
use Rattle.wanted.proofs.limits.limited.Goals as goal
use Rattle.wanted.proofs.limits.limited.Goals.{else-s-gt0-via-then-s-gt0+else-notional_of-s, else-s-gt0-via-else-s-gt0}

-- a notional is not below a minimum of 0 or less
not_below : (n m : ℤ) → le_z (pos 0) n ≡ true → lt_z (pos 0) m ≡ false → lt_z n m ≡ false
not_below (pos a) (pos b) h g = go (ltb a b) refl
  where
    go : (t : Bool) → ltb a b ≡ t → t ≡ false
    go false e = refl
    go true e = absurd (omega (arith, ltb-true a b e, ltb-false 0 b g))
not_below (pos a) (negsuc b) h g = refl
not_below (negsuc a) m h g = absurd (let z : ◌≡◌ {A = ℕ} 0 1 = cc in omega arith)

pub returns-then-notional_of-s : goal.returns-then-notional_of-s
unfolding limited
returns-then-notional_of-s c =
    let m : SFits w64 c.args.s.min_order_value = search rules in
    let n = c.notional_of in
    let u = c.under_maximum-left in
    let f : SFits w64 n.result = record { sfits = n.type_inv } in
    let below = simp (n.ensures, u.ensures, to_z-of_z c.ranges.price) at (simp (to_z-of_z f, to_z-of_z m) at c.if-notional_of-s.true) in
    simp below

pub returns-else-s-gt0 : goal.returns-else-s-gt0
unfolding limited
returns-else-s-gt0 c =
    let m : SFits w64 c.args.s.min_order_value = search rules in
    let u = c.under_maximum-left in
    let left = simp (to_z-of_z c.ranges.price) at u.ensures in
    elim c.else-s-gt0.branch [
      | else-s-gt0-via-then-s-gt0+else-notional_of-s w ↦
          let n = w.notional_of in
          let f : SFits w64 n.result = record { sfits = n.type_inv } in
          let enough = simp (n.ensures, u.ensures, to_z-of_z c.ranges.price) at (simp (to_z-of_z f, to_z-of_z m) at w.if-notional_of-s.false) in
          simp enough left
      | else-s-gt0-via-else-s-gt0 w ↦
          let none = simp (to_z-of_z m) at w.if-s-gt0.false in
          rw (not_below _ _ (notional_nonneg _ _) none) left
    ]
