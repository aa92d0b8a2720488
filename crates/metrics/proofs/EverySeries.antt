-- What holds of the figures of every series: the counts fit it, a drawdown is never negative, and zeros change nothing.
use Prim.Native.Nat.{ℕ, zero, suc, ◌+◌, ◌*◌, ◌^◌, ◌≤◌}
use mathlib.Core.Path.{◌≡◌, refl, sym, ap, ◌∙◌, subst}
use mathlib.Core.Bool.{Bool, true, false, cond, not, ◌&&◌, ◌||◌, beq}
use mathlib.Core.List.{List, [], ◌∷◌, foldl}
use native.Mathlib.Nat.{zero-mul, mul-one, one-mul}
use native.Mathlib.Omega.{arith}
use lib.Dec.{T, ltb, eqb, eqb→eq}
use lib.IntN.{ℤ, pos, negsuc}
use lib.ListN.{length}
use lib.Pow.{pow_pos}
use lib.Ieee.{Float, nan, inf, fin, binary64, up, down, lt, eq, le, fits, add, sub, mul, div}
use lib.Ieee.Fits.{up_pos, and_l}
use borrow.Author.Tests.{ltb-true, lt-ltb}
use Rattle.doubles.proofs.Order.{no_product}
use Rattle.metrics.proofs.OnePass.{equity_is}
use Rattle.metrics.specs.Double as D
use Rattle.metrics.specs.Double.{one}
use Rattle.metrics.specs.Curve.{compounded, raised, fallen, flat, curve_after}
use Rattle.metrics.specs.Tally.{wins, loses}
use Rattle.metrics.specs.Series.{total_return_of, max_drawdown_of, filtered, winning_periods_of, losing_periods_of}
use Rattle.metrics.specs.declared.curve.Curve.{Curve}

-- ---- counts
never_both : (r : Float) → wins r ≡ true → loses r ≡ true → ◌≡◌ {A = ℕ} 0 1
unfolding lt
never_both nan w l = cc
never_both (inf true) w l = cc
never_both (inf false) w l = cc
never_both (fin true m e) w l = cc
never_both (fin false m e) w l =
    let h = ltb-true (m * up e * 1) (0 * 1 * down e) l in
    omega (arith, zero-mul (down e))

pub counts_within : (rs : List Float) → winning_periods_of rs + losing_periods_of rs ≤ length rs
unfolding winning_periods_of losing_periods_of filtered
counts_within [] = omega arith
counts_within (r ∷ rs) = go (wins r) (loses r) (never_both r) (counts_within rs)
  where
    go : (a b : Bool) → (a ≡ true → b ≡ true → ◌≡◌ {A = ℕ} 0 1) → length (filtered wins rs) + length (filtered loses rs) ≤ length rs
        → length (cond a (r ∷ filtered wins rs) (filtered wins rs)) + length (cond b (r ∷ filtered loses rs) (filtered loses rs)) ≤ suc (length rs)
    go true true n h = let z = n refl refl in omega arith
    go true false n h = omega arith
    go false true n h = omega arith
    go false false n h = omega arith

-- ---- drawdown
-- no NaN, and the sign is clear
abbrev plain : Float → Bool
plain nan = false
plain (inf s) = not s
plain (fin s m e) = not s

never : false ≡ true → ⊥
never h = subst T (sym h) tt

-- what is above a plain double is plain
plain-above : (x y : Float) → T (plain x) → lt x y ≡ true → T (plain y)
unfolding lt
plain-above nan y p h = absurd p
plain-above (inf true) y p h = absurd p
plain-above (inf false) nan p h = absurd (never h)
plain-above (inf false) (inf t) p h = absurd (never h)
plain-above (inf false) (fin t n d) p h = absurd (never h)
plain-above (fin true m e) y p h = absurd p
plain-above (fin false m e) nan p h = absurd (never h)
plain-above (fin false m e) (inf false) p h = tt
plain-above (fin false m e) (inf true) p h = absurd (never h)
plain-above (fin false m e) (fin false n d) p h = tt
plain-above (fin false m e) (fin true n d) p h = absurd (never h)

plain-raised : (x y : Float) → T (plain x) → T (plain (raised x y))
unfolding raised
plain-raised x y p = go (lt x y) refl
  where
    go : (b : Bool) → lt x y ≡ b → T (plain (cond b y x))
    go true h = plain-above x y p h
    go false h = p

plain_curve : (c : Curve) (rs : List Float) → T (plain c.max_drawdown) → T (plain (foldl curve_after c rs).max_drawdown)
unfolding curve_after
plain_curve c [] p = p
plain_curve c (r ∷ rs) p = plain_curve (curve_after c r) rs (plain-raised c.max_drawdown _ p)

plain-above-zero : (x : Float) → T (plain x) → T (le D.zero x)
unfolding le
plain-above-zero nan p = p
plain-above-zero (inf true) p = absurd p
plain-above-zero (inf false) p = tt
plain-above-zero (fin true m e) p = absurd p
plain-above-zero (fin false m e) p = simp zero-mul (go (m * up e * 1))
  where
    go : (b : ℕ) → T (ltb 0 b || (eqb 0 b && true))
    go zero = tt
    go (suc b) = subst (λ x. T (x || (eqb 0 (suc b) && true))) (sym (lt-ltb 0 (suc b) (omega arith))) tt

-- It is no NaN either, whatever arises on the way.
pub drawdown_not_negative : (rs : List Float) → T (le D.zero (max_drawdown_of rs))
unfolding max_drawdown_of
drawdown_not_negative rs = plain-above-zero _ (plain_curve flat rs tt)

-- ---- zeros
-- every member is a double that equals 0, of either sign
abbrev pub AllZero : List Float → Type 0
AllZero [] = Unit
AllZero (r ∷ rs) = T (fits binary64 r) × T (eq r D.zero) × AllZero rs

written_once : (e : ℤ) → up e * down e ≡ 1 → e ≡ pos 0
written_once (pos zero) h = refl
written_once (pos (suc k)) h = absurd (let q = pow_pos k in omega (arith, mul-one (2 ^ suc k)))
written_once (negsuc k) h = absurd (let q = pow_pos k in omega (arith, one-mul (2 ^ suc k)))

zero_is : (s : Bool) (m : ℕ) (e : ℤ) → T (fits binary64 (fin s m e)) → T (eq (fin s m e) D.zero) → fin s m e ≡ fin s 0 (pos 0)
unfolding eq fits
zero_is s m e f q = go m (no_product m (up e) (up_pos e) none) f
  where
    none : m * up e ≡ 0
    none = omega (arith, zero-mul (down e), eqb→eq (m * up e * 1) (0 * 1 * down e) (and_l (eqb (m * up e * 1) (0 * 1 * down e)) (beq s false || eqb (m * up e * 1) 0) q))

    go : (m : ℕ) → m ≡ 0 → T (fits binary64 (fin s m e)) → fin s m e ≡ fin s 0 (pos 0)
    go zero z f = ap (fin s 0) (written_once e (eqb→eq _ _ f))
    go (suc m) z f = absurd (omega arith)

-- 1 + 0 is 1, and 1 times 1 is 1
still : (s : Bool) → curve_after flat (fin s 0 (pos 0)) ≡ flat
unfolding curve_after compounded raised fallen mul add sub div lt
still true = refl
still false = refl

flat_still : (r : Float) → T (fits binary64 r) → T (eq r D.zero) → curve_after flat r ≡ flat
unfolding eq
flat_still nan f q = absurd q
flat_still (inf s) f q = absurd q
flat_still (fin s m e) f q = ap (curve_after flat) (zero_is s m e f q) ∙ still s

flat_stays : (rs : List Float) → AllZero rs → foldl curve_after flat rs ≡ flat
flat_stays [] z = refl
flat_stays (r ∷ rs) z = ap (λ c. foldl curve_after c rs) (flat_still r z.0 z.1) ∙ flat_stays rs z.2

pub zeros_drawdown : (rs : List Float) → AllZero rs → max_drawdown_of rs ≡ D.zero
unfolding max_drawdown_of
zeros_drawdown rs z = ap (λ c. c.max_drawdown) (flat_stays rs z)

pub zeros-return : (rs : List Float) → AllZero rs → total_return_of rs ≡ D.zero
unfolding total_return_of sub
zeros-return rs z = ap (λ x. sub binary64 x one) (sym (equity_is rs) ∙ ap (λ c. c.equity) (flat_stays rs z))
