-- Where a sum of winning or losing returns starts, at +0.0 or at the Rust's -0.0, shows only in the sum of nothing.
use Prim.Native.Nat.{ℕ, zero, suc, ◌+◌, ◌-◌, ◌*◌, ◌<◌}
use mathlib.Core.Path.{◌≡◌, refl, ap, ◌∙◌}
use mathlib.Core.Bool.{Bool, true, false, not, ◌&&◌, ◌||◌, beq}
use mathlib.Core.List.{List, ◌∷◌, foldl}
use native.Mathlib.Nat.{zero-mul}
use native.Mathlib.Omega.{arith}
use lib.Dec.{eqb}
use lib.Ieee.{Float, nan, inf, fin, binary64, up, down, ne, sum, round, add}
use borrow.Author.Tests.{lt-ltb}
use Rattle.doubles.proofs.Chain.{minus_zero}
use Rattle.metrics.specs.Double as D

same_sum : (t : Bool) (a b c : ℕ) → a ≡ 0 → 0 < b → sum binary64 true a t b c ≡ sum binary64 false a t b c
unfolding sum
same_sum false a b c z l =
    let h : a < b = omega arith in
    let e : b - a ≡ a + b = omega arith in
    rw (lt-ltb a b h) (ap (λ n. round binary64 false n c) e)
same_sum true a b c z l =
    let h : a < b = omega arith in
    let e : a + b ≡ b - a = omega arith in
    rw (lt-ltb a b h) (ap (λ n. round binary64 true n c) e)

not_nothing : (t : Bool) (b a : ℕ) → a ≡ 0 → not (eqb b a && (beq t false || eqb b 0)) ≡ true → 0 < b
not_nothing t (suc b) a z h = omega arith
not_nothing true zero zero z h = absurd (let q : ◌≡◌ {A = ℕ} 0 1 = cc in omega arith)
not_nothing false zero zero z h = absurd (let q : ◌≡◌ {A = ℕ} 0 1 = cc in omega arith)
not_nothing t zero (suc a) z h = omega arith

same_step : (r : Float) → ne r D.zero ≡ true → add binary64 minus_zero r ≡ add binary64 D.zero r
unfolding add ne
same_step nan h = refl
same_step (inf s) h = refl
same_step (fin t n d) h =
    same_sum t (0 * 1 * down d) (n * up d * 1) (1 * down d) (ap (λ k. k * down d) (zero-mul 1) ∙ zero-mul (down d))
    (not_nothing t (n * up d * 1) (0 * 1 * down d) (ap (λ k. k * down d) (zero-mul 1) ∙ zero-mul (down d)) h)

pub same-from_minus_zero : (r : Float) (rs : List Float) → ne r D.zero ≡ true → foldl (add binary64) minus_zero (r ∷ rs) ≡ foldl (add binary64) D.zero (r ∷ rs)
same-from_minus_zero r rs h = ap (λ s. foldl (add binary64) s rs) (same_step r h)
