-- The figure beside the figures of a return series.
use Prim.Native.Nat.{ℕ, zero, suc, ◌+◌, ◌-◌, ◌*◌, ◌≤◌, ◌<◌}
use mathlib.Core.Path.{◌≡◌, refl, ap, ◌∙◌}
use mathlib.Core.Bool.{Bool, true, false}
use native.Mathlib.Nat.{zero-mul, mul-pos, zero-lt-suc}
use native.Mathlib.Omega.{arith}
use lib.Dec.{T, eqb-suc-zero}
use lib.IntN.{ℤ, pos, negsuc}
use lib.Signed.{lt_z}
use lib.Ieee.{Float, nan, inf, fin, binary64, up, down, unlike, round, sum, add, sub, mul, div, of_int, eq, fits}
use borrow.Author.Tests.{le-ltb}
use lib.Ieee.Fits.{up_pos, mul-fits}
use lib.Ieee.Order.{round_mono}
use lib.Ieee.Positive.{above, above_of_le}
use lib.Ieee.Scale.{round_same}
use Rattle.doubles.specs.Doubles.{of_i64}
use Rattle.metrics.specs.Double as D
use Rattle.metrics.specs.Double.{one}
use Rattle.metrics.specs.Curve.{compounded}
use Rattle.metrics.specs.Series.{total_return_of}
use Rattle.metrics.proofs.NothingAdded.{plus_minus_zero}
use Rattle.metrics.proofs.EverySeries.{AllZero, zeros-return}
use Rattle.house.specs.Group.{Group, growth_of, growth, product_to, figure, first_sum, summed_change}
use Rattle.house.specs.Places.{each}
use Rattle.house_laws.specs.Groups.{skipping}
use Rattle.house.proofs.Columns.{each_cong}
use Rattle.house_laws.proofs.Folds.{products, listed, skipped}

-- "1 plus each growth is multiplied in part order, in binary64; the figure is the product less 1": the total return of the parts' growths, as the figures of a series have it
pub figure_is : (n m : ℕ) (g : Group) → figure n m g ≡ total_return_of (each m (growth n g))
unfolding total_return_of
figure_is n m g = ap (λ x. sub binary64 x one) (listed products m (growth n g))

-- ---- parts that change nothing
over-above : (x : Float) → T (above x) → div binary64 D.zero x ≡ D.zero
unfolding div
over-above nan h = absurd h
over-above (inf true) h = absurd h
over-above (inf false) h = refl
over-above (fin true m e) h = absurd h
over-above (fin false zero e) h = absurd h
over-above (fin false (suc m) e) h =
    rw (eqb-suc-zero m)
    (round_same binary64 false (0 * 1 * down e) (suc m * up e * 1) 0 1 (mul-pos (mul-pos (zero-lt-suc m) (up_pos e)) (zero-lt-suc 0)) (zero-lt-suc 0) (simp zero-mul refl))

positive-above : (k : ℕ) → T (above (of_i64 (pos (suc k))))
unfolding of_int
positive-above k = above_of_le (round binary64 false 1 1) (round binary64 false (suc k) 1) tt (round_mono binary64 1 1 (suc k) 1 (zero-lt-suc 0) (zero-lt-suc 0) (omega arith))

-- the growth of a part without change is +0, whatever it begins with
pub no_growth : (first : ℤ) → lt_z (pos 0) first ≡ true → growth_of (pos 0) first ≡ D.zero
unfolding of_int
no_growth (pos zero) h = cc
no_growth (pos (suc k)) h = over-above (of_i64 (pos (suc k))) (positive-above k)
no_growth (negsuc k) h = cc

all-zero : (m : ℕ) → AllZero (each m (λ p. D.zero))
unfolding each fits eq
all-zero zero = tt
all-zero (suc m) = (tt, tt, all-zero m)

-- "a deposit or withdrawal ends a part and touches no account here": where no part changes, the figure is +0, whatever the parts begin with.
pub deposits_add-nothing : (n m : ℕ) (g : Group) → ((p : ℕ) → p < m → lt_z (pos 0) (first_sum n g p) ≡ true) → ((p : ℕ) → p < m → summed_change n g p ≡ pos 0) → figure n m g ≡ D.zero
deposits_add-nothing n m g f c =
    figure_is n m g ∙ ap total_return_of (each_cong m (growth n g) (λ p. D.zero) (λ p l. ap (λ z. growth_of z (first_sum n g p)) (c p l) ∙ no_growth (first_sum n g p) (f p l)))
    ∙ zeros-return (each m (λ p. D.zero)) (all-zero m)

-- ---- a part that changes nothing among others
-- a product with 1 is rounded as a sum with -0 is
with_nothing : (s : Bool) (a b c : ℕ) → b ≡ 0 → round binary64 (unlike s false) a c ≡ sum binary64 s a true b c
unfolding sum
with_nothing true a b c z =
    let e : a ≡ a + b = omega arith in
    ap (λ n. round binary64 true n c) e
with_nothing false a b c z =
    let e : a ≡ a - b = omega arith in
    let h : b ≤ a = omega arith in
    rw (le-ltb a b h) (ap (λ n. round binary64 false n c) e)

same_sign : (s : Bool) → unlike s false ≡ s
same_sign true = refl
same_sign false = refl

-- x * (1 + 0) is x
times_one : (x : Float) → T (fits binary64 x) → compounded x D.zero ≡ x
unfolding compounded mul add
times_one nan t = refl
times_one (inf s) t = ap inf (same_sign s)
times_one (fin s m e) t = with_nothing s (m * up e * 1) (0 * 1 * down e) (down e * 1) (simp zero-mul) ∙ plus_minus_zero (fin s m e) t

product_fits : (m : ℕ) (f : ℕ → Float) → T (fits binary64 (product_to m f))
unfolding product_to compounded
product_fits zero f = unfold fits in tt
product_fits (suc m) f = mul-fits binary64 _ _

-- It may be left out, wherever it stands, whatever it begins with.
pub quiet_part : (n m k : ℕ) (g : Group) → k ≤ m → lt_z (pos 0) (first_sum n g k) ≡ true → summed_change n g k ≡ pos 0 → figure n (suc m) g ≡ figure n m (λ p. g (skipping k p))
quiet_part n m k g l f c = ap (λ x. sub binary64 x one) (skipped products m k (growth n g) l (ap (compounded _) (ap (λ z. growth_of z (first_sum n g k)) c ∙ no_growth (first_sum n g k) f) ∙ times_one _ (product_fits k (growth n g))))
