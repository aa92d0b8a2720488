-- A rate of -0.0 charges, slips and bounds as one of 0.0 does. Every double is taken.
use Prim.Native.Nat.{ℕ, zero, suc, ◌+◌, ◌*◌, ◌<◌}
use mathlib.Core.Path.{◌≡◌, refl, sym, ap, ◌∙◌}
use mathlib.Core.Bool.{Bool, true, false}
use native.Mathlib.Nat.{mul-pos, zero-mul, mul-zero}
use native.Mathlib.Omega.{arith}
use lib.Pow.{pow_pos}
use lib.IntN.{ℤ, pos}
use lib.Ieee.{Float, nan, inf, fin, binary64, unlike, up, down, round, add, mul, div, lt, eq, le, to_signed}
use lib.Ieee.Fits.{down_pos}
use lib.Ieee.Scale.{round_same}
use borrow.Author.Tests.{lt-ltb}
use Rattle.doubles.specs.Doubles as Doubles
use Rattle.doubles.specs.Doubles.{one, ten_thousand, finite, to_i64, of_u64, round_away}
use Rattle.table.specs.Keyed.{both}
use Rattle.cost_model.specs.Costs.{sign, commission, good_rate}
use Rattle.zero_laws.specs.Zeros.{plain_zero}

-- ---- a product with a zero
round_none : (s : Bool) (a c : ℕ) → 0 < c → a ≡ 0 → round binary64 s a c ≡ fin s 0 (pos 0)
round_none s a c C h = round_same binary64 s a c 0 1 C (pow_pos 0) (ap (λ (x : ℕ). x * 1) h ∙ sym (zero-mul c)) ∙ exact s
  where
    exact : (s : Bool) → round binary64 s 0 1 ≡ fin s 0 (pos 0)
    exact s = unfold round in refl

times_zero : (t : Bool) (m : ℕ) (d : ℤ) (s : Bool) (e : ℤ) → mul binary64 (fin t m d) (fin s 0 e) ≡ fin (unlike t s) 0 (pos 0)
unfolding mul
times_zero t m d s e = round_none (unlike t s) (m * up d * (0 * up e)) (down d * down e) (mul-pos (down_pos d) (down_pos e)) (simp (zero-mul, mul-zero))

-- ---- "round(notional × bps / 10,000)": nothing at a zero rate, even of a notional that no double holds
zero_charged : (b : Bool) → to_i64 (round_away (div binary64 (fin b 0 (pos 0)) ten_thousand)) ≡ pos 0
unfolding to_signed round_away div round
zero_charged true = refl
zero_charged false = refl

no_rate : (s : Bool) (e : ℤ) (x : Float) → to_i64 (round_away (div binary64 (mul binary64 x (fin s 0 e)) ten_thousand)) ≡ pos 0
unfolding to_signed round_away mul div
no_rate s e nan = refl
no_rate s e (inf t) = refl
no_rate s e (fin t m d) = ap (λ (y : Float). to_i64 (round_away (div binary64 y ten_thousand))) (times_zero t m d s e) ∙ zero_charged (unlike t s)

pub plain-commission : (x : Float) (n : ℕ) → commission (plain_zero x) n ≡ commission x n
unfolding plain_zero commission
plain-commission nan n = refl
plain-commission (inf s) n = refl
plain-commission (fin s zero e) n = no_rate false (pos 0) (of_u64 n) ∙ sym (no_rate s e (of_u64 n))
plain-commission (fin s (suc m) e) n = refl

-- ---- "1 + sign × slippage / 10,000": 1 at a zero slippage
zero-slipped : (b : Bool) → add binary64 one (div binary64 (fin b 0 (pos 0)) ten_thousand) ≡ one
unfolding add div
zero-slipped true = refl
zero-slipped false = refl

abbrev factor : Bool → Float → Float
factor buys x = add binary64 one (div binary64 (mul binary64 (sign buys) x) ten_thousand)

no_slip : (buys : Bool) (s : Bool) (e : ℤ) → factor buys (fin s 0 e) ≡ one
no_slip true s e = ap (λ (y : Float). add binary64 one (div binary64 y ten_thousand)) (times_zero false 1 (pos 0) s e) ∙ zero-slipped (unlike false s)
no_slip false s e = ap (λ (y : Float). add binary64 one (div binary64 y ten_thousand)) (times_zero true 1 (pos 0) s e) ∙ zero-slipped (unlike true s)

pub plain_factor : (buys : Bool) (x : Float) → factor buys (plain_zero x) ≡ factor buys x
unfolding plain_zero
plain_factor buys nan = refl
plain_factor buys (inf s) = refl
plain_factor buys (fin s zero e) = no_slip buys false (pos 0) ∙ sym (no_slip buys s e)
plain_factor buys (fin s (suc m) e) = refl

-- ---- comparisons: "-0 equals +0"
pub plain-finite : (x : Float) → finite (plain_zero x) ≡ finite x
unfolding plain_zero
plain-finite nan = refl
plain-finite (inf s) = refl
plain-finite (fin s zero e) = refl
plain-finite (fin s (suc m) e) = refl

pub plain_not_below_0 : (x : Float) → le Doubles.zero (plain_zero x) ≡ le Doubles.zero x
unfolding plain_zero lt eq le
plain_not_below_0 nan = refl
plain_not_below_0 (inf s) = refl
plain_not_below_0 (fin true zero e) = simp zero-mul
plain_not_below_0 (fin false zero e) = simp zero-mul
plain_not_below_0 (fin s (suc m) e) = refl

-- no zero is above 0, and each is below 10,000
zero_not_above_0 : (s : Bool) (e : ℤ) → lt Doubles.zero (fin s 0 e) ≡ false
unfolding lt
zero_not_above_0 true e = refl
zero_not_above_0 false e = simp zero-mul

zero_below : (s : Bool) (e : ℤ) → lt (fin s 0 e) ten_thousand ≡ true
unfolding lt
zero_below true e = lt-ltb 0 (0 * up e * 1 + 625 * 16 * down e) (omega (arith, down_pos e))
zero_below false e = lt-ltb (0 * up e * 1) (625 * 16 * down e) (omega (arith, zero-mul (up e), down_pos e))

zero-within : (s : Bool) (e : ℤ) → le (fin s 0 e) ten_thousand ≡ true
unfolding le
zero-within s e = rw (zero_below s e)

pub plain-within : (x : Float) → le (plain_zero x) ten_thousand ≡ le x ten_thousand
unfolding plain_zero
plain-within nan = refl
plain-within (inf s) = refl
plain-within (fin s zero e) = zero-within false (pos 0) ∙ sym (zero-within s e)
plain-within (fin s (suc m) e) = refl

pub plain_rate_lem : (x : Float) → good_rate (plain_zero x) ≡ good_rate x
unfolding good_rate
plain_rate_lem x = rw (plain-finite, plain_not_below_0)

-- an account may have such a rate
pub minus_zero-good : good_rate (fin true 0 (pos 0)) ≡ true
unfolding good_rate lt eq le
minus_zero-good = refl

-- "drift [..] at or below a positive band": no zero is positive
pub plain-band : (x d : Float) → both (lt Doubles.zero (plain_zero x)) (le d (plain_zero x)) ≡ both (lt Doubles.zero x) (le d x)
unfolding plain_zero
plain-band nan d = refl
plain-band (inf s) d = refl
plain-band (fin s zero e) d = rw (zero_not_above_0 s e, zero_not_above_0 false (pos 0))
plain-band (fin s (suc m) e) d = refl
