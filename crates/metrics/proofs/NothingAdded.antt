-- -0.0 added to a double leaves it, whatever it is: a number that the format holds is not rounded.
use Prim.Native.Nat.{ℕ, zero, suc, ◌+◌, ◌-◌, ◌*◌, ◌/◌, ◌%◌, ◌^◌, ◌≤◌, ◌<◌}
use mathlib.Core.Path.{◌≡◌, refl, sym, ap, ◌∙◌, subst}
use mathlib.Core.Bool.{Bool, true, false, cond, ◌&&◌}
use native.Mathlib.Nat.{zero-mul, mul-one, mul_assoc, mul_right_comm, pow-le-pow_right, lt_of_lt_of_le, lt_of_not-le, not-le_of_lt}
use native.Mathlib.Omega.{arith}
use lib.Dec.{T, leb, ltb, eqb, leb→le, ltb→lt}
use lib.IntN.{ℤ, pos, negsuc}
use lib.Pow.{pow-add, pow_pos, pow-lt, shl_lt}
use lib.Ieee.{Float, nan, inf, fin, Format, binary64, prec, emax, low, top, hid, up, down, size, round, sum, add, fits, of_bits, to_bits}
use lib.Ieee.Bits.{of_bits-to_bits}
use lib.Ieee.Digits.{back}
use lib.Ieee.Exact.{HasValue, round_exact}
use lib.Ieee.Fits.{reach, and_l, and_r, down_pos, round-fits}
use lib.Ieee.Nearest.{div_same}
use borrow.Author.Tests.{le-ltb}
use Rattle.doubles.proofs.Chain.{minus_zero}

exponent_le : (i j : ℕ) → 2 ^ i ≤ 2 ^ j → i ≤ j
exponent_le i j h = let l : i < suc j = lt_of_not-le (λ g. not-le_of_lt (pow-lt g) h) in omega arith

module _ (f : Format) where
  -- what `fits` says of m * 2 ^ e, m above 0
  record Held (m : ℕ) (e : ℤ) : Type 0 where
    few : m < 2 ^ prec f
    fine : down e ≤ 2 ^ low f
    below_top : m * up e < 2 ^ suc (emax f) * down e

  held : (s : Bool) (m : ℕ) (e : ℤ) → T (fits f (fin s (suc m) e)) → Held (suc m) e
  unfolding fits
  held s m e t =
      let a = eqb (suc m % 2) 1 in
      let b = ltb (suc m) (2 ^ prec f) in
      let c = leb (down e) (2 ^ low f) in
      let d = ltb (suc m * up e) (2 ^ suc (emax f) * down e) in
      let abc = and_l (a && b && c) d t in
      record {
        few = ltb→lt _ _ (and_r a b (and_l (a && b) c abc));
        fine = leb→le _ _ (and_r (a && b) c abc);
        below_top = ltb→lt _ _ (and_r (a && b && c) d t);
      }

  -- the number is a whole count of the smallest value
  exact : (s : Bool) (m : ℕ) (e : ℤ) → T (fits f (fin s m e)) → HasValue (round f s (m * up e) (down e)) s (m * up e) (down e)
  exact s zero e t = round_exact f s (0 * up e) (down e) 0 0 (down_pos e) (pow_pos (prec f)) (pow_pos (low f + suc (emax f))) (simp zero-mul refl)
  exact s (suc m) (pos k) t =
      let h = held s m (pos k) t in
      let w : suc m * 2 ^ k * 2 ^ low f ≡ suc m * 2 ^ (k + low f) = mul_assoc (suc m) (2 ^ k) (2 ^ low f) ∙ ap (λ x. suc m * x) (sym (pow-add 2 k (low f))) in
      let l : suc m * 2 ^ k * 2 ^ low f < 2 ^ (suc (emax f) + low f) = shl_lt (suc (emax f)) (low f) (subst (λ x. suc m * 2 ^ k < x) (mul-one (2 ^ suc (emax f))) h.below_top) in
      let o : suc (emax f) + low f ≡ low f + suc (emax f) = omega arith in
      round_exact f s (suc m * 2 ^ k) 1 (suc m) (k + low f) (pow_pos 0) h.few
      (subst (λ x. x < 2 ^ (low f + suc (emax f))) w (subst (λ n. suc m * 2 ^ k * 2 ^ low f < 2 ^ n) o l)) (w ∙ sym (mul-one _))
  exact s (suc m) (negsuc k) t =
      let h = held s m (negsuc k) t in
      let l : k < low f = exponent_le (suc k) (low f) h.fine in
      let p : 2 ^ low f ≡ 2 ^ (low f - suc k) * 2 ^ suc k = ap (λ n. 2 ^ n) (sym (back (low f) (suc k) l)) ∙ pow-add 2 (low f - suc k) (suc k) in
      let o : prec f + (low f - suc k) ≤ low f + suc (emax f) = let r = reach f in omega arith in
      round_exact f s (suc m * 1) (2 ^ suc k) (suc m) (low f - suc k) (pow_pos (suc k)) h.few
      (lt_of_lt_of_le (shl_lt (prec f) (low f - suc k) h.few) (pow-le-pow_right {n = 2} (omega arith) o))
      (ap (λ x. x * 2 ^ low f) (mul-one (suc m)) ∙ ap (λ x. suc m * x) p ∙ sym (mul_assoc (suc m) (2 ^ (low f - suc k)) (2 ^ suc k)))

  -- one number has one pattern
  same_bits : (x : Float) (s : Bool) (m : ℕ) (e : ℤ) → HasValue x s (m * up e) (down e) → to_bits f x ≡ to_bits f (fin s m e)
  unfolding to_bits
  same_bits nan s m e v = absurd v
  same_bits (inf t) s m e v = absurd v
  same_bits (fin t n d) s m e v =
      let units : n * up d * 2 ^ low f / down d ≡ m * up e * 2 ^ low f / down e =
      div_same (n * up d * 2 ^ low f) (down d) (m * up e * 2 ^ low f) (down e) (down_pos d) (down_pos e)
      (mul_right_comm (n * up d) (2 ^ low f) (down e) ∙ ap (λ k. k * 2 ^ low f) v.1 ∙ mul_right_comm (m * up e) (down d) (2 ^ low f)) in
      λ i. cond (v.0 i) (top f) 0 + (size (units i) - prec f) * hid f + units i / 2 ^ (size (units i) - prec f)

  not_rounded : (s : Bool) (m : ℕ) (e : ℤ) → T (fits f (fin s m e)) → round f s (m * up e) (down e) ≡ fin s m e
  not_rounded s m e t =
      let r = round f s (m * up e) (down e) in
      sym (of_bits-to_bits f r (round-fits f s (m * up e) (down e))) ∙ ap (of_bits f) (same_bits r s m e (exact s m e t)) ∙ of_bits-to_bits f (fin s m e) t

  -- a zero with the sign set takes nothing from a number, nor from its sign
  with_nothing : (s : Bool) (a b c : ℕ) → b ≡ 0 → sum f s a true b c ≡ round f s a c
  unfolding sum
  with_nothing true a b c z = let e : a + b ≡ a = omega arith in ap (λ n. round f true n c) e
  with_nothing false a b c z =
      let e : a - b ≡ a = omega arith in
      let h : b ≤ a = omega arith in
      rw (le-ltb a b h) (ap (λ n. round f false n c) e)

pub plus_minus_zero : (x : Float) → T (fits binary64 x) → add binary64 x minus_zero ≡ x
unfolding add
plus_minus_zero nan t = refl
plus_minus_zero (inf s) t = refl
plus_minus_zero (fin s m e) t =
    with_nothing binary64 s (m * up e * 1) (0 * 1 * down e) (down e * 1) (ap (λ k. k * down e) (zero-mul 1) ∙ zero-mul (down e))
    ∙ simp mul-one (not_rounded binary64 s m e t)
