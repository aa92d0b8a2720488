-- What sizing and truncation give: step multiples that fit, keep their sign, and are worth no more than was asked.
use Rattle.std.proofs.Common.{◌≡◌, ℕ, ◌-◌, ◌*◌, ◌/◌, ◌^◌, ◌<◌, ◌≤◌, min, Bool, true, false, ℤ, pos, negsuc, nat_abs, refl, ap, ◌∙◌, lt_of_le_of_lt, mul-le-mul_right, div-mul-le_self, arith, w64, SFits}
use lib.Signed.{lt_z, le_z}
use Rattle.sums.specs.Sums.{SCALE, signed, snap, notional}
use Rattle.sums.proofs.Ints.{P, N, N-pos, nat_abs_parts, P-signed, N-signed, signed-pos, N-zero, P_clamp, N_clamp, clamp_fits, clamp_same, fits_of, le_is}
use Rattle.sums.proofs.Laws.{P-notional, N-notional, snap_le}
use Rattle.sizing.specs.Sizing.{above, shares_for, sized, cut_to}

pub above_is_P : (z : ℤ) → above z ≡ P z
unfolding above P
above_is_P (pos n) = refl
above_is_P (negsuc n) = refl

-- ---- a magnitude with a sign
pub nat_abs_signed : (s : Bool) (n : ℕ) → nat_abs (signed s n) ≡ n
nat_abs_signed true n = omega (arith, nat_abs_parts (signed true n), P-signed n, N-signed n)
nat_abs_signed false n = rw (signed-pos n)

pub signed-fits : (s : Bool) (n : ℕ) → n < 2 ^ 63 → SFits w64 (signed s n)
signed-fits true n h = let p = P-signed n in let q = N-signed n in fits_of _ (omega arith) (omega arith)
signed-fits false n h = rw (signed-pos n) (record { sfits = h })

-- ---- the shares that a value is
pub shares_for_multiple : (v p s : ℕ) → shares_for v p s ≡ v * SCALE / p / s * s
unfolding shares_for snap
shares_for_multiple v p s = refl

pub shares_for_truncates : (v p s : ℕ) → shares_for v p s ≤ v * SCALE / p
unfolding shares_for
shares_for_truncates v p s = snap_le (v * SCALE / p) s

-- worth no more than the value
pub worth : (n v p : ℕ) → n ≤ v * SCALE / p → n * p / SCALE ≤ v
worth n v p h = omega (arith, mul-le-mul_right p h, div-mul-le_self (v * SCALE) p)

-- ---- the size of a gap
module _ (gap price step : ℤ) where
  abbrev wanted : ℕ
  wanted = shares_for (nat_abs gap) (above price) (above step)

  pub sized-fits : SFits w64 (sized gap price step)
  unfolding sized
  sized-fits = clamp_fits _

  -- off the clamp it is a step multiple
  pub sized_multiple : nat_abs gap * SCALE / above price < 2 ^ 63 → nat_abs (sized gap price step) ≡ nat_abs gap * SCALE / above price / above step * above step
  unfolding sized
  sized_multiple h =
      ap nat_abs (clamp_same _ (signed-fits (lt_z gap (pos 0)) _ (lt_of_le_of_lt (shares_for_truncates (nat_abs gap) (above price) (above step)) h)))
      ∙ nat_abs_signed (lt_z gap (pos 0)) _
      ∙ shares_for_multiple (nat_abs gap) (above price) (above step)

  -- a gap below zero is sold, any other bought
  pub sized-buys : lt_z gap (pos 0) ≡ false → N (sized gap price step) ≡ 0
  unfolding sized
  sized-buys h = rw (h, signed-pos) (omega (arith, N_clamp (pos wanted), N-pos wanted))

  pub sized_sells : lt_z gap (pos 0) ≡ true → P (sized gap price step) ≡ 0
  unfolding sized
  sized_sells h = rw h (omega (arith, P_clamp (signed true wanted), P-signed wanted))

-- ---- the truncation to a maximum
module _ (quantity price step max : ℤ) where
  abbrev cut : ℕ
  cut = shares_for (above max) (nat_abs price) (above step)

  pub nat_abs_cut_to : nat_abs (cut_to quantity price step max) ≡ min cut (2 ^ 63 - 1)
  unfolding cut_to
  nat_abs_cut_to = nat_abs_signed (lt_z quantity (pos 0)) _

  pub cut_to-fits : SFits w64 (cut_to quantity price step max)
  unfolding cut_to
  cut_to-fits = signed-fits (lt_z quantity (pos 0)) _ (omega arith)

  pub cut_to-buys : lt_z quantity (pos 0) ≡ false → N (cut_to quantity price step max) ≡ 0
  unfolding cut_to
  cut_to-buys h = rw (h, signed-pos) (N-pos _)

  pub cut_to_sells : lt_z quantity (pos 0) ≡ true → P (cut_to quantity price step max) ≡ 0
  unfolding cut_to
  cut_to_sells h = rw h (P-signed _)

  pub cut_to_multiple : above max * SCALE / nat_abs price < 2 ^ 63 → nat_abs (cut_to quantity price step max) ≡ above max * SCALE / nat_abs price / above step * above step
  cut_to_multiple h =
      omega (arith, nat_abs_cut_to, shares_for_multiple (above max) (nat_abs price) (above step), shares_for_truncates (above max) (nat_abs price) (above step))

  -- its notional at the price is at most the maximum
  pub cut_to-within : le_z (pos 0) max ≡ true → le_z (notional (cut_to quantity price step max) price) max ≡ true
  cut_to-within h =
      let q = cut_to quantity price step max in
      let n = nat_abs q in
      let w =
      worth n (above max) (nat_abs price)
      (omega (arith, nat_abs_cut_to, shares_for_truncates (above max) (nat_abs price) (above step))) in
      le_is (notional q price) max (omega (arith, P-notional q price, N-notional q price, above_is_P max, N-zero max h))
