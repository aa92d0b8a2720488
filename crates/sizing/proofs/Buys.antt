-- A buy's need never falls as the quantity rises, so a count of steps that does not fit cash has none above it that does; and what
-- `affordable` gives is the largest.
use Rattle.std.proofs.Common.{◌≡◌, ℕ, zero, suc, ◌*◌, ◌/◌, ◌%◌, ◌<◌, ◌≤◌, Bool, true, false, cond, not, ◌||◌, ℤ, pos, nat_abs, refl, ap, ◌∙◌, ⊎_elim, mul-le-mul_right, le-div_iff_mul-le, zero-mul, div-mul-le_self, arith, w64, SFits}
use native.Mathlib.Nat.{zero-mod, mul-mod_left}
use lib.Signed.{le_z}
use lib.Dec.{leb-suc-zero}
use Rattle.sums.specs.Sums.{sat_add, notional}
use Rattle.sums.proofs.Ints.{N-pos, from_zero, le_trans, sat_add-fits, sat_add_exact, sat_add_mono}
use Rattle.sums.proofs.Laws.{notional-fits, notional_nonneg, notional_mono}
use Rattle.cost_model.specs.declared.CostModel.{CostModel}
use Rattle.cost_model.specs.Costs.{cost, good_costs}
use Rattle.cost_model.proofs.Costs.{cost_nonneg, cost_mono}
use Rattle.sizing.specs.Sizing.{above}
use Rattle.sizing.specs.Afford.{need, fits, largest, affordable}
use Rattle.sizing.proofs.Search.{Falls, largest_up_to, largest_passes, none_larger_passes}

-- ---- a buy's need
pub need-fits : (costs : CostModel) (q p : ℤ) → SFits w64 (need costs q p)
unfolding need
need-fits costs q p = by (le_z q (pos 0) || le_z p (pos 0))
  where
    by : (t : Bool) → SFits w64 (cond t (pos 0) (sat_add (notional q p) (cost costs (notional q p))))
    by true = record { sfits = omega arith }
    by false = sat_add-fits (notional q p) (cost costs (notional q p))

pub need-none : (costs : CostModel) (p : ℤ) → need costs (pos 0) p ≡ pos 0
unfolding need
need-none costs p = refl

module _ (costs : CostModel) (good : good_costs costs ≡ true) where
  outlay : ℤ → ℤ
  outlay n = sat_add n (cost costs n)

  need_by : (t : Bool) (q p : ℤ) → ℤ
  need_by t q p = cond t (pos 0) (outlay (notional q p))

  outlay_nonneg : (n : ℤ) → le_z (pos 0) n ≡ true → le_z (pos 0) (outlay n) ≡ true
  unfolding outlay
  outlay_nonneg n h = rw (sat_add_exact (pos 0) (pos 0) (record { sfits = omega arith })) at (sat_add_mono (pos 0) n (pos 0) (cost costs n) h (cost_nonneg costs n good))

  outlay_mono : (n k : ℤ) → SFits w64 k → le_z (pos 0) n ≡ true → le_z n k ≡ true → le_z (outlay n) (outlay k) ≡ true
  unfolding outlay
  outlay_mono n k f z h = sat_add_mono n k (cost costs n) (cost costs k) h (cost_mono costs n k good f z h)

  pub need_nonneg : (q p : ℤ) → le_z (pos 0) (need costs q p) ≡ true
  unfolding need need_by outlay
  need_nonneg q p = by (le_z q (pos 0) || le_z p (pos 0))
    where
      by : (t : Bool) → le_z (pos 0) (need_by t q p) ≡ true
      by true = refl
      by false = outlay_nonneg (notional q p) (notional_nonneg q p)

  -- it never falls as the quantity rises
  pub need_mono : (p : ℤ) (n k : ℕ) → n ≤ k → le_z (need costs (pos n) p) (need costs (pos k) p) ≡ true
  unfolding need need_by outlay
  need_mono p zero k h = need_nonneg (pos k) p
  need_mono p (suc n) zero h = absurd (omega arith)
  need_mono p (suc n) (suc k) h = rw (leb-suc-zero n, leb-suc-zero k) (by (le_z p (pos 0)))
    where
      by : (t : Bool) → le_z (need_by t (pos (suc n)) p) (need_by t (pos (suc k)) p) ≡ true
      by true = refl
      by false =
          outlay_mono (notional (pos (suc n)) p) (notional (pos (suc k)) p) (notional-fits (pos (suc k)) p) (notional_nonneg (pos (suc n)) p)
          (notional_mono (pos (suc n)) (pos (suc k)) p p h (omega arith))

  -- once a count of steps does not fit, no larger one does
  pub fits_falls : (step : ℕ) (cash p : ℤ) → Falls (fits costs step cash p)
  unfolding fits
  fits_falls step cash p k m h e =
      le_trans (need costs (pos (k * step)) p) (need costs (pos (m * step)) p) cash
      (need_mono p (k * step) (m * step) (mul-le-mul_right step h)) e

-- ---- the largest that cash pays for
module _ (costs : CostModel) (step cash request price : ℤ) where
  abbrev passes : ℕ → Bool
  passes = fits costs (above step) cash price

  abbrev steps : ℕ
  steps = largest passes (above request / above step)

  abbrev buy : ℤ
  buy = affordable costs step cash request price

  abbrev nothing : Bool
  nothing = le_z cash (pos 0) || le_z price (pos 0) || not (good_costs costs)

  bought : Bool → ℤ
  bought t = cond t (pos 0) (pos (steps * above step))

  -- "at cash 0 it is nothing"
  pub affordable-without-cash : le_z cash (pos 0) ≡ true → buy ≡ pos 0
  unfolding affordable
  affordable-without-cash h = simp h

  -- at a price of 0 or below too
  pub affordable-without-price : le_z price (pos 0) ≡ true → buy ≡ pos 0
  unfolding affordable
  affordable-without-price h = by (le_z cash (pos 0))
    where
      by : (t : Bool) → cond (t || le_z price (pos 0) || not (good_costs costs)) (pos 0) (pos (steps * above step)) ≡ pos 0
      by true = refl
      by false = simp h

  pub affordable_steps : le_z cash (pos 0) ≡ false → le_z price (pos 0) ≡ false → good_costs costs ≡ true → buy ≡ pos (steps * above step)
  unfolding affordable
  affordable_steps h p g = simp (h, p, g)

  pub affordable_multiple : nat_abs buy % above step ≡ 0
  unfolding affordable bought
  affordable_multiple = by nothing
    where
      by : (t : Bool) → nat_abs (bought t) % above step ≡ 0
      by true = zero-mod (above step)
      by false = mul-mod_left steps (above step)

  pub affordable_nonneg : le_z (pos 0) buy ≡ true
  unfolding affordable bought
  affordable_nonneg = by nothing
    where
      by : (t : Bool) → le_z (pos 0) (bought t) ≡ true
      by true = refl
      by false = from_zero (pos (steps * above step)) (N-pos (steps * above step))

  pub affordable-within : nat_abs buy ≤ above request
  unfolding affordable bought
  affordable-within = by nothing
    where
      by : (t : Bool) → nat_abs (bought t) ≤ above request
      by true = omega arith
      by false =
          let most = above request / above step in
          omega (arith, mul-le-mul_right (above step) (largest_up_to passes most), div-mul-le_self (above request) (above step))

  -- it fits
  pub affordable-fits : le_z (pos 0) cash ≡ true → le_z (need costs buy price) cash ≡ true
  unfolding affordable bought fits
  affordable-fits h = by nothing
    where
      by : (t : Bool) → le_z (need costs (bought t) price) cash ≡ true
      by true = rw (need-none costs price) h
      by false =
          ⊎_elim
          (λ e.
          let z : pos (steps * above step) ≡ pos 0 = ap (λ n. pos (n * above step)) e ∙ ap pos (zero-mul (above step)) in
          ap (λ q. le_z (need costs q price) cash) z ∙ rw (need-none costs price) h)
          (λ e. e)
          (largest_passes passes (above request / above step))

  -- and no larger multiple fits
  pub affordable-largest :
      good_costs costs ≡ true → le_z cash (pos 0) ≡ false → le_z price (pos 0) ≡ false → 0 < above step → (k : ℕ) → k * above step ≤ above request
      → le_z (need costs (pos (k * above step)) price) cash ≡ true → k * above step ≤ nat_abs buy
  unfolding fits
  affordable-largest good some quoted h k within pays =
      rw (affordable_steps some quoted good)
      (mul-le-mul_right (above step)
      (none_larger_passes passes (above request / above step) k ((le-div_iff_mul-le h).1 within) pays))
