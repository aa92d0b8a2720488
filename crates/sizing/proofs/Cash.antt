-- What a fill takes from cash has the sign of the exact sum, so a test of the saturated number tells whether cash falls; a buy takes its need.
use Rattle.std.proofs.Common.{◌≡◌, ◌<◌, ◌≤◌, Bool, true, false, ◌⊎◌, ℤ, pos, ◌+ℤ◌, neg_ℤ, sym, refl, ap, ◌∙◌, inl, inr, arith, w64, SFits}
use lib.Signed.{lt_z, le_z}
use Rattle.sums.specs.Sums.{clamp64, sat_add, value, notional}
use Rattle.sums.proofs.Ints.{P, N, P-neg, N-neg, P_clamp, N_clamp, one_sided, sat_add_clamp, sat_add-fits, lt_yes, lt_no, lt_is, ge_is, gt_is, lt_le}
use Rattle.sums.proofs.Laws.{notional_is_value}
use Rattle.cost_model.specs.declared.CostModel.{CostModel}
use Rattle.cost_model.specs.Costs.{cost, effective}
use Rattle.sizing.specs.Afford.{need}
use Rattle.sizing.specs.Cash.{cash_taken, cash_change, lowers_cash}

-- ---- signs
-- tests that hold together and fail together are one
pub agree : (a b : Bool) → (a ≡ true → b ≡ true) → (a ≡ false → b ≡ false) → a ≡ b
agree true b f g = sym (f refl)
agree false b f g = sym (g refl)

-- of a number one part is 0, so what is clamped keeps its sign
record Kept (z : ℤ) : Type 0 where
  not_above : P (clamp64 z) ≤ N (clamp64 z) → P z ≤ N z
  not_below : N (clamp64 z) ≤ P (clamp64 z) → N z ≤ P z
  below : P (clamp64 z) < N (clamp64 z) → P z < N z

kept : (z : ℤ) → (P z ≡ 0) ⊎ (N z ≡ 0) → Kept z
kept z (inl h) = record {
  not_above = λ e. omega (arith, P_clamp z, N_clamp z);
  not_below = λ e. omega (arith, P_clamp z, N_clamp z);
  below = λ e. omega (arith, P_clamp z, N_clamp z);
}
kept z (inr h) = record {
  not_above = λ e. omega (arith, P_clamp z, N_clamp z);
  not_below = λ e. omega (arith, P_clamp z, N_clamp z);
  below = λ e. omega (arith, P_clamp z, N_clamp z);
}

clamp_above : (z : ℤ) → lt_z (pos 0) (clamp64 z) ≡ lt_z (pos 0) z
unfolding P N
clamp_above z =
    agree (lt_z (pos 0) (clamp64 z)) (lt_z (pos 0) z)
    (λ e. lt_is (pos 0) z (omega (arith, lt_yes (pos 0) (clamp64 z) e, P_clamp z, N_clamp z)))
    (λ e. ge_is (pos 0) z (omega (arith, (kept z (one_sided z)).not_above (omega (arith, lt_no (pos 0) (clamp64 z) e)))))

clamp_below : (z : ℤ) → lt_z (clamp64 z) (pos 0) ≡ lt_z z (pos 0)
unfolding P N
clamp_below z =
    agree (lt_z (clamp64 z) (pos 0)) (lt_z z (pos 0))
    (λ e. lt_is z (pos 0) (omega (arith, (kept z (one_sided z)).below (omega (arith, lt_yes (clamp64 z) (pos 0) e)))))
    (λ e. ge_is z (pos 0) (omega (arith, (kept z (one_sided z)).not_below (omega (arith, lt_no (clamp64 z) (pos 0) e)))))

neg_below : (z : ℤ) → lt_z (neg_ℤ z) (pos 0) ≡ lt_z (pos 0) z
unfolding P N
neg_below z =
    agree (lt_z (neg_ℤ z) (pos 0)) (lt_z (pos 0) z)
    (λ e. lt_is (pos 0) z (omega (arith, lt_yes (neg_ℤ z) (pos 0) e, P-neg z, N-neg z)))
    (λ e. ge_is (pos 0) z (omega (arith, lt_no (neg_ℤ z) (pos 0) e, P-neg z, N-neg z)))

module _ (costs : CostModel) (q p : ℤ) where
  -- the signed value plus commission, no sum saturated
  abbrev exact : ℤ
  exact = value q p +ℤ cost costs (notional q p)

  pub taken_fits : SFits w64 (cash_taken costs q p)
  unfolding cash_taken
  taken_fits = sat_add-fits (value q p) (cost costs (notional q p))

  -- it is above 0 exactly when the exact sum is, and below 0 exactly when that is
  pub taken_above : lt_z (pos 0) (cash_taken costs q p) ≡ lt_z (pos 0) exact
  unfolding cash_taken
  taken_above = ap (lt_z (pos 0)) (sat_add_clamp (value q p) (cost costs (notional q p))) ∙ clamp_above exact

  pub taken_below : lt_z (cash_taken costs q p) (pos 0) ≡ lt_z exact (pos 0)
  unfolding cash_taken
  taken_below = ap (λ z. lt_z z (pos 0)) (sat_add_clamp (value q p) (cost costs (notional q p))) ∙ clamp_below exact

module _ (costs : CostModel) (q price : ℤ) where
  abbrev paid : ℤ
  paid = effective costs (lt_z (pos 0) q) price

  -- an order lowers cash where it takes some: told by the saturated number, and true of the exact one
  pub lowers_is_taken : lowers_cash costs q price ≡ lt_z (pos 0) (cash_taken costs q paid)
  unfolding cash_change
  lowers_is_taken = neg_below (cash_taken costs q paid)

  pub lowers_exactly : lowers_cash costs q price ≡ lt_z (pos 0) (value q paid +ℤ cost costs (notional q paid))
  lowers_exactly = lowers_is_taken ∙ taken_above costs q paid

-- ---- a buy: its need is the cash that it takes
past_zero : (z : ℤ) → lt_z (pos 0) z ≡ true → le_z z (pos 0) ≡ false
unfolding P N
past_zero z h = gt_is z (pos 0) (omega (arith, lt_yes (pos 0) z h))

pub need_is_taken : (costs : CostModel) (q p : ℤ) → lt_z (pos 0) q ≡ true → lt_z (pos 0) p ≡ true → need costs q p ≡ cash_taken costs q p
unfolding need cash_taken
need_is_taken costs q p h g =
    rw (past_zero q h, past_zero p g)
    (ap (λ (z : ℤ). sat_add z (cost costs (notional q p))) (notional_is_value q p (lt_le (pos 0) q h) (lt_le (pos 0) p g)))
