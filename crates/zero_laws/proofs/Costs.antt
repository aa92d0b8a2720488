-- What a cost model with plain zeros charges, pays and affords: what the model itself does.
use Prim.Native.Nat.{ℕ}
use mathlib.Core.Path.{◌≡◌, ap, fun_ext}
use mathlib.Core.Bool.{Bool}
use lib.IntN.{ℤ, nat_abs}
use Rattle.cost_model.specs.declared.CostModel.{CostModel}
use Rattle.cost_model.specs.Costs.{uncapped, cost, slippage_factor, slipped, effective, good_costs}
use Rattle.sizing.specs.Sizing.{above}
use Rattle.sizing.specs.Afford.{need, fits, affordable}
use Rattle.sizing.specs.Cash.{cash_taken, cash_change}
use Rattle.zero_laws.specs.Zeros.{plain_costs}
use Rattle.zero_laws.proofs.Rates.{plain-commission, plain_factor, plain_not_below_0, plain-within, plain_rate_lem}

module _ (m : CostModel) where
  -- "`compute_cost`"
  pub plain-cost : (n : ℤ) → cost (plain_costs m) n ≡ cost m n
  unfolding cost uncapped
  plain-cost n = rw (plain-commission m.commission_bps (nat_abs n))

  pub plain_slippage : (buys : Bool) → slippage_factor (plain_costs m) buys ≡ slippage_factor m buys
  unfolding slippage_factor
  plain_slippage buys = plain_factor buys m.slippage_bps

  pub plain-effective : (buys : Bool) (price : ℤ) → effective (plain_costs m) buys price ≡ effective m buys price
  unfolding effective
  plain-effective buys price = ap (λ x. slipped x price) (plain_slippage buys)

  pub plain-good : good_costs (plain_costs m) ≡ good_costs m
  unfolding good_costs
  plain-good = simp (plain_rate_lem, plain_not_below_0, plain-within)

  -- ---- what a buy needs, and the largest that cash pays for
  pub plain-need : (q p : ℤ) → need (plain_costs m) q p ≡ need m q p
  unfolding need
  plain-need q p = simp plain-cost

  plain_fits : (step : ℕ) (cash p : ℤ) → fits (plain_costs m) step cash p ≡ fits m step cash p
  unfolding fits
  plain_fits step cash p = fun_ext (λ n. simp plain-need)

  pub plain-affordable : (step cash request p : ℤ) → affordable (plain_costs m) step cash request p ≡ affordable m step cash request p
  unfolding affordable
  plain-affordable step cash request p = rw (plain-good, plain_fits (above step) cash p)

  -- ---- what a fill takes from cash
  pub plain_taken : (q p : ℤ) → cash_taken (plain_costs m) q p ≡ cash_taken m q p
  unfolding cash_taken
  plain_taken q p = simp plain-cost

  pub plain-change : (q p : ℤ) → cash_change (plain_costs m) q p ≡ cash_change m q p
  unfolding cash_change
  plain-change q p = simp (plain-effective, plain_taken)
