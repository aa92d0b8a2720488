-- Document 01, 'Filling': what a fill takes from cash, and how an order that fills whole changes it.
use Rattle.std.specs.Prelude.{Bool, ℤ, pos, neg_ℤ, int_lt}
use Rattle.sums.specs.Sums.{sat_add, value, notional}
use Rattle.cost_model.specs.declared.CostModel.{CostModel}
use Rattle.cost_model.specs.Costs.{cost, effective}

-- "Cash falls by the signed value plus commission, saturating": by this much, for q micro-shares at effective price p
unfoldable pub cash_taken : CostModel → ℤ → ℤ → ℤ
cash_taken costs q p = sat_add (value q p) (cost costs (notional q p))

-- the change of cash by an order that fills whole: of its quantity and its listed price
unfoldable pub cash_change : CostModel → ℤ → ℤ → ℤ
cash_change costs q price = neg_ℤ (cash_taken costs q (effective costs (int_lt (pos 0) q) price))

-- "orders not lowering cash .. those lowering it"
abbrev pub lowers_cash : CostModel → ℤ → ℤ → Bool
lowers_cash costs q price = int_lt (cash_change costs q price) (pos 0)
