-- Document 01, 'Filling': the cash that a buy needs, and the largest buy that cash pays for.
use Rattle.std.specs.Prelude.{ℕ, zero, suc, ◌*◌, ◌/◌, Bool, cond, not, ◌||◌, ℤ, pos, int_le}
use Rattle.sums.specs.Sums.{sat_add, notional}
use Rattle.cost_model.specs.declared.CostModel.{CostModel}
use Rattle.cost_model.specs.Costs.{cost, good_costs}
use Rattle.sizing.specs.Sizing.{above}

-- "A buy's need is notional plus commission, saturating"; "a zero fill needs 0": of quantity and effective price
unfoldable pub need : CostModel → ℤ → ℤ → ℤ
need costs quantity price =
    cond (int_le quantity (pos 0) || int_le price (pos 0))
    (pos 0)
    (sat_add (notional quantity price) (cost costs (notional quantity price)))

-- whether the need of so many steps "fits cash": of step, cash, effective price and the count of steps
unfoldable pub fits : CostModel → ℕ → ℤ → ℤ → ℕ → Bool
fits costs step cash price count = int_le (need costs (pos (count * step)) price) cash

-- the largest of 1 to n that passes, 0 where none does
unfoldable pub largest : (ℕ → Bool) → ℕ → ℕ
largest passes zero = zero
largest passes (suc n) = cond (passes (suc n)) (suc n) (largest passes n)

-- "the largest step multiple, not above the request, whose need fits cash (a zero fill needs 0); at cash 0 it is nothing": of step, cash,
-- request and effective price. At a price that no buy has, 0 or below, it is nothing, and costs that no account may have pay for nothing.
unfoldable pub affordable : CostModel → ℤ → ℤ → ℤ → ℤ → ℤ
affordable costs step cash request price =
    cond (int_le cash (pos 0) || int_le price (pos 0) || not (good_costs costs))
    (pos 0)
    (pos (largest (fits costs (above step) cash price) (above request / above step) * above step))
