-- How many of the orders that a rebalance wants are orders.
use Rattle.std.specs.Prelude.{ℕ, ◌+◌, List, [], ◌∷◌}
use Rattle.table.specs.Keyed.{pick}
use Rattle.table.specs.Rows.{is_zero}
use Rattle.wanted.specs.declared.planned.PlannedOrder.{PlannedOrder}

unfoldable pub order_count_of : List PlannedOrder → ℕ
order_count_of [] = 0
order_count_of (o ∷ os) = pick (is_zero o.quantity.0) (order_count_of os) (order_count_of os + 1)
