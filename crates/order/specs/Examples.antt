-- Worked runs for condition 3, in cents: orders, what each takes, and what a run of them comes to.
use Rattle.std.specs.Prelude.{ℕ, zero, suc, Bool, true, false, not, cond, ◌&&◌, List, [], ◌∷◌, ◌++◌, map, eqb, drop, ℤ, pos, negsuc}
use Rattle.std.specs.Float.{fin}
use Rattle.position.specs.declared.position.Position.{Position}
use Rattle.position.specs.Rows.{fresh, key_of, realized}
use Rattle.cost_model.specs.Costs as Costs
use Rattle.fills.specs.declared.terms.Order.{Order}
use Rattle.fills.specs.declared.terms.Terms.{Terms}
use Rattle.fills.specs.declared.record.ExecutionKind.TheVariants.{Rebalance}
use Rattle.fills.specs.Orders.{State, cash_only, order}
use Rattle.fills.specs.Fill.{fill_all}
use Rattle.order.specs.Statement.{all_whole_of}

-- no rate and no slippage, a commission floor, whole shares
abbrev pub floor_of : ℤ → Terms
floor_of m = record { costs = Costs.model Costs.zero Costs.zero m; quantity_step = pos 1000000; recording = false; period_index = 0; kind = Rebalance }

-- one share of a symbol bought, and one sold
abbrev pub buy : ℕ → ℤ → Order
buy n price = order n (pos 1000000) price

abbrev pub sell : ℕ → ℤ → Order
sell n price = order n (negsuc 999999) price

-- a run from some cash under some floor: whether each order fills whole, and the cash that is left
pub record Run : Type 0 where
  pub floor : ℤ
  pub cash : ℤ
  pub orders : List Order
  pub whole : Bool
  pub left : ℤ

abbrev pub run : ℤ → ℤ → List Order → Bool → ℤ → Run
run floor cash orders whole left = record { floor = floor; cash = cash; orders = orders; whole = whole; left = left }

abbrev same_number : ℤ → ℤ → Bool
same_number (pos m) (pos n) = eqb m n
same_number (pos m) (negsuc n) = false
same_number (negsuc m) (pos n) = false
same_number (negsuc m) (negsuc n) = eqb m n

abbrev same_test_of : Bool → Bool → Bool
same_test_of a b = cond a b (not b)

abbrev pub comes_out : Run → Bool
comes_out r =
    same_test_of (all_whole_of (floor_of r.floor) r.orders (cash_only r.cash)) r.whole
    && same_number (fill_all (floor_of r.floor) r.orders (cash_only r.cash)).cash r.left

abbrev pub all_come_out : List Run → Bool
all_come_out [] = true
all_come_out (r ∷ rs) = comes_out r && all_come_out rs

-- "l. No costs, cash 50, buy worth 100, sale worth 80: sale first fills both, cash 30"; buy first, nothing is bought
abbrev pub sale_first : List Order
sale_first = sell 2 (pos 80) ∷ (buy 1 (pos 100) ∷ [])

abbrev pub buy_first : List Order
buy_first = buy 1 (pos 100) ∷ (sell 2 (pos 80) ∷ [])

abbrev pub case_l : List Run
case_l =
    run (pos 0) (pos 50) sale_first true (pos 30)
    ∷ (run (pos 0) (pos 50) buy_first false (pos 130)
    ∷ [])

-- With cash for either order, both leave the same.
abbrev pub enough : List Run
enough =
    run (pos 0) (pos 100) sale_first true (pos 80)
    ∷ (run (pos 0) (pos 100) buy_first true (pos 80)
    ∷ [])

-- Sells among themselves: under a floor of 100 the sale for 20 takes 80, and cash is 50 until the sale for 500 is done.
abbrev pub sells_alone : List Run
sells_alone =
    run (pos 100) (pos 50) (sell 1 (pos 20) ∷ (sell 2 (pos 500) ∷ [])) false (pos 450)
    ∷ (run (pos 100) (pos 50) (sell 2 (pos 500) ∷ (sell 1 (pos 20) ∷ [])) true (pos 370)
    ∷ [])

-- Under a floor of 15, with no cash, the sale for 10 lowers cash: by symbol it is skipped; behind the sale for 25, where cash-first mode has it, it fills.
abbrev pub small_sale : Order
small_sale = sell 1 (pos 10)

abbrev pub below_the_floor : List Run
below_the_floor =
    run (pos 15) (pos 0) (small_sale ∷ (sell 2 (pos 25) ∷ [])) false (pos 10)
    ∷ (run (pos 15) (pos 0) (sell 2 (pos 25) ∷ (small_sale ∷ [])) true (pos 5)
    ∷ [])

-- ---- why each condition is asked
-- The range, first: at the top of the range a sale's cash is lost where it comes first, though each fills whole in either order.
abbrev pub top_loses : List Run
top_loses =
    run (pos 0) (pos 9223372036854775807) (sell 2 (pos 10) ∷ (buy 1 (pos 10) ∷ [])) true (pos 9223372036854775797)
    ∷ (run (pos 0) (pos 9223372036854775807) (buy 1 (pos 10) ∷ (sell 2 (pos 10) ∷ [])) true (pos 9223372036854775807)
    ∷ [])

-- Second: so a running order that raises cash first may fail where another fills whole.
abbrev pub buy_all : Order
buy_all = order 3 (pos 9223372036854775807) (pos 1000000)

abbrev pub top_fails : List Run
top_fails =
    run (pos 0) (pos 9223372036854775807) (buy_all ∷ (sell 2 (pos 10) ∷ (buy 1 (pos 10) ∷ []))) true (pos 0)
    ∷ (run (pos 0) (pos 9223372036854775807) (sell 2 (pos 10) ∷ (buy_all ∷ (buy 1 (pos 10) ∷ []))) false (pos 0)
    ∷ [])

-- Non-zero orders: an empty order is skipped where cash is below the floor that it never pays.
abbrev pub empty : Order
empty = order 2 (pos 0) (pos 10)

abbrev pub empty_order : List Run
empty_order =
    run (pos 15) (pos 20) (empty ∷ (buy 1 (pos 5) ∷ [])) true (pos 0)
    ∷ (run (pos 15) (pos 20) (buy 1 (pos 5) ∷ (empty ∷ [])) false (pos 0)
    ∷ [])

-- Prices of at least 1: at 0 a buy needs nothing and still pays the floor.
abbrev pub given_away : List Run
given_away =
    run (pos 15) (pos 20) (buy 1 (pos 5) ∷ (buy 2 (pos 0) ∷ [])) true (negsuc 14)
    ∷ (run (pos 15) (pos 20) (buy 2 (pos 0) ∷ (buy 1 (pos 5) ∷ [])) false (pos 5)
    ∷ [])

-- Cash of at least 0: below it a sale that raises too little is skipped.
abbrev pub overdrawn : List Run
overdrawn =
    run (pos 0) (negsuc 9) (sell 2 (pos 20) ∷ (sell 1 (pos 5) ∷ [])) true (pos 15)
    ∷ (run (pos 0) (negsuc 9) (sell 1 (pos 5) ∷ (sell 2 (pos 20) ∷ [])) false (pos 10)
    ∷ [])

-- Good costs: slippage -10,000 takes a buy's price to 0, at which it needs nothing and still pays the floor. Both orders lower cash, so that either may come
-- first; behind the buy the sale, which brings 2, is skipped.
abbrev pub slips_down : Terms
slips_down = record { costs = Costs.model Costs.zero (fin true 625 (pos 4)) (pos 15); quantity_step = pos 1000000; recording = false; period_index = 0; kind = Rebalance }

abbrev pub slipped_buy : Order
slipped_buy = buy 1 (pos 5)

abbrev pub slipped_sale : Order
slipped_sale = sell 2 (pos 1)

abbrev pub bad_costs : List Bool
bad_costs =
    all_whole_of slips_down (slipped_sale ∷ (slipped_buy ∷ [])) (cash_only (pos 15))
    ∷ (all_whole_of slips_down (slipped_buy ∷ (slipped_sale ∷ [])) (cash_only (pos 15))
    ∷ [])

abbrev pub runs : List Run
runs = case_l ++ (enough ++ (sells_alone ++ (below_the_floor ++ (top_loses ++ (top_fails ++ (empty_order ++ (given_away ++ overdrawn)))))))

-- Different symbols: the profit taken by a sale depends on the buys before it.
abbrev pub profits : List Position → List ℤ
profits ps = map realized ps

abbrev pub same_symbol : List (List ℤ)
same_symbol =
    profits (fill_all (floor_of (pos 0)) (buy 1 (pos 100) ∷ (sell 1 (pos 150) ∷ (buy 1 (pos 200) ∷ []))) (cash_only (pos 1000))).held
    ∷ (profits (fill_all (floor_of (pos 0)) (buy 1 (pos 100) ∷ (buy 1 (pos 200) ∷ (sell 1 (pos 150) ∷ []))) (cash_only (pos 1000))).held
    ∷ [])

-- Room for all: of two new symbols the table takes the one that comes first.
abbrev pub flat_to : ℕ → List Position → List Position
flat_to zero ps = ps
flat_to (suc n) ps = flat_to n (fresh (suc n) ∷ ps)

abbrev pub nearly_full : State
nearly_full = record { cash = pos 1000; held = flat_to 63 []; trimmed = 0; shortfall = pos 0; sequence = 0; records = [] }

abbrev pub newest : State → List ℕ
newest s = drop 63 (map key_of s.held)

abbrev pub one_room : List (List ℕ)
one_room =
    newest (fill_all (floor_of (pos 0)) (buy 64 (pos 100) ∷ (buy 65 (pos 100) ∷ [])) nearly_full)
    ∷ (newest (fill_all (floor_of (pos 0)) (buy 65 (pos 100) ∷ (buy 64 (pos 100) ∷ [])) nearly_full)
    ∷ [])
