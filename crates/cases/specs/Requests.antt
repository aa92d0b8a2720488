-- Cases of document 02's requests, each with its words.
use Rattle.std.specs.Prelude.{ℕ, Bool, true, false, cond, ℤ, pos, negsuc, neg_ℤ, take, replicate, Float}
use mathlib.Core.List.{List, [], ◌∷◌, ◌++◌, map, foldr}
use Rattle.std.specs.Float.{nan, inf, fin, binary64}
use Rattle.std.specs.Float.Ieee.{add, div}
use Rattle.answer.specs.Numbers.{number_of}
use Rattle.position.specs.Rows.{row, held}
use Rattle.cost_model.specs.declared.CostModel.{CostModel}
use Rattle.cost_model.specs.Costs.{model, with_ceiling, zero, free, cost, good_costs}
use Rattle.fills.specs.declared.record.ExecutionKind.TheVariants.{Rebalance}
use Rattle.fills.specs.Orders.{cash_only, order}
use Rattle.fills.specs.Fill.{fill}
use Rattle.account.specs.declared.account.Account.{Account}
use Rattle.account.specs.Settings.{of_costs, opening_settings, with_recording, with_cash_first}
use Rattle.account.specs.Account.{held_in, table_of}
use Rattle.account.specs.Calls.{zero_account}
use Rattle.wanted.specs.declared.planned.PlannedOrder.{PlannedOrder}
use Rattle.wanted.specs.Plan.{planned}
use Rattle.admission.specs.Running.{cash_first_of}
use Rattle.portfolio.specs.Rebalance.{Outcome, rebalanced}
use Rattle.portfolio.specs.Returns.{return_of}
use Rattle.house.specs.declared.House.{House}
use Rattle.house.specs.Group.{Equity, given, absent, Ends}
use Rattle.house.specs.House.{house_of}
use Rattle.cases.specs.Rows.{Row, says}
use Rattle.cases.specs.Table.{whole, one_if, ten_bps, terms_at, amount, outcome}

-- ---- 1, cash-first order
-- the symbols "A" and "B"
abbrev pub name_a : ℕ
name_a = 4683743612465315840

abbrev pub name_b : ℕ
name_b = 4755801206503243776

-- "cash 0, floor 15, no other cost": one share each of A and B, in the mode or not
abbrev pub floor15 : CostModel
floor15 = model zero zero (pos 15)

abbrev pub holds_both : Bool → Account
holds_both mode = record {
  cash = pos 0;
  settings = with_cash_first mode (with_recording true (opening_settings (of_costs floor15) (whole (pos 1))));
  counters = zero_account.counters;
  series = zero_account.series;
  positions = table_of (row name_a (whole (pos 1)) (pos 10) (pos 0) (pos 10) ∷ row name_b (whole (pos 1)) (pos 25) (pos 0) (pos 25) ∷ []);
}

-- "A sold for 10, B sold for 25": a rebalance to no targets
abbrev pub sold_both : Bool → Outcome
sold_both mode = rebalanced (holds_both mode) [] [] (name_a ∷ name_b ∷ []) (pos 10 ∷ pos 25 ∷ []) 0 Rebalance 64

-- answer, cash, what is held of each, and the symbols of the fills in their order
abbrev pub left_by_of : Outcome → List ℤ
left_by_of o = pos (number_of o.answer) ∷ o.account.cash ∷ (map held (held_in o.account.positions) ++ map (λ r. pos r.symbol.0) o.records)

-- "the new one fills B, then A, and ends at 5"
abbrev pub case_1 : Row
case_1 = says (left_by_of (sold_both true)) (pos 0 ∷ pos 5 ∷ pos 0 ∷ pos 0 ∷ pos name_b ∷ pos name_a ∷ [])

-- as planned, "run early it is skipped": A is kept, and cash ends at 10
abbrev pub case_1_as_planned : Row
case_1_as_planned = says (left_by_of (sold_both false)) (pos 0 ∷ pos 10 ∷ whole (pos 1) ∷ pos 0 ∷ pos name_b ∷ [])

-- "those that lower no cash": an order that changes none stands in the first group
abbrev pub run_of : CostModel → List PlannedOrder → List ℤ
run_of costs os = map (λ o. pos o.symbol.0) (cash_first_of costs os)

abbrev pub planned_order : ℕ → ℤ → ℤ → PlannedOrder
planned_order s q p = planned s q p nan

-- a buy worth 0 without commission, behind no buy that costs
abbrev pub case_1_buy_of_0 : Row
case_1_buy_of_0 = says (run_of free (planned_order 1 (whole (pos 1)) (pos 100) ∷ planned_order 2 (pos 1) (pos 100) ∷ [])) (pos 2 ∷ pos 1 ∷ [])

-- a sale whose commission takes all it brings; the one for 14 lowers cash
abbrev pub case_1_sale_for_0 : Row
case_1_sale_for_0 =
    says (run_of floor15 (planned_order 1 (whole (negsuc 0)) (pos 14) ∷ planned_order 2 (whole (negsuc 0)) (pos 15) ∷ planned_order 3 (whole (negsuc 0)) (pos 16) ∷ [])) (pos 2 ∷ pos 3 ∷ pos 1 ∷ [])

-- ---- 2, house return
-- what is lent of each account in a part; behind a mark of absence stands a number that is not to be read
abbrev pub mark_of : Equity → ℕ
mark_of (given z) = 1
mark_of absent = 0

abbrev pub number_at_of : Equity → ℤ
number_at_of (given z) = z
number_at_of absent = pos 7

abbrev pub marks_of : List Ends → List ℕ
marks_of [] = []
marks_of (e ∷ es) = mark_of e.first ∷ mark_of e.last ∷ marks_of es

abbrev pub equities_of : List Ends → List ℤ
equities_of [] = []
equities_of (e ∷ es) = number_at_of e.first ∷ number_at_of e.last ∷ equities_of es

abbrev pub house : ℕ → ℕ → List Ends → House
house accounts parts es = house_of accounts parts (marks_of es) (equities_of es)

abbrev pub ends : Equity → Equity → Ends
ends first last = record { first = first; last = last }

abbrev pub from_to : ℤ → ℤ → Ends
from_to first last = ends (given first) (given last)

-- a finite double as a whole number times a power of 2: 0.125 is 1 and -3
abbrev pub double : Float → List ℤ
double nan = []
double (inf s) = []
double (fin s m e) = cond s (neg_ℤ (pos m)) (pos m) ∷ e ∷ []

-- answer, figure, the group's change, and those of the first n accounts
abbrev pub told_of : ℕ → House → List ℤ
told_of n r = pos (number_of r.answer) ∷ (double r.figure ++ (r.change ∷ take n r.changes))

abbrev pub answers : List House → List ℤ
answers rs = map (λ r. pos (number_of r.answer)) rs

abbrev pub highest : ℤ
highest = pos 9223372036854775807

abbrev pub lowest : ℤ
lowest = negsuc 9223372036854775807

-- 100 to 160 and 100 to 140, a growth of 100 / 200; then, 100 withdrawn from the second, 160 to 110 and 40 to 40, -50 / 200: 1.5 * 0.75 - 1 is 0.125
abbrev pub two_in_two : House
two_in_two = house 2 2 (from_to (pos 100) (pos 160) ∷ from_to (pos 100) (pos 140) ∷ from_to (pos 160) (pos 110) ∷ from_to (pos 40) (pos 40) ∷ [])

abbrev pub case_2 : Row
case_2 = says (told_of 2 two_in_two) (pos 0 ∷ pos 1 ∷ negsuc 2 ∷ pos 50 ∷ pos 10 ∷ pos 40 ∷ [])

-- the parts' first sums, summed changes and growths, and what stands behind them
abbrev pub case_2_columns : Row
case_2_columns =
    says (take 3 two_in_two.firsts ++ (take 3 two_in_two.gains ++ foldr (λ x l. double x ++ l) [] (take 3 two_in_two.growths)))
    (pos 200 ∷ pos 200 ∷ pos 0 ∷ pos 100 ∷ negsuc 49 ∷ pos 0 ∷ pos 1 ∷ negsuc 0 ∷ negsuc 0 ∷ negsuc 1 ∷ pos 0 ∷ pos 0 ∷ [])

-- a flagship from 1,000,000 to 1,010,000 and a trial account from 100 to 200: the house figure is 0.0101, and the average of the two returns 0.505
abbrev pub average : Float → Float → Float
average x y = div binary64 (add binary64 x y) (fin false 1 (pos 1))

abbrev pub case_2_trial : Row
case_2_trial =
    says (told_of 2 (house 2 1 (from_to (pos 1000000) (pos 1010000) ∷ from_to (pos 100) (pos 200) ∷ [])) ++ double (average (return_of (pos 1000000) (pos 1010000)) (return_of (pos 100) (pos 200))))
    (pos 0 ∷ pos 11370452013909 ∷ negsuc 49 ∷ pos 10100 ∷ pos 10000 ∷ pos 100 ∷ pos 4548635623644201 ∷ negsuc 52 ∷ [])

-- "An account missing at either end is left out of that part": 100 to 150 alone counts
abbrev pub case_2_one-end : Row
case_2_one-end =
    says (told_of 3 (house 3 1 (ends (given (pos 1000)) absent ∷ from_to (pos 100) (pos 150) ∷ ends absent (given lowest) ∷ [])))
    (pos 0 ∷ pos 1 ∷ negsuc 0 ∷ pos 50 ∷ pos 0 ∷ pos 50 ∷ pos 0 ∷ [])

-- "a finished sum (not a partial one)": first sums 2^63 - 1, 2^63, 2^62
abbrev pub case_2_partial : Row
case_2_partial =
    says (told_of 3 (house 3 1 (from_to highest highest ∷ from_to (pos 1) (pos 1) ∷ from_to (negsuc 4611686018427387903) (negsuc 2305843009213693951) ∷ [])))
    (pos 0 ∷ pos 1 ∷ negsuc 0 ∷ pos 2305843009213693952 ∷ pos 0 ∷ pos 0 ∷ pos 2305843009213693952 ∷ [])

-- the same of a part's change: 2^63 - 2, 2^63, 2^62, over a first sum that is rounded to 2^62
abbrev pub case_2_partial_change : Row
case_2_partial_change =
    says (told_of 3 (house 3 1 (from_to (pos 1) highest ∷ from_to (pos 1) (pos 3) ∷ from_to (pos 4611686018427387904) (pos 0) ∷ [])))
    (pos 0 ∷ pos 1 ∷ pos 0 ∷ pos 4611686018427387904 ∷ pos 9223372036854775806 ∷ pos 2 ∷ negsuc 4611686018427387903 ∷ [])

-- and of an account's change over three parts, in the last of which it loses all
abbrev pub case_2_partial_account : Row
case_2_partial_account =
    says (told_of 1 (house 1 3 (from_to (pos 1) highest ∷ from_to (pos 1) (pos 3) ∷ from_to (pos 4611686018427387904) (pos 0) ∷ [])))
    (pos 0 ∷ negsuc 0 ∷ pos 0 ∷ pos 4611686018427387904 ∷ pos 4611686018427387904 ∷ [])

-- "13 group empty or over 32", and before 6
abbrev pub case_2_accounts : Row
case_2_accounts = says (answers (house 0 1 [] ∷ house 33 1 (replicate 33 (from_to (pos 1) (pos 1))) ∷ house 0 0 [] ∷ house 33 65 [] ∷ [])) (pos 13 ∷ pos 13 ∷ pos 13 ∷ pos 13 ∷ [])

-- "6 parts outside 1 to 64"; 32 accounts and 64 parts are not refused
abbrev pub case_2_parts : Row
case_2_parts =
    says (answers (house 1 0 [] ∷ house 1 65 (replicate 65 (from_to (pos 1) (pos 1))) ∷ house 1 64 (replicate 64 (from_to (pos 1) (pos 1))) ∷ house 32 1 (replicate 32 (from_to (pos 1) (pos 1))) ∷ []))
    (pos 6 ∷ pos 6 ∷ pos 0 ∷ pos 0 ∷ [])

-- lists of another length are 6; a mark of 2 is 1, once the lists are as long as they must be
abbrev pub case_2_lists : Row
case_2_lists =
    says
    (answers
    (house_of 1 1 (1 ∷ []) (pos 1 ∷ pos 1 ∷ []) ∷ house_of 1 1 (1 ∷ 1 ∷ []) (pos 1 ∷ pos 1 ∷ pos 1 ∷ []) ∷ house_of 1 1 (2 ∷ []) (pos 1 ∷ pos 1 ∷ [])
    ∷ house_of 1 1 (1 ∷ 2 ∷ []) (pos 1 ∷ pos 1 ∷ []) ∷ house_of 1 1 (2 ∷ 1 ∷ []) (lowest ∷ highest ∷ []) ∷ []))
    (pos 6 ∷ pos 6 ∷ pos 6 ∷ pos 1 ∷ pos 1 ∷ [])

-- "15 a change or a finished sum .. leaves i64": one account's change, and the first sum of 32
abbrev pub case_2_range : Row
case_2_range = says (told_of 1 (house 1 1 (from_to lowest highest ∷ [])) ++ answers (house 32 1 (replicate 32 (from_to highest highest)) ∷ [])) (pos 15 ∷ pos 0 ∷ pos 0 ∷ pos 0 ∷ pos 0 ∷ pos 15 ∷ [])

-- "14 a part's first sum is not positive": nobody is there, 0, below 0
abbrev pub case_2_no_first-sum : Row
case_2_no_first-sum =
    says (answers (house 1 2 (from_to (pos 1) (pos 1) ∷ ends absent absent ∷ []) ∷ house 1 1 (from_to (pos 0) (pos 5) ∷ []) ∷ house 2 1 (from_to (pos 1) (pos 1) ∷ from_to (negsuc 4) (pos 9) ∷ []) ∷ []))
    (pos 14 ∷ pos 14 ∷ pos 14 ∷ [])

-- "in that order": 15 in a later part is told before 14 in an earlier one
abbrev pub case_2_order : Row
case_2_order = says (answers (house 1 2 (ends absent absent ∷ from_to lowest highest ∷ []) ∷ house 1 2 (from_to lowest highest ∷ ends absent absent ∷ []) ∷ [])) (pos 15 ∷ pos 15 ∷ [])

-- ---- 3, a commission ceiling
-- a ceiling equal to the floor is a flat fee: case b's costs, "10 bps, minimum 100", under a ceiling of 100
abbrev pub case_3_flat : Row
case_3_flat = says (cost (with_ceiling (pos 100) ten_bps) (pos 1000000) ∷ cost (with_ceiling (pos 100) ten_bps) (pos 10000) ∷ []) (pos 100 ∷ pos 100 ∷ [])

-- 100 shares at 1,000 with cash 100,050 and 10 bps: the commission of 100 lets 99 of them fit, and a ceiling of 50 all of them
abbrev pub bought_under : ℤ → List ℤ
bought_under ceiling =
    outcome
    (fill (terms_at (with_ceiling ceiling (model (fin false 5 (pos 1)) zero (pos 0))) (whole (pos 1))) (order 1 (whole (pos 100)) (pos 1000)) (cash_only (pos 100050)))

abbrev pub case_3_trimmed : Row
case_3_trimmed = says (bought_under (pos 0)) (whole (pos 99) ∷ pos 1 ∷ pos 1000 ∷ pos 951 ∷ [])

abbrev pub case_3_whole : Row
case_3_whole = says (bought_under (pos 50)) (whole (pos 100) ∷ pos 0 ∷ pos 0 ∷ pos 0 ∷ [])

-- one share sold at 20 with cash 5 and 20,000 bps: the commission of 40 would take cash below 0, and a ceiling of 25 takes it to 0
abbrev pub sold_under : ℤ → List ℤ
sold_under ceiling =
    outcome (fill (terms_at (with_ceiling ceiling (model (fin false 625 (pos 5)) zero (pos 0))) (whole (pos 1))) (order 1 (whole (negsuc 0)) (pos 20)) (cash_only (pos 5)))

abbrev pub case_3_skipped : Row
case_3_skipped = says (sold_under (pos 0)) (pos 0 ∷ pos 0 ∷ pos 0 ∷ pos 5 ∷ [])

abbrev pub case_3_sold : Row
case_3_sold = says (sold_under (pos 25)) (whole (negsuc 0) ∷ pos 0 ∷ pos 0 ∷ pos 0 ∷ [])

-- "1 also when a non-zero ceiling is below `min_commission`": of 0, 99, 100 and -1 beside a floor of 100
abbrev pub good_under : ℤ → ℤ
good_under ceiling = one_if (good_costs (with_ceiling ceiling ten_bps))

abbrev pub case_3_good : Row
case_3_good = says (good_under (pos 0) ∷ good_under (pos 99) ∷ good_under (pos 100) ∷ good_under (negsuc 0) ∷ []) (pos 1 ∷ pos 0 ∷ pos 1 ∷ pos 0 ∷ [])

abbrev pub requests : List Row
requests =
    case_1 ∷ case_1_as_planned ∷ case_1_buy_of_0 ∷ case_1_sale_for_0
    ∷ case_2 ∷ case_2_columns ∷ case_2_trial ∷ case_2_one-end ∷ case_2_partial ∷ case_2_partial_change ∷ case_2_partial_account
    ∷ case_2_accounts ∷ case_2_parts ∷ case_2_lists ∷ case_2_range ∷ case_2_no_first-sum ∷ case_2_order
    ∷ case_3_flat ∷ case_3_trimmed ∷ case_3_whole ∷ case_3_skipped ∷ case_3_sold ∷ case_3_good ∷ []
