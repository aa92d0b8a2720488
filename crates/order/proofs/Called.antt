-- The conditions of cash-first mode's theorem can be met: document 02's case.
use Prim.Native.Nat.{ℕ}
use mathlib.Core.Bool.{true, false}
use mathlib.Core.List.{List, [], ◌∷◌}
use mathlib.Core.Path.{◌≡◌, refl, ◌∙◌}
use lib.IntN.{ℤ, pos, negsuc, ◌+ℤ◌}
use lib.Ieee.{add, mul, div, lt, le, of_int, to_signed}
use Rattle.sums.specs.Sums.{clamp64, sat_add, sat_sub, sat_neg, sat_abs, value, notional}
use Rattle.doubles.specs.Doubles.{all_finite, round_away}
use Rattle.position.specs.Shares.{is_zero}
use Rattle.position.specs.Rows.{row}
use Rattle.position.specs.Symbols.{bytes_from, leading, padded, good_symbol}
use Rattle.position.specs.Fills.{sound_numbers, sound, applied, same_side, closed_by, gain, realized_by, closed, reduced}
use Rattle.cost_model.specs.Costs.{model, zero, cost, commission, at_least, uncapped, at_most, slippage_factor, slipped, effective, good_rate, good_ceiling, good_costs}
use Rattle.sizing.specs.Sizing.{above, drift}
use Rattle.sizing.specs.Cash.{cash_taken, cash_change}
use Rattle.table.specs.Rows.{zipped, unused, ordered}
use Rattle.fills.specs.declared.record.ExecutionKind.TheVariants.{Rebalance}
use Rattle.fills.specs.Orders.{paid}
use Rattle.fills.specs.Records.{record_of}
use Rattle.fills.specs.Fill.{fills_whole, made, settled, fill, fill_all}
use Rattle.account.specs.Settings.{of_costs, opening_settings, with_recording, with_cash_first, good_rules, good_settings}
use Rattle.account.specs.Account.{sound_account, sound_scalars, sound_columns, sound_places, table_of}
use Rattle.account.specs.Calls.{zero_account}
use Rattle.call_lists.specs.Lists.{among, all_good, distinct, all_priced, price_of}
use Rattle.call_lists.specs.Checks.{short_enough, lists_answer}
use Rattle.wanted.specs.Plan.{within_band, under_maximum, limited, allowed_order, planned_close, closing, closings, targetings, wanted}
use Rattle.wanted.specs.Equity.{worth_from, equity_of}
use Rattle.admission.specs.Admission.{capped, insert_by, added, added_all, admitted_from, admitted}
use Rattle.admission.specs.Running.{plan_of}
use Rattle.portfolio.specs.Answers.{has_room_of, not_held, rebalance_answer}
use Rattle.portfolio.specs.Rebalance.{admitted_plan}
use Rattle.order.specs.Running.{swap, total}
use Rattle.order.specs.Statement.{cash_raised, all_whole_of}
use Rattle.fills.specs.declared.terms.Order.{Order}
use Rattle.order.specs.Examples.{sell}
use Rattle.order.specs.CashFirst.{Call, InCashFirst, FillsAll, left, begins, terms}
use Rattle.order.proofs.CashFirst.{carries_demand_3}

abbrev A : ℕ
A = 4683743612465315840

abbrev B : ℕ
B = 4755801206503243776

abbrev case : Call
case = record {
  account = record {
    cash = pos 0;
    settings = with_cash_first true (with_recording true (opening_settings (of_costs (model zero zero (pos 15))) (pos 1000000)));
    counters = zero_account.counters;
    series = zero_account.series;
    positions = table_of (row A (pos 1000000) (pos 10) (pos 0) (pos 10) ∷ row B (pos 1000000) (pos 25) (pos 0) (pos 25) ∷ []);
  };
  targets = [];
  weights = [];
  symbols = A ∷ B ∷ [];
  prices = pos 10 ∷ pos 25 ∷ [];
  period = 0;
  kind = Rebalance;
  room = 64;
}

pub asked : InCashFirst case
unfolding total cash_raised above admitted_plan rebalance_answer has_room_of not_held sound_account sound_scalars sound_columns sound_places table_of good_rules good_settings good_ceiling good_costs good_rate zipped unused ordered good_symbol bytes_from leading padded sound_numbers sound short_enough lists_answer among all_good distinct all_finite all_priced price_of worth_from equity_of plan_of wanted closings closing planned_close allowed_order within_band under_maximum limited targetings drift capped insert_by added added_all admitted_from admitted cash_change cash_taken cost commission at_least uncapped at_most effective slipped slippage_factor value notional clamp64 sat_add sat_sub sat_neg sat_abs round_away add mul div lt le of_int to_signed is_zero
asked = record {
  columns = record { symbol = refl; quantity = refl; average = refl; realized = refl; total = refl };
  mode = refl;
  done = refl;
  cash_top = refl;
}

pub b_then_a : FillsAll case (sell B (pos 25) ∷ sell A (pos 10) ∷ [])
unfolding all_whole_of admitted_plan table_of zipped lists_answer among price_of worth_from equity_of plan_of wanted closings closing planned_close allowed_order within_band under_maximum limited targetings drift capped insert_by added added_all admitted_from admitted cash_taken fill fills_whole settled made record_of paid applied same_side closed_by gain realized_by closed reduced is_zero cost commission at_least uncapped at_most effective slipped slippage_factor value notional clamp64 sat_add sat_sub sat_neg sat_abs round_away add mul div lt le of_int to_signed
b_then_a = record { runs = swap; whole = refl }

pub ends_at_5 : (left case).cash ≡ pos 5
unfolding fill_all table_of zipped fill fills_whole settled made record_of paid applied same_side closed_by gain realized_by closed reduced is_zero cash_taken cost commission at_least uncapped at_most effective slipped slippage_factor value notional clamp64 sat_add sat_sub sat_neg sat_abs round_away add mul div lt le of_int to_signed
ends_at_5 = ((carries_demand_3 case asked).leaves _ b_then_a).cash
