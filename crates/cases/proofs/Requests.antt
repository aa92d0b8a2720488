-- Every case of document 02 comes out as it says: the definitions are evaluated. Assumes nothing.
use mathlib.Core.Bool.{true}
use mathlib.Core.Path.{◌≡◌, refl}
use lib.Ieee.{add, sub, mul, div, lt, le, of_int, to_signed}
use Rattle.sums.specs.Sums.{clamp64, sat_add, sat_sub, sat_neg, sat_abs, value, notional}
use Rattle.doubles.specs.Doubles.{all_finite, round_away}
use Rattle.position.specs.Shares.{is_zero}
use Rattle.position.specs.Symbols.{bytes_from, leading, padded, good_symbol}
use Rattle.position.specs.Fills.{sound_numbers, sound, applied, same_side, entered, closed_by, gain, realized_by, closed, reduced}
use Rattle.cost_model.specs.Costs.{cost, commission, at_least, uncapped, at_most, slippage_factor, slipped, effective, good_rate, good_ceiling, good_costs}
use Rattle.sizing.specs.Sizing.{above, drift}
use Rattle.sizing.specs.Afford.{need, fits, largest, affordable}
use Rattle.sizing.specs.Cash.{cash_taken, cash_change}
use Rattle.table.specs.Rows.{zipped, unused, ordered}
use Rattle.fills.specs.Orders.{paid}
use Rattle.fills.specs.Records.{record_of}
use Rattle.fills.specs.Fill.{fills_whole, made, counted, settled, trimmed_fill, fill, fill_all}
use Rattle.account.specs.Settings.{good_rules, good_settings}
use Rattle.account.specs.Account.{sound_account, sound_scalars, sound_columns, sound_places, table_of}
use Rattle.call_lists.specs.Lists.{among, all_good, distinct, all_priced, price_of}
use Rattle.call_lists.specs.Checks.{short_enough, lists_answer}
use Rattle.wanted.specs.Plan.{within_band, under_maximum, limited, allowed_order, planned_close, closing, closings, targetings, wanted}
use Rattle.wanted.specs.Equity.{worth_from, equity_of}
use Rattle.admission.specs.Admission.{capped, insert_by, added, added_all, admitted_from, admitted}
use Rattle.admission.specs.Running.{parted, sorted_with, cash_first_of, in_running_order, notional_from, plan_of}
use Rattle.portfolio.specs.Answers.{has_room_of, not_held, rebalance_answer}
use Rattle.portfolio.specs.Rebalance.{rebalanced, after_rebalance, after_plan, account_after, admitted_plan}
use Rattle.portfolio.specs.Returns.{return_of}
use Rattle.metrics.specs.Curve.{compounded}
use Rattle.house.specs.Group.{sum_to, every, product_to}
use Rattle.house.specs.Places.{each}
use Rattle.house.specs.House.{report, refusal, house_of_group, house_of}
use Rattle.cases.specs.Rows.{all_right}
use Rattle.cases.specs.Requests.{requests}

pub requests_hold : all_right requests ≡ true
unfolding house_of house_of_group report refusal each sum_to every product_to compounded return_of rebalanced after_rebalance after_plan account_after admitted_plan rebalance_answer has_room_of not_held sound_account sound_scalars sound_columns sound_places table_of good_rules good_settings good_ceiling good_costs good_rate zipped unused ordered good_symbol bytes_from leading padded sound_numbers sound short_enough lists_answer among all_good distinct all_finite all_priced price_of worth_from equity_of plan_of wanted closings closing planned_close allowed_order within_band under_maximum limited targetings drift capped insert_by added added_all admitted_from admitted in_running_order cash_first_of parted sorted_with cash_change cash_taken notional_from fill_all fill fills_whole settled counted trimmed_fill need fits largest affordable above made record_of paid applied same_side entered closed_by gain realized_by closed reduced is_zero cost commission at_least uncapped at_most effective slipped slippage_factor value notional clamp64 sat_add sat_sub sat_neg sat_abs round_away add sub mul div lt le of_int to_signed
requests_hold = refl
