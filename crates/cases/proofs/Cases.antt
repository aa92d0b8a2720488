-- Every case of the table comes out as document 01 says: the definitions are evaluated. Assumes nothing.
use mathlib.Core.Bool.{true}
use mathlib.Core.Path.{◌≡◌, refl}
use lib.Ieee.{add, mul, div, lt, le, of_int, to_signed}
use Rattle.sums.specs.Sums.{clamp64, sat_add, sat_sub, sat_abs, value, notional, price_at, signed, snap}
use Rattle.doubles.specs.Doubles.{round_away}
use Rattle.position.specs.Shares.{is_zero}
use Rattle.position.specs.Fills.{applied, same_side, entered, averaged, grown, closed_by, gain, realized_by, closed_cost, closed, partly_closed, reduced}
use Rattle.cost_model.specs.Costs.{cost, commission, at_least, uncapped, at_most, slippage_factor, slipped, effective, good_rate, good_ceiling, good_costs}
use Rattle.sizing.specs.Sizing.{above, shares_for, sized, drift}
use Rattle.sizing.specs.Afford.{need, fits, largest, affordable}
use Rattle.sizing.specs.Cash.{cash_taken}
use Rattle.fills.specs.Orders.{paid}
use Rattle.fills.specs.Fill.{fills_whole, made, counted, settled, trimmed_fill, fill, fill_all}
use Rattle.wanted.specs.Plan.{within_band}
use Rattle.cases.specs.Rows.{all_right}
use Rattle.cases.specs.Table.{table}

pub cases_hold : all_right table ≡ true
unfolding fill fill_all fills_whole made counted settled trimmed_fill cash_taken paid within_band drift need fits largest affordable effective slipped slippage_factor good_rate good_ceiling good_costs notional add lt le applied same_side entered averaged grown closed_by gain realized_by closed_cost closed partly_closed reduced is_zero cost commission at_least uncapped at_most sized shares_for above value price_at clamp64 sat_add sat_sub sat_abs signed snap round_away mul div of_int to_signed
cases_hold = refl
