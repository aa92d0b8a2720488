-- The worked runs, evaluated, and condition 3 at case l: its conditions can be met, and are needed.
use Prim.Native.Nat.{ℕ}
use mathlib.Core.Bool.{true, false}
use mathlib.Core.List.{[], ◌∷◌}
use mathlib.Core.Path.{◌≡◌, refl, sym, subst}
use native.Mathlib.Omega.{arith}
use lib.Dec.{lit≤}
use lib.IntN.{ℤ, pos, ◌+ℤ◌}
use lib.Ieee.{add, mul, div, le, of_int, to_signed}
use Rattle.sums.specs.Sums.{clamp64, sat_add, sat_sub, sat_abs, value, notional, price_at}
use Rattle.doubles.specs.Doubles.{round_away}
use Rattle.position.specs.Shares.{is_zero}
use Rattle.position.specs.Fills.{applied, same_side, entered, averaged, grown, closed_by, gain, realized_by, closed_cost, closed, partly_closed, reduced}
use Rattle.cost_model.specs.Costs.{cost, commission, at_least, uncapped, at_most, effective, slipped, slippage_factor, good_ceiling, good_costs, good_rate}
use Rattle.sizing.specs.Sizing.{above}
use Rattle.sizing.specs.Afford.{need, fits, largest, affordable}
use Rattle.sizing.specs.Cash.{cash_taken, cash_change}
use Rattle.fills.specs.declared.terms.Terms.{Terms}
use Rattle.fills.specs.Orders.{cash_only, paid}
use Rattle.fills.specs.Fill.{fills_whole, made, counted, settled, trimmed_fill, fill, fill_all}
use Rattle.admission.specs.Running.{parted}
use Rattle.order.specs.Running.{swap, total, nothing, and, NotBelow0, InRange}
use Rattle.order.specs.Statement.{lowers, cash_raised, Batch, all_whole_of, AllWhole, SameLeft}
use Rattle.order.specs.Examples.{floor_of, all_come_out, sale_first, buy_first, small_sale, runs, same_symbol, one_room, slips_down, slipped_buy, slipped_sale, bad_costs}
use Rattle.order.proofs.Perms.{perm_refl}
use Rattle.order.proofs.OrderTheorem.{condition_3, parted-whole}

abbrev free : Terms
free = floor_of (pos 0)

pub record Evaluated : Type 0 where
  pub runs_come_out : all_come_out runs ≡ true
  -- 'sells first' would not put those not lowering cash first
  pub small_sale_lowers-cash : lowers (floor_of (pos 15)) small_sale ≡ true
  pub same-symbol_matters : same_symbol ≡ (pos 50 ∷ []) ∷ ((pos 0 ∷ []) ∷ [])
  pub one-room_matters : one_room ≡ (64 ∷ []) ∷ ((65 ∷ []) ∷ [])
  pub good-costs_matter : bad_costs ≡ true ∷ (false ∷ [])
  pub slipped-buy-lowers-cash : lowers slips_down slipped_buy ≡ true
  pub slipped_sale_lowers-cash : lowers slips_down slipped_sale ≡ true
  good : good_costs free.costs ≡ true
  raised : total (cash_raised free) sale_first ≡ 80
  sale_first_at_50 : AllWhole free sale_first (cash_only (pos 50))
  sale_first_at_100 : AllWhole free sale_first (cash_only (pos 100))
  buy-first_at_100 : AllWhole free buy_first (cash_only (pos 100))

pub evaluated : Evaluated
unfolding total cash_raised cash_change all_whole_of fill_all fill fills_whole settled trimmed_fill counted made cash_taken paid need fits largest affordable above good_ceiling good_costs good_rate effective slipped slippage_factor cost commission at_least uncapped at_most applied same_side entered averaged grown closed_by gain realized_by closed_cost closed partly_closed reduced is_zero value notional price_at clamp64 sat_add sat_sub sat_abs round_away add mul div le of_int to_signed
evaluated = record {
  runs_come_out = refl;
  small_sale_lowers-cash = refl;
  same-symbol_matters = refl;
  one-room_matters = refl;
  good-costs_matter = refl;
  slipped-buy-lowers-cash = refl;
  slipped_sale_lowers-cash = refl;
  good = refl;
  raised = refl;
  sale_first_at_50 = refl;
  sale_first_at_100 = refl;
  buy-first_at_100 = refl;
}

-- ---- the theorem at case l
two_not_one : ◌≡◌ {A = ℕ} 2 1 → ⊥
two_not_one e = omega arith

batch : (c : ℤ) → NotBelow0 c → InRange (c +ℤ pos 80) → Batch free sale_first (cash_only c)
unfolding is_zero total
batch c low top = record {
  funded = record {
    costs = evaluated.good;
    orders = and (record { quantity = refl; price = refl }) (and (record { quantity = refl; price = refl }) nothing);
    cash-low = low;
    cash_top = subst (λ (n : ℕ). InRange (c +ℤ pos n)) (sym evaluated.raised) top;
  };
  different = and (and two_not_one nothing) (and nothing nothing);
  room = lit≤ tt;
}

-- cash 50: a running order fills both, so those not lowering cash first do
pub case_l_fills : AllWhole free (parted (lowers free) sale_first) (cash_only (pos 50))
case_l_fills = parted-whole free sale_first (cash_only (pos 50)) (batch (pos 50) refl refl).funded sale_first (perm_refl sale_first) evaluated.sale_first_at_50

-- cash 100: both running orders fill both, and leave the same
pub case_l_same : SameLeft (fill_all free sale_first (cash_only (pos 100))) (fill_all free buy_first (cash_only (pos 100)))
case_l_same = (condition_3 free sale_first (cash_only (pos 100)) (batch (pos 100) refl refl)).same sale_first buy_first (perm_refl sale_first) swap evaluated.sale_first_at_100 evaluated.buy-first_at_100
