-- Caps, one order at a time: what becomes of an order that is offered, and what admission makes of the columns.
use Rattle.std.specs.Prelude.{ℕ, ◌++◌, map, length, drop, ℤ, pos, ◌-ℤ◌}
use Rattle.std.specs.Int.Signed.{lt_z, le_z}
use Rattle.sums.specs.Sums.{notional}
use Rattle.position.specs.Rows.{shares}
use Rattle.table.specs.Keyed.{pick}
use Rattle.table.specs.Rows.{is_zero}
use Rattle.sizing.specs.Sizing.{cut_to}
use Rattle.account.specs.declared.settings.Settings.{Settings}
use Rattle.admission.specs.declared.cap.Offered.{Offered}
use Rattle.admission.specs.declared.cap.Offered.TheVariants.{Whole, Part, Ends}
use Rattle.admission.specs.Admission.{reached, admitted}
use Rattle.admission.specs.Inner.Columns.{plan_cols, plans, CountedPlan, counted_plan}

-- "truncated to it by the same formula, kept if not zero and not under the minimum, and ends admission"
unfoldable pub part_offered : Settings → ℤ → ℤ → ℤ → Offered
part_offered s left quantity price =
    let cut = cut_to quantity price s.quantity_step left in
    pick (is_zero cut) Ends (pick (lt_z (notional cut price) s.min_order_value) Ends (Part (shares cut)))

-- the order after n admitted ones, with `left` of the notional cap
unfoldable pub offered : Settings → ℕ → ℤ → ℤ → ℤ → Offered
offered s n left quantity price =
    pick (reached s.max_trades_per_rebalance n) Ends
    (pick (le_z s.max_rebalance_notional (pos 0)) (Whole left)
    (pick (le_z left (pos 0)) Ends
    (pick (lt_z left (notional quantity price)) (part_offered s left quantity price)
    (Whole (left -ℤ notional quantity price)))))

-- the plan cut to its admitted orders: their count, and their quantities in the first places; the other columns stay
unfoldable pub cut_plan : Settings → CountedPlan → CountedPlan
cut_plan s t =
    let c = t.columns in
    let l = admitted s (plans t.count c) in
    counted_plan (length l) (plan_cols c.symbol (map (λ o. o.quantity.0) l ++ drop (length l) c.quantity) c.price c.drift)
