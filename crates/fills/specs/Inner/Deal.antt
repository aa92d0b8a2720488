-- What an order comes to before anything is written, and what is written then.
use Rattle.std.specs.Prelude.{ℕ, [], ◌∷◌, ◌++◌, ℤ, pos, Option, Some, None}
use Rattle.std.specs.Int.Signed.{le_z}
use Rattle.sums.specs.Sums.{sat_add, sat_sub, notional}
use Rattle.position.specs.Rows.{shares, key_of}
use Rattle.position.specs.Shares.{is_zero}
use Rattle.position.specs.Fills.{applied}
use Rattle.cost_model.specs.Costs.{cost}
use Rattle.sizing.specs.Afford.{need, affordable}
use Rattle.sizing.specs.Cash.{cash_taken}
use Rattle.table.specs.Keyed.{pick, put64}
use Rattle.table.specs.Rows.{holding}
use Rattle.fills.specs.declared.deal.Deal.{Deal}
use Rattle.fills.specs.declared.terms.Order.{Order}
use Rattle.fills.specs.declared.terms.Terms.{Terms}
use Rattle.fills.specs.declared.record.ExecutionRecord.{ExecutionRecord}
use Rattle.fills.specs.Orders.{State, buys, paid, next_count}

-- q micro-shares at price p, out of this cash; what a request that was trimmed to them lost
unfoldable pub dealt : Terms → ℤ → ℤ → ℤ → Option ℤ → Deal
dealt t q p cash lost = record {
  quantity = shares q;
  price = p;
  notional = notional q p;
  cost = cost t.costs (notional q p);
  cash_after = sat_sub cash (cash_taken t.costs q p);
  lost = lost;
}

-- nothing fills, and "no commission is charged"
unfoldable pub no_deal : ℤ → ℤ → Option ℤ → Deal
no_deal p cash lost = record { quantity = shares (pos 0); price = p; notional = pos 0; cost = pos 0; cash_after = cash; lost = lost }

-- A request of q trimmed to got. "The trimmed count and the lost notional rise even when nothing remains": what is lost is the notional of the
-- request less that of the fill, both truncated, both at the effective price.
unfoldable pub trimmed_to : Terms → ℤ → ℤ → ℤ → ℤ → Deal
trimmed_to t q got p cash =
    pick (is_zero got)
    (no_deal p cash (Some (sat_sub (notional q p) (notional got p))))
    (dealt t got p cash (Some (sat_sub (notional q p) (notional got p))))

unfoldable pub buy_deal : Terms → ℤ → ℤ → ℤ → Deal
buy_deal t q p cash =
    pick (le_z (need t.costs q p) cash)
    (dealt t q p cash None)
    (trimmed_to t q (affordable t.costs t.quantity_step cash q p) p cash)

unfoldable pub sale_deal : Terms → ℤ → ℤ → ℤ → Deal
sale_deal t q p cash = pick (le_z (pos 0) (sat_sub cash (cash_taken t.costs q p))) (dealt t q p cash None) (no_deal p cash None)

unfoldable pub deal_of : Terms → Order → ℤ → Deal
deal_of t o cash =
    pick (is_zero o.quantity.0)
    (no_deal (paid t o) cash None)
    (pick (buys o) (buy_deal t o.quantity.0 (paid t o) cash) (sale_deal t o.quantity.0 (paid t o) cash))

-- ---- what is written then
unfoldable pub record_by : Terms → Order → Deal → ℕ → ℤ → ExecutionRecord
record_by t o d n before = record {
  sequence = n;
  period_index = t.period_index;
  kind = t.kind;
  symbol = o.symbol;
  quantity = d.quantity;
  price = d.price;
  reference_price = o.price;
  notional = d.notional;
  reference_notional = notional d.quantity.0 o.price;
  cost = d.cost;
  cash_delta = sat_sub d.cash_after before;
  cash_after = d.cash_after;
}

-- "The trimmed count and the lost notional rise even when nothing remains"
abbrev pub trims_after : Option ℤ → ℕ → ℕ
trims_after None n = n
trims_after (Some lost) n = next_count n

abbrev pub shortfall_after : Option ℤ → ℤ → ℤ
shortfall_after None z = z
shortfall_after (Some lost) z = sat_add z lost

unfoldable pub counted_by : Deal → State → State
counted_by d s = record {
  cash = s.cash;
  held = s.held;
  trimmed = trims_after d.lost s.trimmed;
  shortfall = shortfall_after d.lost s.shortfall;
  sequence = s.sequence;
  records = s.records;
}

unfoldable pub settled_by : Terms → Order → Deal → State → State
settled_by t o d s = record {
  cash = d.cash_after;
  held = put64 key_of (applied (holding o.symbol.0 s.held) d.quantity.0 d.price) s.held;
  trimmed = s.trimmed;
  shortfall = s.shortfall;
  sequence = pick t.recording (next_count s.sequence) s.sequence;
  records = pick t.recording (s.records ++ (record_by t o d s.sequence s.cash ∷ [])) s.records;
}

unfoldable pub after_deal : Terms → Order → Deal → State → State
after_deal t o d s = pick (is_zero d.quantity.0) (counted_by d s) (settled_by t o d (counted_by d s))
