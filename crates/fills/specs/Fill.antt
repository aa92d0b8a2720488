-- Document 01, 'Filling': one order, and a run of them.
use Rattle.std.specs.Prelude.{Bool, List, [], ◌∷◌, ◌++◌, ℤ, pos}
use Rattle.std.proofs.Math.Option.{Option}
use Rattle.std.specs.Int.Signed.{le_z}
use Rattle.sums.specs.Sums.{sat_add, sat_sub, notional}
use Rattle.position.specs.declared.position.Position.{Position}
use Rattle.position.specs.Rows.{fresh, key_of}
use Rattle.position.specs.Shares.{is_zero}
use Rattle.position.specs.Fills.{applied}
use Rattle.sizing.specs.Afford.{need, affordable}
use Rattle.sizing.specs.Cash.{cash_taken}
use Rattle.table.specs.Keyed.{pick, or_else, seek, put64}
use Rattle.fills.specs.declared.terms.Order.{Order}
use Rattle.fills.specs.declared.terms.Terms.{Terms}
use Rattle.fills.specs.Orders.{State, buys, paid, next_count}
use Rattle.fills.specs.Records.{record_of}

-- "A buy's need is notional plus commission"; "A sell whose cash afterwards would be below 0 is skipped"
unfoldable pub fills_whole : Terms → Order → ℤ → Bool
fills_whole t o cash = pick (buys o)
    (le_z (need t.costs o.quantity.0 (paid t o)) cash)
    (le_z (pos 0) (sat_sub cash (cash_taken t.costs o.quantity.0 (paid t o))))

-- the position of the order's symbol after a fill of q; a symbol that the table lacks starts flat
unfoldable pub made : Terms → Order → ℤ → Option Position → Position
made t o q held = applied (or_else (fresh o.symbol.0) held) q (paid t o)

-- "The trimmed count and the lost notional rise even when nothing remains"
unfoldable pub counted : Terms → Order → ℤ → State → State
counted t o q s = record {
  cash = s.cash;
  held = s.held;
  trimmed = next_count s.trimmed;
  shortfall = sat_add s.shortfall (sat_sub (notional o.quantity.0 (paid t o)) (notional q (paid t o)));
  sequence = s.sequence;
  records = s.records;
}

-- q micro-shares of the order are filled
unfoldable pub settled : Terms → Order → ℤ → State → State
settled t o q s = record {
  cash = sat_sub s.cash (cash_taken t.costs q (paid t o));
  held = put64 key_of (made t o q (seek key_of o.symbol.0 s.held)) s.held;
  trimmed = s.trimmed;
  shortfall = s.shortfall;
  sequence = pick t.recording (next_count s.sequence) s.sequence;
  records = pick t.recording (s.records ++ (record_of t o q s.sequence s.cash (sat_sub s.cash (cash_taken t.costs q (paid t o))) ∷ [])) s.records;
}

-- "the fill becomes the largest step multiple, not above the request, whose need fits cash"; with nothing left "no commission is charged"
unfoldable pub trimmed_fill : Terms → Order → State → State
trimmed_fill t o s =
    let q = affordable t.costs t.quantity_step s.cash o.quantity.0 (paid t o) in
    pick (is_zero q) (counted t o q s) (settled t o q (counted t o q s))

-- one order: nothing at quantity 0; else all of it, the part of a buy that cash covers, or nothing
unfoldable pub fill : Terms → Order → State → State
fill t o s = pick (is_zero o.quantity.0) s
    (pick (fills_whole t o s.cash) (settled t o o.quantity.0 s)
    (pick (buys o) (trimmed_fill t o s) s))

-- "records go into a lent run of execution records, in the order filled"
unfoldable pub fill_all : Terms → List Order → State → State
fill_all t [] s = s
fill_all t (o ∷ os) s = fill_all t os (fill t o s)
