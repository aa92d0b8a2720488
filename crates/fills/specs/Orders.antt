-- What a fill is made of: the order, the terms of the call, and what a run of fills changes.
use Rattle.std.specs.Prelude.{ℕ, ◌+◌, ◌^◌, ◌-◌, min, Bool, List, [], ℤ, pos}
use Rattle.std.specs.Int.Signed.{lt_z}
use Rattle.position.specs.declared.position.Position.{Position}
use Rattle.position.specs.Rows.{shares, symbol}
use Rattle.cost_model.specs.Costs.{effective}
use Rattle.fills.specs.declared.terms.Order.{Order}
use Rattle.fills.specs.declared.terms.Terms.{Terms}
use Rattle.fills.specs.declared.record.ExecutionRecord.{ExecutionRecord}

-- what fills change: cash, the positions in symbol order, the two trim counters, the running record count, and the records made
pub record State : Type 0 where
  pub cash : ℤ
  pub held : List Position
  pub trimmed : ℕ
  pub shortfall : ℤ
  pub sequence : ℕ
  pub records : List ExecutionRecord

-- of cash alone: nothing is held, counted or recorded
abbrev pub cash_only : ℤ → State
cash_only cash = record { cash = cash; held = []; trimmed = 0; shortfall = pos 0; sequence = 0; records = [] }

abbrev pub order : ℕ → ℤ → ℤ → Order
order s q p = record { symbol = symbol s; quantity = shares q; price = p }

abbrev pub buys : Order → Bool
buys o = lt_z (pos 0) o.quantity.0

-- "filling ones the effective price"
unfoldable pub paid : Terms → Order → ℤ
paid t o = effective t.costs (buys o) o.price

-- a count of u64, "saturating at the top"
abbrev pub next_count : ℕ → ℕ
next_count n = min (n + 1) (2 ^ 64 - 1)
