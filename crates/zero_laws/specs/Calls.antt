-- What a call answers, with the account in it as it is read back: every other part is as it was. Definitions only.
use Rattle.std.specs.Prelude.{Float}
use Rattle.cost_model.specs.declared.CostModel.{CostModel}
use Rattle.account.specs.declared.query.Told.{Told}
use Rattle.account.specs.declared.change.Changed.{Changed}
use Rattle.fills.specs.declared.terms.Terms.{Terms}
use Rattle.portfolio.specs.Rebalance.{Outcome}
use Rattle.portfolio.specs.Returns.{Recorded}
use Rattle.portfolio.specs.Trades.{Filed}
use Rattle.records.specs.Into.{Handed}
use Rattle.order.specs.CashFirst.{Call}
use Rattle.zero_laws.specs.Zeros.{plain_zero, plain_costs, plain_account}

-- what a call hands to its fills
abbrev pub plain_terms : Terms → Terms
plain_terms t = record { costs = plain_costs t.costs; quantity_step = t.quantity_step; recording = t.recording; period_index = t.period_index; kind = t.kind }

-- of a setter
abbrev pub plain_changed : Changed → Changed
plain_changed r = record { answer = r.answer; account = plain_account r.account }

-- of a call that trades: by value, in lent number slices, in a lent run of records
abbrev pub plain_outcome : Outcome → Outcome
plain_outcome o = record { answer = o.answer; account = plain_account o.account; records = o.records }

abbrev pub plain_filed : Filed → Filed
plain_filed f = record { answer = f.answer; account = plain_account f.account; records = f.records; words = f.words; ints = f.ints }

abbrev pub plain_handed : Handed → Handed
plain_handed h = record { answer = h.answer; account = plain_account h.account; records = h.records; run = h.run }

-- of `record_return`
abbrev pub plain_recorded : Recorded → Recorded
plain_recorded r = record { answer = r.answer; account = plain_account r.account; equities = r.equities; returns = r.returns }

-- a call of `rebalance_simple` on the account that is read back
abbrev pub on_plain : Call → Call
on_plain c = record {
  account = plain_account c.account;
  targets = c.targets;
  weights = c.weights;
  symbols = c.symbols;
  prices = c.prices;
  period = c.period;
  kind = c.kind;
  room = c.room;
}

-- of the two queries that tell a floating setting
abbrev pub plain_rate : Told Float → Told Float
plain_rate r = record { answer = r.answer; value = plain_zero r.value }

abbrev pub plain_told : Told CostModel → Told CostModel
plain_told r = record { answer = r.answer; value = plain_costs r.value }
