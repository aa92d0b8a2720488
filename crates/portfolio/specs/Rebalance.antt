-- A rebalance: the plan, its fills, and the account after them.
use Rattle.std.specs.Prelude.{ℕ, List, [], map, length, ℤ, pos, Float}
use Rattle.std.specs.Int.Signed.{le_z}
use Rattle.answer.specs.declared.Answer.{Answer}
use Rattle.answer.specs.declared.Answer.TheVariants.{Done}
use Rattle.table.specs.Keyed.{pick}
use Rattle.call_lists.specs.Lists.{price_of}
use Rattle.fills.specs.declared.terms.Order.{Order}
use Rattle.fills.specs.declared.terms.Terms.{Terms}
use Rattle.fills.specs.declared.record.ExecutionKind.{ExecutionKind}
use Rattle.fills.specs.declared.record.ExecutionRecord.{ExecutionRecord}
use Rattle.fills.specs.Orders.{State}
use Rattle.fills.specs.Fill.{fill_all}
use Rattle.account.specs.declared.account.Account.{Account}
use Rattle.account.specs.declared.settings.Settings.{Settings}
use Rattle.account.specs.Account.{held_in, table_of}
use Rattle.wanted.specs.declared.planned.PlannedOrder.{PlannedOrder}
use Rattle.wanted.specs.Equity.{equity_of}
use Rattle.admission.specs.Running.{plan_of, in_running_order, notional_from}
use Rattle.portfolio.specs.Answers.{is_done, rebalance_answer}

-- an answer, the account, and the records that fill the first places
pub record Outcome : Type 0 where
  pub answer : Answer
  pub account : Account
  pub records : List ExecutionRecord

-- "The caller gives period index and kind with the call."
abbrev pub terms_by : Settings → ℕ → ExecutionKind → Terms
terms_by s period kind = record { costs = s.rules.cost_model; quantity_step = s.quantity_step; recording = s.recording; period_index = period; kind = kind }

abbrev pub terms_of : Account → ℕ → ExecutionKind → Terms
terms_of a period kind = terms_by a.settings period kind

-- what fills change, as the account has it, with no record made yet
abbrev pub state_of : Account → State
state_of a = record {
  cash = a.cash;
  held = held_in a.positions;
  trimmed = a.counters.trimmed_fill_count;
  shortfall = a.counters.trimmed_shortfall_cents;
  sequence = a.counters.record_count;
  records = [];
}

-- the account after fills, with the two last-rebalance figures
unfoldable pub account_after : Account → State → ℕ → ℤ → Account
account_after a s orders traded = record {
  cash = s.cash;
  settings = a.settings;
  counters = record {
    last_rebalance_order_count = orders;
    last_rebalance_notional = traded;
    trimmed_fill_count = s.trimmed;
    trimmed_shortfall_cents = s.shortfall;
    record_count = s.sequence;
  };
  series = a.series;
  positions = table_of s.held;
}

abbrev pub order_of : PlannedOrder → Order
order_of o = record { symbol = o.symbol; quantity = o.quantity; price = o.price }

-- the admitted plan; "At equity 0 or below the call is done with no orders"
unfoldable pub admitted_plan : Account → List ℕ → List Float → (ℕ → ℤ) → List PlannedOrder
admitted_plan a ts ws price =
    let equity = equity_of price a.cash (held_in a.positions) in
    pick (le_z equity (pos 0)) [] (plan_of a.settings equity price (held_in a.positions) ts ws)

unfoldable pub after_plan : Account → List PlannedOrder → ℕ → ExecutionKind → State
after_plan a plan period kind = fill_all (terms_of a period kind) (map order_of (in_running_order a.settings plan)) (state_of a)

-- refused: "the account as given"
abbrev pub refused : Answer → Account → Outcome
refused answer a = record { answer = answer; account = a; records = [] }

unfoldable pub after_rebalance : Account → List PlannedOrder → ℕ → ExecutionKind → Outcome
after_rebalance a plan period kind = record {
  answer = Done;
  account = account_after a (after_plan a plan period kind) (length plan) (notional_from (pos 0) plan);
  records = (after_plan a plan period kind).records;
}

unfoldable pub rebalanced : Account → List ℕ → List Float → List ℕ → List ℤ → ℕ → ExecutionKind → ℕ → Outcome
rebalanced a ts ws ps vs period kind room =
    let answer = rebalance_answer a ts ws ps vs room in
    pick (is_done answer) (after_rebalance a (admitted_plan a ts ws (price_of ps vs)) period kind) (refused answer a)
