-- Closing one position at a price.
use Rattle.std.specs.Prelude.{ℕ, ℤ}
use Rattle.answer.specs.declared.Answer.TheVariants.{Done}
use Rattle.sums.specs.Sums.{sat_neg}
use Rattle.position.specs.Rows.{shares, symbol}
use Rattle.table.specs.Keyed.{pick}
use Rattle.table.specs.Rows.{holding}
use Rattle.fills.specs.declared.terms.Order.{Order}
use Rattle.fills.specs.declared.record.ExecutionKind.{ExecutionKind}
use Rattle.fills.specs.Orders.{State}
use Rattle.fills.specs.Fill.{fill}
use Rattle.account.specs.declared.account.Account.{Account}
use Rattle.account.specs.Account.{held_in}
use Rattle.portfolio.specs.Answers.{is_done, close_answer}
use Rattle.portfolio.specs.Rebalance.{Outcome, refused, terms_of, state_of, account_after}

-- the whole holding, the other way
abbrev pub close_order : Account → ℕ → ℤ → Order
close_order a s price = record { symbol = symbol s; quantity = shares (sat_neg (holding s (held_in a.positions)).quantity.0); price = price }

unfoldable pub after_close : Account → ℕ → ℤ → ℕ → ExecutionKind → State
after_close a s price period kind = fill (terms_of a period kind) (close_order a s price) (state_of a)

-- the last-rebalance figures stay
unfoldable pub position_closed : Account → ℕ → ℤ → ℕ → ExecutionKind → ℕ → Outcome
position_closed a s price period kind room =
    let answer = close_answer a s price room in
    let after = after_close a s price period kind in
    pick (is_done answer)
    (record {
      answer = Done;
      account = account_after a after a.counters.last_rebalance_order_count a.counters.last_rebalance_notional;
      records = after.records;
    })
    (refused answer a)
