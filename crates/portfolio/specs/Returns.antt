-- Recording a return: the equity and, where one is due, the return of a period.
use Rattle.std.specs.Prelude.{ℕ, ◌+◌, Bool, true, List, ltb, length, set, ℤ, pos, Float}
use Rattle.std.specs.Int.Signed.{lt_z}
use Rattle.std.specs.Float.{binary64}
use Rattle.std.specs.Float.Ieee.{div}
use Rattle.answer.specs.declared.Answer.{Answer}
use Rattle.answer.specs.declared.Answer.TheVariants.{Done}
use Rattle.sums.specs.Sums.{sat_sub}
use Rattle.doubles.specs.Doubles.{zero, of_i64}
use Rattle.table.specs.Keyed.{pick}
use Rattle.call_lists.specs.Lists.{price_of}
use Rattle.account.specs.declared.account.Account.{Account}
use Rattle.account.specs.declared.account.Series.{Series}
use Rattle.account.specs.declared.change.Changed.{Changed}
use Rattle.account.specs.Account.{held_in, with_series}
use Rattle.wanted.specs.Equity.{equity_of}
use Rattle.portfolio.specs.Answers.{is_done, return_answer}

-- "A return is the saturating equity change over previous equity when that is above 0"
unfoldable pub return_of : ℤ → ℤ → Float
unfolding div
return_of previous equity =
    pick (lt_z (pos 0) previous) (div binary64 (of_i64 (sat_sub equity previous)) (of_i64 previous)) zero

-- "else 0.0 once a return exists; else none"
unfoldable pub is_due : Series → Bool
is_due s = pick (lt_z (pos 0) s.prev_equity) true (ltb 0 s.return_count)

unfoldable pub next_series : Series → ℤ → Series
next_series s equity = record {
  equity_count = s.equity_count + 1;
  return_count = pick (is_due s) (s.return_count + 1) s.return_count;
  prev_equity = equity;
}

-- an answer, the account, and both buffers
pub record Recorded : Type 0 where
  pub answer : Answer
  pub account : Account
  pub equities : List ℤ
  pub returns : List Float

abbrev pub recorded_by : Changed → List ℤ → List Float → Recorded
recorded_by r equities returns = record { answer = r.answer; account = r.account; equities = equities; returns = returns }

unfoldable pub recorded : Account → List ℕ → List ℤ → List ℤ → List Float → Recorded
recorded a ps vs equities returns =
    let answer = return_answer a ps vs (length equities) (length returns) in
    let equity = equity_of (price_of ps vs) a.cash (held_in a.positions) in
    pick (is_done answer)
    (record {
      answer = Done;
      account = with_series (next_series a.series equity) a;
      equities = set equities a.series.equity_count equity;
      returns = pick (is_due a.series) (set returns a.series.return_count (return_of a.series.prev_equity equity)) returns;
    })
    (record { answer = answer; account = a; equities = equities; returns = returns })
