-- What a call that trades leaves in a lent run of execution records.
use Rattle.std.specs.Prelude.{ℕ, List, length}
use Rattle.answer.specs.declared.Answer.{Answer}
use Rattle.account.specs.declared.account.Account.{Account}
use Rattle.fills.specs.declared.record.ExecutionRecord.{ExecutionRecord}
use Rattle.fills.specs.Records.{fronted}
use Rattle.portfolio.specs.declared.trade.Traded.{Traded}
use Rattle.portfolio.specs.Rebalance.{Outcome}

-- what a call answers, and the run as it leaves it
pub record Handed : Type 0 where
  pub answer : Answer
  pub account : Account
  pub records : ℕ
  pub run : List ExecutionRecord

abbrev pub handed_by : Traded → List ExecutionRecord → Handed
handed_by r run = record { answer = r.answer; account = r.account; records = r.records; run = run }

-- "records fill the first places, the answer counts them, and the rest are as found"
abbrev pub handed : Outcome → List ExecutionRecord → Handed
handed o found = record { answer = o.answer; account = o.account; records = length o.records; run = fronted o.records found }
