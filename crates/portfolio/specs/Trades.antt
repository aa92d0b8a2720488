-- What a call that trades leaves: the answer, the account, and the records in the lent slices.
use Rattle.std.specs.Prelude.{ℕ, List, length, ℤ}
use Rattle.answer.specs.declared.Answer.{Answer}
use Rattle.fills.specs.Records.{all_words, all_ints, fronted}
use Rattle.account.specs.declared.account.Account.{Account}
use Rattle.portfolio.specs.declared.trade.Traded.{Traded}
use Rattle.portfolio.specs.Rebalance.{Outcome}

-- what a call answers, and the two slices as it leaves them
pub record Filed : Type 0 where
  pub answer : Answer
  pub account : Account
  pub records : ℕ
  pub words : List ℕ
  pub ints : List ℤ

abbrev pub filed_by : Traded → List ℕ → List ℤ → Filed
filed_by r ws is = record { answer = r.answer; account = r.account; records = r.records; words = ws; ints = is }

-- "records fill the first places, the answer counts them, and the rest are as found"
abbrev pub filed : Outcome → List ℕ → List ℤ → Filed
filed o ws is = record { answer = o.answer; account = o.account; records = length o.records; words = fronted (all_words o.records) ws; ints = fronted (all_ints o.records) is }
