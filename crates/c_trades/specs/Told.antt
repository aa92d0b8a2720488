-- What a call over bytes returns and leaves: the answer's number in the low eight bits with the count of records above it, and the lent bytes.
use Rattle.std.specs.Prelude.{ℕ, ◌*◌, List, ◌++◌, length, drop}
use Rattle.answer.specs.Places.{word_of}
use Rattle.table.specs.Keyed.{pick}
use Rattle.account_bytes.specs.Account.{written_account}
use Rattle.list_bytes.specs.Records.{all_bytes}
use Rattle.portfolio.specs.Answers.{is_done}
use Rattle.portfolio.specs.Rebalance.{Outcome}

pub record TradeTold : Type 0 where
  pub answer : ℕ
  pub account : List ℕ
  pub records : List ℕ

abbrev pub tell_trade : ℕ → List ℕ → List ℕ → TradeTold
tell_trade n b rs = record { answer = n; account = b; records = rs }

-- "After 0, records fill the first places, the answer counts them, and the rest are as found"; a refusal leaves "every lent place as found"
unfoldable pub trade_told : Outcome → List ℕ → List ℕ → TradeTold
trade_told o b rs =
    pick (is_done o.answer)
    (tell_trade (256 * length o.records) (written_account o.account b) (all_bytes o.records ++ drop (96 * length o.records) rs))
    (tell_trade (word_of o.answer) b rs)
