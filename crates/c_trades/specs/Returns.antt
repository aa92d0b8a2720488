-- The return of a period over bytes: the account and the prices are read as what the bytes stand for, the series are numbers.
use Rattle.std.specs.Prelude.{ℕ, List, ℤ, Float}
use Rattle.answer.specs.declared.Answer.{Answer}
use Rattle.answer.specs.Places.{word_of}
use Rattle.table.specs.Keyed.{pick}
use Rattle.account_bytes.specs.Account.{written_account}
use Rattle.list_bytes.specs.Entries.{whole_list}
use Rattle.list_bytes.specs.Lists.{symbols_in, prices_in}
use Rattle.portfolio.specs.Answers.{is_done}
use Rattle.portfolio.specs.Returns.{Recorded, recorded}
use Rattle.c_trades.specs.Asked.{account_in, asked}

pub record ReturnTold : Type 0 where
  pub answer : ℕ
  pub account : List ℕ
  pub equities : List ℤ
  pub returns : List Float

abbrev pub tell_return : ℕ → List ℕ → List ℤ → List Float → ReturnTold
tell_return n b es rs = record { answer = n; account = b; equities = es; returns = rs }

-- the account's bytes after a call that was done; a refusal leaves "every lent place as found", as the series are already
unfoldable pub return_told : Recorded → List ℕ → ReturnTold
return_told o b = tell_return (word_of o.answer) (pick (is_done o.answer) (written_account o.account b) b) o.equities o.returns

abbrev pub unrecorded : List ℕ → List ℤ → List Float → Answer → Recorded
unrecorded b es rs answer = record { answer = answer; account = account_in b; equities = es; returns = rs }

-- account, prices and the two series; no kind is given, so that none is unknown
unfoldable pub return_in : List ℕ → List ℕ → List ℤ → List Float → Recorded
return_in b ps es rs = asked (unrecorded b es rs) b 0 (whole_list 128 ps) (recorded (account_in b) (symbols_in ps) (prices_in ps) es rs)
