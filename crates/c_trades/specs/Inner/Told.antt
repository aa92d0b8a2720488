-- What a call over bytes leaves, of records in number slices.
use Rattle.std.specs.Prelude.{ℕ, ◌*◌, List, ℤ, Result, Ok, Err}
use Rattle.answer.specs.declared.Answer.{Answer}
use Rattle.answer.specs.Places.{word_of}
use Rattle.table.specs.Keyed.{pick}
use Rattle.account_bytes.specs.Account.{written_account}
use Rattle.list_bytes.specs.Inner.Records.{written_records}
use Rattle.portfolio.specs.declared.trade.Traded.{Traded}
use Rattle.portfolio.specs.Answers.{is_done}
use Rattle.c_trades.specs.Told.{TradeTold, tell_trade}

unfoldable pub finished : Traded → List ℕ → List ℤ → List ℕ → List ℕ → TradeTold
finished t ws is b rs =
    pick (is_done t.answer)
    (tell_trade (256 * t.records) (written_account t.account b) (written_records ws is t.records rs))
    (tell_trade (word_of t.answer) b rs)

-- the word that C is told: of a call that was done, or of its refusal
abbrev pub word_by : Result ℕ Answer → ℕ
word_by (Ok word) = word
word_by (Err answer) = word_of answer
