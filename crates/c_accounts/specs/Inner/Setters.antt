-- What a setter leaves: its account is written after 0 alone, and where what is given is good.
use Rattle.std.specs.Prelude.{ℕ, Bool, List}
use Rattle.answer.specs.declared.Answer.TheVariants.{BadSetting}
use Rattle.answer.specs.Numbers.{is_done}
use Rattle.answer.specs.Places.{word_of}
use Rattle.table.specs.Keyed.{pick}
use Rattle.account.specs.declared.change.Changed.{Changed}
use Rattle.account_bytes.specs.Account.{written_account}
use Rattle.c_accounts.specs.Entries.{AccountTold, account_told, answering}

unfoldable pub setter_told : Bool → Changed → List ℕ → AccountTold
setter_told given c b =
    pick (is_done c.answer)
    (pick given (account_told 0 (written_account c.account b)) (answering BadSetting b))
    (account_told (word_of c.answer) b)
