-- What the entries answer, and the lent bytes as they leave them.
use Rattle.std.specs.Prelude.{ℕ, ◌*◌, List, eqb, length}
use Rattle.answer.specs.Choice.{pick}
use Rattle.answer.specs.Numbers.{number_of, is_done}
use Rattle.answer.specs.Places.{word_of}
use Rattle.answer.specs.declared.Answer.TheVariants.{Unsound}
use Rattle.account.specs.declared.change.Changed.{Changed}
use Rattle.account_bytes.specs.Sizes.{account_length}
use Rattle.account_bytes.specs.Account.{account_in, written_account}
use Rattle.saving.specs.declared.file.Saved.{Saved}
use Rattle.saving.specs.Saving.{saved_told, saved_into}
use Rattle.loading.specs.Loading.{loaded}

pub record Told : Type 0 where
  pub number : ℕ
  pub lent : List ℕ

abbrev pub told : ℕ → List ℕ → Told
told n l = record { number = n; lent = l }

-- the answer in the lowest byte, and above that of 'done' the file's length
unfoldable pub saved_number : Saved → ℕ
saved_number s = pick (is_done s.answer) (256 * s.length) (number_of s.answer)

-- "Writing: 11, then 19 output room short": bytes that hold no account give zeros, which are not sound; bytes past the file's end stay as found
unfoldable pub save_in : List ℕ → List ℕ → Told
save_in account file = told (saved_number (saved_told (account_in account) (length file))) (saved_into (account_in account) file)

-- the account that was loaded, into bytes of its length; a refusal leaves them as found, and "the saved reader tells the byte place" above the number
unfoldable pub filed_in : Changed → List ℕ → Told
filed_in c account = told (word_of c.answer) (pick (is_done c.answer) (written_account c.account account) account)

-- "Account bytes of the wrong length answer 11"
unfoldable pub load_in : List ℕ → List ℕ → Told
load_in file account = pick (eqb (length account) account_length) (filed_in (loaded file) account) (told (number_of Unsound) account)
