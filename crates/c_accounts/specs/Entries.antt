-- What every entry on an account's bytes shares: the account that they stand for, and the answer with the lent bytes after it.
use Rattle.std.specs.Prelude.{ℕ, List}
use Rattle.answer.specs.declared.Answer.{Answer}
use Rattle.answer.specs.Places.{word_of}
use Rattle.word_bytes.specs.Words.{bytes_of}
use Rattle.account.specs.declared.account.Account.{Account}
use Rattle.account.specs.declared.settings.Settings.{Settings}
pub use Rattle.account_bytes.specs.Account.{account_in}
unfoldable pub use Rattle.account_bytes.specs.Account.{sound_in}
use Rattle.account_bytes.specs.Account.{account_words_of}

-- ---- bytes and the account
abbrev pub settings_in : List ℕ → Settings
settings_in b = (account_in b).settings

unfoldable pub account_bytes_of : Account → List ℕ
account_bytes_of a = bytes_of (account_words_of a)

-- ---- the answer's word, and the lent bytes as the entry leaves them
pub record AccountTold : Type 0 where
  pub number : ℕ
  pub lent : List ℕ

abbrev pub account_told : ℕ → List ℕ → AccountTold
account_told n l = record { number = n; lent = l }

abbrev pub answering : Answer → List ℕ → AccountTold
answering w l = account_told (word_of w) l
