-- What opening answers and writes.
use Rattle.std.specs.Prelude.{ℕ, Bool, List, eqb, ltb, ℤ, length, set}
use Rattle.answer.specs.declared.Answer.{Answer}
use Rattle.answer.specs.declared.Answer.TheVariants.{Done, BadSetting, BufferFull, Unsound}
use Rattle.answer.specs.Places.{word_of}
use Rattle.table.specs.Keyed.{pick, both}
use Rattle.account.specs.Account.{sound_scalars}
use Rattle.account.specs.Calls.{open_account}
use Rattle.account_bytes.specs.Sizes.{account_length}
use Rattle.account_bytes.specs.Settings.{hold_settings, given_settings}
use Rattle.c_accounts.specs.Entries.{account_bytes_of}

-- ---- the answer's word, and both lent runs after it
pub record OpenTold : Type 0 where
  pub number : ℕ
  pub account : List ℕ
  pub equities : List ℤ

abbrev pub open_told : ℕ → List ℕ → List ℤ → OpenTold
open_told n b es = record { number = n; account = b; equities = es }

abbrev pub answering_open : Answer → List ℕ → List ℤ → OpenTold
answering_open w b es = open_told (word_of w) b es

-- bytes of another length hold no settings, and so do those with a bad mark or flag or a NaN
unfoldable pub sound_opening : ℤ → List ℕ → Bool
sound_opening cash given = both (hold_settings given) (sound_scalars cash (given_settings given))

-- "Account bytes of the wrong length answer 11"; 1: "a setting or opening cash is bad"; 10: "the equity .. buffer has no free place"; else "Opening writes the
-- cash as the first equity". Where 01 has "all zeros from a refused opening", that is of an account that is returned; bytes that are lent are "as found".
unfoldable pub open_in : ℤ → List ℕ → List ℕ → List ℤ → OpenTold
open_in cash given b es =
    pick (eqb (length b) account_length)
    (pick (sound_opening cash given)
    (pick (ltb 0 (length es))
    (answering_open Done (account_bytes_of (open_account cash (given_settings given))) (set es 0 cash))
    (answering_open BufferFull b es))
    (answering_open BadSetting b es))
    (answering_open Unsound b es)
