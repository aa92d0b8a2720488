-- What a call over bytes is refused for before it is made; the call itself tells an unsound account.
use Rattle.std.specs.Prelude.{ℕ, ◌≡◌, Bool, true, List}
use Rattle.answer.specs.declared.Answer.{Answer}
use Rattle.answer.specs.declared.Answer.TheVariants.{Done, BadSetting, TooLong, Unsound}
use Rattle.table.specs.Keyed.{pick, both}
use Rattle.table.specs.declared.table.Columns.{Columns}
use Rattle.fills.specs.Records.{good_kind}
use Rattle.call_lists.specs.Checks.{unless}
use Rattle.account.specs.declared.account.Account.{Account}
use Rattle.account.specs.declared.account.Ledger.{Ledger}
use Rattle.account.specs.Inner.Account.{account_with}
use Rattle.account.specs.Inner.Answers.{unless_unsound}
use Rattle.account_bytes.specs.Account.{hold_account}
use Rattle.c_trades.specs.Asked.{account_in}

-- of an account that bytes hold: done where the call is to be made
abbrev pub early_on : Account → ℕ → Bool → Answer
early_on a kind whole =
    pick (both (good_kind kind) whole) Done
    (unless_unsound a (unless (good_kind kind) BadSetting TooLong))

unfoldable pub early : List ℕ → ℕ → Bool → Answer
early b kind whole = unless (hold_account b) Unsound (early_on (account_in b) kind whole)

-- bytes that hold the account of a ledger and five columns
pub record HoldsAccount (b : List ℕ) (h : Ledger) (c : Columns) : Type 0 where
  pub good : hold_account b ≡ true
  pub same : account_with h c ≡ account_in b
