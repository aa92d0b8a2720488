-- An account that is read as a ledger and five columns is the account that the bytes hold.
use mathlib.Core.Path.{◌≡◌, sym, ap, ◌∙◌}
use mathlib.Core.Bool.{true}
use mathlib.Core.List.{List}
use Prim.Native.Nat.{ℕ}
use lib.ListN.{length}
use borrow.Author.Tests.{eq-eqb}
use Rattle.table.specs.Rows.{columns_of}
use Rattle.table.specs.declared.table.Columns.{Columns}
use Rattle.account.specs.declared.account.Ledger.{Ledger}
use Rattle.account.specs.Inner.Account.{account_with, ledger_of}
use Rattle.word_bytes.specs.Words.{words_of}
use Rattle.account_bytes.specs.Sizes.{account_length}
use Rattle.account_bytes.specs.Account.{account_of, hold_account, account_in, read_columns}
use Rattle.account_bytes.proofs.AccountKept.{good-long}

pub columns_are : (l : List ℕ) (d e : Columns) → length l ≡ account_length → d ≡ read_columns l e → d ≡ columns_of (account_of (words_of l)).positions
unfolding read_columns
columns_are l d e n h = simp (eq-eqb (length l) account_length n) at h

pub parts_are : (l : List ℕ) (h : Ledger) (d e : Columns) → length l ≡ account_length → h ≡ ledger_of (account_of (words_of l)) → d ≡ read_columns l e → account_with h d ≡ account_of (words_of l)
parts_are l h d e n p q =
    ap (λ (x : Ledger). account_with x d) p
    ∙ ap (λ (x : Columns). account_with (ledger_of (account_of (words_of l))) x) (columns_are l d e n q)

pub account_is : (l : List ℕ) → hold_account l ≡ true → account_in l ≡ account_of (words_of l)
unfolding account_in
account_is l g = simp g

-- what a caller that found an account there has read
pub parts_read : (l : List ℕ) (h : Ledger) (d e : Columns) → hold_account l ≡ true → h ≡ ledger_of (account_of (words_of l)) → d ≡ read_columns l e → account_with h d ≡ account_in l
parts_read l h d e g p q = parts_are l h d e (good-long l g) p q ∙ sym (account_is l g)
