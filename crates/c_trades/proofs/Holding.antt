-- Bytes that hold the account of a ledger and five columns: what was read of them, and what a return leaves in them.
use Prim.Native.Nat.{ℕ}
use mathlib.Core.Path.{◌≡◌, sym, ap, ◌∙◌}
use mathlib.Core.Bool.{true}
use mathlib.Core.List.{List}
use lib.IntN.{ℤ}
use lib.Ieee.{Float}
use Rattle.answer.specs.Places.{word_of}
use Rattle.table.specs.Keyed.{pick}
use Rattle.table.specs.declared.table.Columns.{Columns}
use Rattle.word_bytes.specs.Words.{words_of}
use Rattle.account.specs.declared.account.Account.{Account}
use Rattle.account.specs.declared.account.Ledger.{Ledger}
use Rattle.account.specs.Account.{with_series}
use Rattle.account.specs.Inner.Account.{account_with, ledger_of}
use Rattle.account_bytes.specs.Account.{account_of, hold_account, read_columns, written_account, written_series}
use Rattle.account_bytes.proofs.Parts.{account_is, parts_read}
use Rattle.portfolio.specs.declared.returns.Noted as portfolio
use Rattle.portfolio.specs.Answers.{is_done}
use Rattle.portfolio.specs.Inner.Returns.{noted_by}
use Rattle.c_trades.specs.Inner.Asked.{HoldsAccount}
use Rattle.c_trades.specs.Returns.{tell_return, return_told}

pub read-holds : (b : List ℕ) {h : Ledger} {d : Columns} (e : Columns) → hold_account b ≡ true → h ≡ ledger_of (account_of (words_of b)) → d ≡ read_columns b e → HoldsAccount b h d
read-holds b {h} {d} e g p q = record { good = g; same = parts_read b h d e g p q }

-- the series alone is written, and the bytes are those of the account with it
pub series-kept : (b : List ℕ) (h : Ledger) (c : Columns) → HoldsAccount b h c → (r : portfolio.Noted) (es : List ℤ) (rs : List Float)
    → tell_return (word_of r.answer) (pick (is_done r.answer) (written_series r.series b) b) es rs ≡ return_told (noted_by r (account_with h c) es rs) b
unfolding return_told written_series
series-kept b h c k r es rs =
    let e : account_of (words_of b) ≡ account_with h c = sym (account_is b k.good) ∙ sym k.same in
    simp k.good (ap (λ (a : Account). tell_return (word_of r.answer) (pick (is_done r.answer) (written_account (with_series r.series a) b) b) es rs) e)
