-- The holding of a sound account.
use mathlib.Core.Path.{sym}
use borrow.Author.Rules.{rules}
use Rattle.table.specs.Rows.{Full, cols}
use Rattle.account.specs.Inner.Account.{account_with}
use Rattle.account.proofs.SoundAccounts.{account-ordered}
use Rattle.portfolio.specs.Answers.{has_room_of, close_answer}
use Rattle.portfolio.proofs.Refusals.{full}
use Rattle.portfolio.proofs.refusal.check_close.Goals as goal

pub returns-then-is_zero : goal.returns-then-is_zero
unfolding close_answer has_room_of
returns-then-is_zero c =
    let x = c.args in
    let a = account_with x.h x.columns.now in
    let p = c.holding_of-p.ensures (account-ordered a (sym c.if-not-sound_account.ensures) c.whole_columns.ensures) in
    search rules

pub returns : goal.returns
unfolding close_answer has_room_of
returns c =
    let x = c.args in
    let a = account_with x.h x.columns.now in
    let p = c.holding_of-p.ensures (account-ordered a (sym c.if-not-sound_account.ensures) c.whole_columns.ensures) in
    search rules
