-- The account where the bytes hold one, else zeros.
use mathlib.Core.Path.{sym, ◌∙◌}
use Rattle.account_bytes.specs.Account.{account_in}
use Rattle.account_bytes.proofs.AccountKept.{good-long}
use Rattle.account_bytes.proofs.account_words.account_in.Goals as goal

pub account_of-requires : goal.account_of-requires
account_of-requires c = good-long _ (sym c.is_account.ensures ∙ c.if-is_account.true)

pub returns-then-is_account : goal.returns-then-is_account
unfolding account_in
returns-then-is_account c = simp (sym c.is_account.ensures ∙ c.if-is_account.true, c.account_of.ensures)

pub returns-else-is_account : goal.returns-else-is_account
unfolding account_in
returns-else-is_account c = simp (sym c.is_account.ensures ∙ c.if-is_account.false, c.zero.ensures)
