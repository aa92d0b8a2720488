-- Written after 0 where what is given is good, as found otherwise.
use mathlib.Core.Path.{sym, ◌∙◌}
use Rattle.c_accounts.specs.Inner.Setters.{setter_told}
use Rattle.c_accounts.proofs.filed.change.Goals as goal

pub returns-then-not-is_done : goal.returns-then-not-is_done
unfolding setter_told
returns-then-not-is_done g c =
    let p = rw c.account_in.ensures at c.call-c.ensures in
    (c.call-c.result, p, simp (sym c.is_done.ensures ∙ c.if-not-is_done.true, c.word.ensures))

pub returns-then-not-given : goal.returns-then-not-given
unfolding setter_told
returns-then-not-given g c =
    let p = rw c.account_in.ensures at c.call-c.ensures in
    (c.call-c.result, p, simp (sym c.is_done.ensures ∙ c.if-not-is_done.false, c.if-not-given.true, c.word-then-not-given.ensures))

pub returns : goal.returns
unfolding setter_told
returns g c =
    let p = rw c.account_in.ensures at c.call-c.ensures in
    (c.call-c.result, p, simp (sym c.is_done.ensures ∙ c.if-not-is_done.false, c.if-not-given.false, c.word-2.ensures, c.write_account.ensures))
