-- Each mark with its own test.
use borrow.Author.Tests.{eq-eqb, ne_eqb}
use Rattle.account_bytes.specs.Settings.{is_cap}
use Rattle.account_bytes.proofs.setting_words.is_cap.Goals as goal

pub returns-then-mark-eq0 : goal.returns-then-mark-eq0
unfolding is_cap
returns-then-mark-eq0 c = simp (eq-eqb _ _ c.if-mark-eq0.true)

pub returns-else-mark-eq0 : goal.returns-else-mark-eq0
unfolding is_cap
returns-else-mark-eq0 c = simp (ne_eqb _ _ c.if-mark-eq0.false)
