-- Each mark with its own cap.
use borrow.Author.Tests.{eq-eqb, ne_eqb}
use Rattle.account_bytes.specs.Settings.{cap_of}
use Rattle.account_bytes.proofs.setting_words.cap_of.Goals as goal

pub returns-then-mark-eq0 : goal.returns-then-mark-eq0
unfolding cap_of
returns-then-mark-eq0 c = simp (eq-eqb _ _ c.if-mark-eq0.true)

pub returns-else-mark-eq0 : goal.returns-else-mark-eq0
unfolding cap_of
returns-else-mark-eq0 c = simp (ne_eqb _ _ c.if-mark-eq0.false)
