-- The last letter is zero, or it is not.
use Rattle.loading.proofs.Texts as X
use Rattle.loading.proofs.text.spelt_in.Goals as goal

pub returns-then-text-eq0 : goal.returns-then-text-eq0
returns-then-text-eq0 c = X.spells_none _ c.if-text-eq0.true

pub returns-else-text-eq0 : goal.returns-else-text-eq0
returns-else-text-eq0 c = X.spells _ c.if-text-eq0.false _ c.spelling.ensures
