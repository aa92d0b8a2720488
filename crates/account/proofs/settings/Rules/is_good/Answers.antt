-- The one test is the definition's.
use Rattle.account.specs.Settings.{good_rules}
use Rattle.account.proofs.settings.Rules.is_good.Goals as goal

pub returns : goal.returns
unfolding good_rules
returns c = c.is_good.ensures
