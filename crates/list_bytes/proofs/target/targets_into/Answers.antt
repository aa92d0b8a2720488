-- The entries of a list of these values.
use Rattle.list_bytes.specs.Inner.Lists.{targets_into}
use Rattle.list_bytes.proofs.target.targets_into.Goals as goal

pub returns : goal.returns
unfolding targets_into
returns c = c.entries_into.ensures
