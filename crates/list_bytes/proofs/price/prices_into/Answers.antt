-- The entries of a list of these values.
use Rattle.list_bytes.specs.Inner.Lists.{prices_into}
use Rattle.list_bytes.proofs.price.prices_into.Goals as goal

pub returns : goal.returns
unfolding prices_into
returns c = c.entries_into.ensures
