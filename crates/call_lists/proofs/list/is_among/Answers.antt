-- The library's search for an element is the definition's.
use mathlib.Core.Path.{◌∙◌}
use Rattle.call_lists.proofs.Lists.{any_among}
use Rattle.call_lists.proofs.list.is_among.Goals as goal

pub returns : goal.returns
returns c = c.contains.ensures.value ∙ any_among c.args.symbol c.args.symbols.now
