-- Each neighbour is tested, of the keys in use.
use mathlib.Core.Path.{ap, ◌∙◌}
use lib.Dec.{ltb}
use lib.ListN.{take}
use Rattle.std.proofs.Common.{rules, tests}
use Rattle.std.proofs.lemmas.Fn.{always_returns_same}
use Rattle.table.specs.Keyed.{ascending}
use Rattle.table.proofs.Keyed.{ascending_told}
use Rattle.table.proofs.Places.{used_same}
use Rattle.table.proofs.ordered.ascends.Goals as goal

pub returns : goal.returns
returns c =
    ascending_told (take c.used.result c.args.keys.now) _ (c.is_sorted_by.ensures.cases ltb (always_returns_same _ _ _ (λ a r q k. (search (rules, tests), search rules)))) ∙ ap ascending (used_same c.args.n c.args.keys.now c.used.ensures)
