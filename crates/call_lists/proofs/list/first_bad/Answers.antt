-- The library's search for the first that passes a test, here that of a bad symbol.
use mathlib.Core.Path.{refl, ap, ◌∙◌}
use mathlib.Core.Bool.{not}
use Rattle.std.proofs.Common.{rules, tests}
use Rattle.std.proofs.lemmas.Iterator.{YieldsList-from_slice}
use Rattle.std.proofs.lemmas.Iterator.Search.{position_from_yields_List}
use Rattle.position.specs.Symbols.{good_symbol}
use Rattle.call_lists.specs.Lists.{place_in}
use Rattle.call_lists.proofs.Lists.{first_failing_told}
use Rattle.call_lists.proofs.list.first_bad.Goals as goal

pub returns : goal.returns
returns c =
    let l = c.args.symbols.now in
    position_from_yields_List (λ s. not (good_symbol s)) _ _ c.position.result c.position.ensures.ran (YieldsList-from_slice l c.iter.ensures.rest) (λ x b q k. search (rules, tests))
    ∙ ap (place_in l) (first_failing_told good_symbol (λ s. not (good_symbol s)) 0 l (λ i h. refl))
