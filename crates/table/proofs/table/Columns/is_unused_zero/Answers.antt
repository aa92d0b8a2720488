-- Each column's test is one of the five.
use mathlib.Core.Path.{◌≡◌, refl}
use mathlib.Core.Bool.{Bool, true, false, ◌&&◌}
use lib.ListN.{drop}
use Rattle.table.specs.Keyed.{both}
use Rattle.table.specs.Rows.{unused}
use Rattle.table.proofs.Ordering.{zeros_told}
use Rattle.table.proofs.table.Columns.is_unused_zero.Goals as goal

joined : (s q a g t : Bool) → ((((s && q) && a) && g) && t) ≡ both s (both q (both a (both g t)))
joined false q a g t = refl
joined true false a g t = refl
joined true true false g t = refl
joined true true true g t = refl

five : {s q a g t s' q' a' g' t' : Bool} → s ≡ s' → q ≡ q' → a ≡ a' → g ≡ g' → t ≡ t' → ((((s && q) && a) && g) && t) ≡ both s' (both q' (both a' (both g' t')))
five {s} {q} {a} {g} {t} {s'} {q'} {a'} {g'} {t'} es eq ea eg et = rw (es, eq, ea, eg, et) (joined s' q' a' g' t')

pub returns : goal.returns
unfolding unused
returns c =
    let l = c.args in
    five
    c.is_zero_from.ensures
    (zeros_told (drop l.n l.self.now.quantity) c.is_zero_from-2.ensures)
    (zeros_told (drop l.n l.self.now.average) c.is_zero_from-3.ensures)
    (zeros_told (drop l.n l.self.now.realized) c.is_zero_from-4.ensures)
    (zeros_told (drop l.n l.self.now.total) c.is_zero_from-5.ensures)
