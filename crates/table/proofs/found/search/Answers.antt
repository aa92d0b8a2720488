-- The library's search answers, where the keys rise, the key's place, or the place between the smaller and the greater.
use lib.ListN.{take}
use Rattle.std.specs.Prelude.{Ok, Err}
use Rattle.std.proofs.lemmas.List.Sorted.{searched}
use Rattle.table.proofs.Keyed.{rising_weak}
use Rattle.table.proofs.Places.{finds_at, finds_between}
use Rattle.table.proofs.found.search.Goals as goal

pub returns-in-Ok : goal.returns-in-Ok
returns-in-Ok c =
    let l = take c.args.n c.args.keys.now in
    finds_at l c.args.key c.in-Ok.i c.in-Ok.ensures.bound
    (λ r. (searched l c.args.key (Ok c.in-Ok.i) c.in-Ok.ensures.position (rising_weak l r)).1)

pub returns-in-Err : goal.returns-in-Err
returns-in-Err c =
    let l = take c.args.n c.args.keys.now in
    finds_between l c.args.key c.in-Err.i c.in-Err.ensures.bound
    (λ r. let s = searched l c.args.key (Err c.in-Err.i) c.in-Err.ensures.position (rising_weak l r) in (s.1, s.2))
