-- By whether there is a record.
use mathlib.Core.Path.{◌∙◌, ap}
use Rattle.fills.specs.Records.{Buffers}
use Rattle.c_fill.proofs.Alone.{none_fronts, one_fronts}
use Rattle.c_fill.proofs.keep.Goals as goal

pub returns-in-Some : goal.returns-in-Some
returns-in-Some c =
    let e = one_fronts c.args.f c.args.words.now c.args.ints.now c.in-Some.r c.in-Some.is c.requires.0 c.requires.1 in
    (ap (λ (x : Buffers). x.words) (c.store.ensures ∙ e), ap (λ (x : Buffers). x.ints) (c.store.ensures ∙ e))

pub returns-in_default : goal.returns-in_default
returns-in_default c = none_fronts c.args.f _ _ c.in_default.is
