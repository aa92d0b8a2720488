-- The next record goes to the next place.
use Prim.Native.Nat.{◌<◌, min}
use mathlib.Core.Path.{◌≡◌, refl, ap, ◌∙◌}
use native.Mathlib.Omega.{arith}
use lib.ListN.{length, set}
use Rattle.fills.specs.Records.{fronted}
use Rattle.records.specs.Run.{records_at}
use Rattle.records.proofs.Fronting.{run-next}
use Rattle.records.proofs.run.collect.Goals as goal

pub loop-i-init : goal.loop-i-init
unfolding records_at
loop-i-init c = refl

pub loop-i-preserved : goal.loop-i-preserved
loop-i-preserved c =
    let x = c.args in
    let i = c.loop-i.i in
    let below : i < length x.out.now = omega arith in
    c.store_record.ensures
    ∙ ap (λ l. set l i c.record_at.result) c.loop-i.invariant
    ∙ ap (set (fronted (records_at x.words.now x.ints.now i) x.out.now) i) c.record_at.ensures
    ∙ run-next x.words.now x.ints.now i x.out.now below

pub returns : goal.returns
returns c =
    let x = c.args in
    let all : c.loop-i.i ≡ min x.count (length x.out.now) = omega arith in
    c.loop-i.invariant ∙ ap (λ n. fronted (records_at x.words.now x.ints.now n) x.out.now) all
