-- The weight of one place more.
use Prim.Native.Nat.{◌+◌, ◌≤◌, ◌<◌}
use mathlib.Core.Path.{◌≡◌, ap, ◌∙◌}
use native.Mathlib.Omega.{arith}
use lib.IntN.{pos}
use lib.ListN.{length, take, get_or}
use lib.Seq.{take_all}
use mir.Syntax.{w64}
use mir.Val.{SFits}
use mir.Facts.{to_z-of_z}
use borrow.Author.Rules.{rules}
use Rattle.table.specs.Rows.{cols, rows}
use Rattle.account.proofs.Holdings.{place_holds}
use Rattle.account.proofs.Columns.{rows-length}
use Rattle.queries.specs.declared.answered.Weighed.{Weighed}
use Rattle.queries.specs.Queries.{open_ones, weigh}
use Rattle.queries.specs.Answers.{weighed}
use Rattle.queries.proofs.Columns.{added_on, added-most}
use Rattle.queries.proofs.weight.weigh.Goals as goal

pub loop-i-init : goal.loop-i-init
unfolding open_ones weigh weighed
loop-i-init c = (rw (ap (λ (d : Weighed). d.count) c.no_weights-weights.ensures) (omega arith), λ listed e. c.no_weights-weights.ensures)

pub add-requires : goal.add-requires
add-requires c = omega (arith, c.loop-i.invariant.0, c.requires.small)

pub loop-i-preserved : goal.loop-i-preserved
loop-i-preserved c =
    let x = c.args in
    let l = c.loop-i in
    let t = x.columns.now in
    let ps = rows x.n t in
    let k : l.i < length ps = omega (arith, rows-length t c.requires.full x.n c.requires.small) in
    let m : l.i < 64 = omega (arith, c.requires.small) in
    let p = c.held-p.ensures ∙ place_holds x.n l.i t c.requires (omega arith) in
    let f : SFits w64 (get_or x.price.now l.i (pos 0)) = search rules in
    let e = simp (to_z-of_z f, c.i64_to_f64-whole.ensures) at c.add.ensures in
    let few : c.add.new.self.count ≤ l.weights.count + 1 = rw (ap (λ (d : Weighed). d.count) e) (added-most c.held-p.result (get_or x.price.now l.i (pos 0)) _ l.weights) in (
      omega (arith, few, l.invariant.0),
      λ listed g. e ∙ added_on listed _ ps x.price.now l.i k m c.held-p.result p g l.weights (l.invariant.1 listed g),
    )

pub returns : goal.returns
returns c =
    let x = c.args in
    let l = c.loop-i in
    let t = x.columns.now in
    let ps = rows x.n t in
    let e : take l.i ps ≡ ps = take_all l.i ps (omega (arith, rows-length t c.requires.full x.n c.requires.small)) in
    record { settled = λ listed g. simp (e, to_z-of_z c.ranges.equity) at (l.invariant.1 listed g) }
