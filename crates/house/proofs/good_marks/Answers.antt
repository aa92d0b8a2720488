-- One more mark is one more test.
use Rattle.std.proofs.Common.{◌≡◌, length, refl, ◌∙◌, arith}
use Rattle.house.specs.Group.{every}
use Rattle.house.proofs.Columns.{every_on}
use Rattle.house.proofs.good_marks.Goals as goal

pub loop-mark-init : goal.loop-mark-init
unfolding every
loop-mark-init c = refl

pub loop-mark-preserved : goal.loop-mark-preserved
loop-mark-preserved c =
    let l = c.loop-mark in
    every_on _ l.mark-index _ _ l.invariant refl

pub returns : goal.returns
returns c =
    let l = c.loop-mark in
    let e : l.mark-index ≡ length c.args.marks.now = omega (arith, c.loop-mark-test.false) in
    l.invariant ∙ rw e
