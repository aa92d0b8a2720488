-- A part goes into the low words, and its sums, lowered, into their places; and so do the accounts' totals.
use Rattle.std.proofs.Common.{◌≡◌, ap, ◌∙◌, arith, w64, to_z, of_z}
use mir.ValLaws.{to_z-of_z}
use Rattle.house.specs.Inner.Raised.{lowered}
use Rattle.house.proofs.Columns.{column-first, filled_on}
use Rattle.house.proofs.LowAdding.{low_summing_first, low-words, low_summing_on, low-total, low_summing_last}
use Rattle.house.proofs.low.sum_low.Goals as goal

pub loop-p-init : goal.loop-p-init
loop-p-init c = low_summing_first _ _ _ _ _ c.requires.empty.0 c.requires.empty.1

pub sum_low_part-part-requires-clause-lo_len : goal.sum_low_part-part-requires-clause-lo_len
sum_low_part-part-requires-clause-lo_len c =
    let l = c.loop-p in
    (l.invariant.long, low-words _ _ _ l.lo l.firsts l.gains l.spread l.p l.invariant)

pub loop-p-preserved : goal.loop-p-preserved
loop-p-preserved c =
    let l = c.loop-p in
    let f = c.lower in
    let g = c.lower-in-loop-p in
    let x : to_z w64 (of_z w64 f.result) ≡ lowered c.sum_low_part-part.result.first = to_z-of_z w64 f.result (record { sfits = f.type_inv }) ∙ f.ensures in
    let y : to_z w64 (of_z w64 g.result) ≡ lowered c.sum_low_part-part.result.gain = to_z-of_z w64 g.result (record { sfits = g.type_inv }) ∙ g.ensures in
    low_summing_on _ _ _ l.lo l.firsts l.gains l.spread l.p l.invariant _ _ _ _ c.requires.sizes.1 c.loop-p-test.true c.sum_low_part-part.ensures x y

pub loop-a-init : goal.loop-a-init
loop-a-init c = c.requires.empty.2 ∙ column-first 32 _ _

pub loop-a-preserved : goal.loop-a-preserved
loop-a-preserved c =
    let l = c.loop-p in
    let e : l.p ≡ c.args.m = omega (arith, c.loop-p-test.false, l.auto.p-end) in
    let w = c.lower-in-loop-a in
    filled_on 32 _ _ c.loop-a.a _ _ (omega arith) c.loop-a.invariant
    (to_z-of_z w64 w.result (record { sfits = w.type_inv }) ∙ w.ensures
    ∙ ap lowered (low-total _ _ _ l.lo l.firsts l.gains l.spread l.p l.invariant e c.loop-a.a (omega arith) c.loop-a-test.true))

pub returns : goal.returns
returns c =
    let l = c.loop-p in
    let e : l.p ≡ c.args.m = omega (arith, c.loop-p-test.false, l.auto.p-end) in
    let d : c.loop-a.a ≡ c.args.n = omega (arith, c.loop-a-test.false, c.loop-a.auto.a-end) in
    λ h. low_summing_last _ _ _ l.lo l.firsts l.gains l.spread l.p l.invariant e _ (c.loop-a.invariant ∙ rw d)
