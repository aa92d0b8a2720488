-- A part goes into the accounts' totals, and its sums into their places; the first part that is out of range ends the loop.
use Rattle.std.proofs.Common.{◌≡◌, arith, w64, rules}
use mir.ValLaws.{to_z-of_z}
use Rattle.house.specs.Places.{group_in}
use Rattle.house.proofs.Summing.{summing_first, summing_room, part_out, summing_on, summed_by}
use Rattle.house.proofs.part.sum_exactly.Goals as goal

pub loop-p-init : goal.loop-p-init
loop-p-init c = summing_first _ _ _ _ c.start-totals.ensures

pub sum_part-requires-clause-sums_with_room : goal.sum_part-requires-clause-sums_with_room
sum_part-requires-clause-sums_with_room c =
    let l = c.loop-p in
    summing_room _ _ _ l.totals l.firsts l.gains l.p l.invariant c.requires.1 l.auto.p-end

pub returns-in_err-part : goal.returns-in_err-part
returns-in_err-part c =
    rw c.from_residual.ensures
    (part_out c.args.n c.args.m (group_in c.args.n c.args.marks.now c.args.equities.now) c.loop-p.p c.loop-p-test.true c.in_err-part.ensures)

pub loop-p-preserved : goal.loop-p-preserved
loop-p-preserved c =
    let l = c.loop-p in
    summing_on _ _ _ l.totals l.firsts l.gains l.p l.invariant _ _ _ _ c.requires.1 c.loop-p-test.true c.in_ok-part.ensures (to_z-of_z w64 _ (search rules)) (to_z-of_z w64 _ (search rules))

pub returns : goal.returns
returns c =
    let l = c.loop-p in
    let e : l.p ≡ c.args.m = omega (arith, c.loop-p-test.false, l.auto.p-end) in
    summed_by _ _ _ l.totals l.firsts l.gains l.p l.invariant e c.requires.0 _ _ c.sum_accounts.ensures
