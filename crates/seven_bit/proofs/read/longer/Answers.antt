-- Each group is a case of what is left of the number: it ends early, is refused, is the last one, or goes on; no sum or product wraps.
use borrow.Author.Rules.{rules}
use mathlib.Core.Path.{◌≡◌, refl, ◌∙◌, ap}
use Prim.Native.Nat.{◌+◌, ◌-◌}
use native.Mathlib.Omega.{arith}
use lib.ListN.{get_or}
use Rattle.seven_bit.specs.Placed.{number_or_fault}
use Rattle.seven_bit.proofs.Reading as R
use Rattle.seven_bit.proofs.read.longer.Goals as goal

pub loop-at-init : goal.loop-at-init
loop-at-init c =
    let left : c.args.place + 9 - (c.args.place + 1) ≡ 8 = omega arith in
    rw left (R.begin _ _ _ (search rules) (search rules) (search rules))

pub returns-then-bytes-at : goal.returns-then-bytes-at
returns-then-bytes-at c = rw c.ends_early.ensures (ap number_or_fault (R.ended-number c.loop-at.invariant c.if-bytes-at.true))

pub returns-then-group-eq0 : goal.returns-then-group-eq0
returns-then-group-eq0 c = rw c.bad_number.ensures (ap number_or_fault (R.nought_number c.loop-at.invariant _ refl (search rules) c.if-group-eq0.true))

pub overflow_mul-result : goal.overflow_mul-result
overflow_mul-result c =
    omega (arith, R.fits_here c.loop-at.invariant (omega arith), R.group_fits c.loop-at.invariant (get_or c.args.bytes.now c.loop-at.at 0) 128 (omega arith))

pub overflow_add-result : goal.overflow_add-result
overflow_add-result c =
    omega (arith, R.fits_here c.loop-at.invariant (omega arith), R.group_fits c.loop-at.invariant (get_or c.args.bytes.now c.loop-at.at 0) 127 (omega arith), c.loop-at.invariant.small)

pub returns-then-group-lt128 : goal.returns-then-group-lt128
returns-then-group-lt128 c = ap number_or_fault (R.last-number c.loop-at.invariant _ refl (search rules) (omega arith) c.if-group-lt128.true c.if-group-eq0.false)

pub overflow_mul-sum : goal.overflow_mul-sum
overflow_mul-sum c =
    omega (arith, R.fits_here c.loop-at.invariant (omega arith), R.group_fits c.loop-at.invariant (get_or c.args.bytes.now c.loop-at.at 0 - 128) 127 (omega arith))

pub overflow_add-sum : goal.overflow_add-sum
overflow_add-sum c =
    omega (arith, R.fits_here c.loop-at.invariant (omega arith), R.group_fits c.loop-at.invariant (get_or c.args.bytes.now c.loop-at.at 0 - 128) 127 (omega arith), c.loop-at.invariant.small)

pub overflow_mul-scale : goal.overflow_mul-scale
overflow_mul-scale c = omega (arith, R.fits_here c.loop-at.invariant (omega arith))

pub loop-at-preserved : goal.loop-at-preserved
loop-at-preserved c = R.more c.loop-at.invariant _ _ (omega arith) refl (search rules) c.if-group-lt128.false (search rules)

pub tenth-requires : goal.tenth-requires
tenth-requires c = (omega arith, omega (arith, c.loop-at.invariant.small, R.top_here c.loop-at.invariant (omega arith)))

pub returns : goal.returns
returns c = c.tenth.ensures ∙ ap number_or_fault (R.nine_read c.loop-at.invariant (omega arith) _ (omega arith))
