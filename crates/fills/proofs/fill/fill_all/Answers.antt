-- Each turn is a fill of the next order and its record, and the last leaves none.
use Prim.Native.Nat.{◌≤◌, ◌<◌, min}
use native.Mathlib.Omega.{arith}
use Rattle.table.specs.Rows.{cols}
use Rattle.fills.specs.Records.{buffers}
use Rattle.fills.proofs.Running.{going_first, going_on, going_last}
use Rattle.fills.proofs.fill.fill_all.Goals as goal

pub loop-k-init : goal.loop-k-init
loop-k-init c = going_first c.args.t c.args.m c.args.os.now c.args.oq.now c.args.op.now c.args.b0 _ _

pub loop-k-preserved : goal.loop-k-preserved
loop-k-preserved c =
    let a = c.args in
    let l = c.loop-k in
    let u : l.k < min a.m 64 = omega arith in
    let hf = simp c.order_at-o.ensures at c.fill_one-f.ensures in
    going_on a.t a.m a.os.now a.oq.now a.op.now a.b0 a.columns.now
    (buffers a.words.now a.ints.now a.b0.written) l.b l.columns l.words l.ints l.k l.invariant
    c.fill_one-f.result _ _ _ _ u hf c.keep-b.ensures.0 c.keep-b.ensures.1

pub returns : goal.returns
returns c v =
    let a = c.args in
    let l = c.loop-k in
    let u : min a.m 64 ≤ l.k = omega arith in
    going_last a.t a.m a.os.now a.oq.now a.op.now a.b0 a.columns.now
    (buffers a.words.now a.ints.now a.b0.written) l.b l.columns l.words l.ints l.k l.invariant u v
