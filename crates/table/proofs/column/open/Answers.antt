-- The loop's laws, whatever the column holds.
use mathlib.Core.Path.{sym}
use Rattle.table.specs.Inner.Rows.{opened_at}
use Rattle.table.proofs.Opening.{opening-first, opening_on, opening-last, opened_past, opened-full}
use Rattle.table.proofs.column.open.Goals as goal
use Rattle.table.proofs.column.open.Goals.{else-n-lt64-via-then-n-lt64+else-i-n, else-n-lt64-via-else-n-lt64}

pub loop-j-init : goal.loop-j-init
loop-j-init g c = opening-first _ _ _ _ c.if-n-lt64.true c.if-i-n.true

pub loop-j-preserved : goal.loop-j-preserved
loop-j-preserved g c =
    let l = c.loop-j in
    opening_on 64 c.args.n (opened_at c.args.i c.args.n c.args.v c.args.column.now) l.j l.carry c.index-column-j.result l.column l.invariant c.loop-j-test.true

pub returns-after-loop-j : goal.returns-after-loop-j
returns-after-loop-j g c =
    let l = c.loop-j in
    opening-last 64 c.args.n (opened_at c.args.i c.args.n c.args.v c.args.column.now) l.j l.carry l.column l.invariant c.loop-j-test.false

pub returns-else-n-lt64 : goal.returns-else-n-lt64
returns-else-n-lt64 g c =
    elim c.else-n-lt64.branch [
      | else-n-lt64-via-then-n-lt64+else-i-n w ↦ sym (opened_past _ _ _ _ w.if-i-n.false)
      | else-n-lt64-via-else-n-lt64 w ↦ sym (opened-full _ _ _ _ w.if-n-lt64.false)
    ]
