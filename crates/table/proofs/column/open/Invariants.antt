-- The loop keeps `Opening`: what is carried, put at `j` with the rest moved up, gives the column asked for.
use Rattle.table.specs.Inner.Rows.{opened_at}
use Rattle.table.proofs.Opening.{Opening}
use Rattle.table.proofs.column.open.Given as goal

abbrev pub invariant-loop-j : goal.invariant-loop-j
invariant-loop-j g l = Opening 64 l.n (opened_at l.i l.n l.fn.v l.initial.column) l.j l.carry l.column
