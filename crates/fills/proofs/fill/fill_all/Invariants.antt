-- Turn by turn: an order is filled and its record kept.
use Rattle.table.specs.Rows.{cols}
use Rattle.fills.specs.Records.{buffers}
use Rattle.fills.proofs.Running.{Going}
use Rattle.fills.proofs.fill.fill_all.Given as goal

abbrev pub invariant-loop-k : goal.invariant-loop-k
invariant-loop-k l =
    Going l.t l.m l.os l.oq l.op l.initial.b l.initial.columns
    (buffers l.initial.words l.initial.ints l.initial.b.written)
    l.b l.columns (buffers l.words l.ints l.b.written) l.k
