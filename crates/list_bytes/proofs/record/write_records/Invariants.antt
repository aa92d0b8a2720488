-- After i turns the words of the first i records are put.
use mathlib.Core.Path.{◌≡◌}
use Rattle.list_bytes.specs.Inner.Records.{rows_in, put_all}
use Rattle.list_bytes.proofs.record.write_records.Given as goal

abbrev pub invariant-loop-i : goal.invariant-loop-i
invariant-loop-i l = l.out ≡ put_all l.initial.out 0 (rows_in l.i l.words l.ints)
