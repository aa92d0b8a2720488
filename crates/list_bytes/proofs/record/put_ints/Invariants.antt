-- After j turns the first j numbers are put.
use Prim.Native.Nat.{◌+◌, ◌*◌}
use mathlib.Core.Path.{◌≡◌}
use Rattle.list_bytes.specs.Entries.{at_places_of}
use Rattle.list_bytes.specs.Inner.Records.{int_at, put_all}
use Rattle.list_bytes.proofs.record.put_ints.Given as goal

abbrev pub invariant-loop-j : goal.invariant-loop-j
invariant-loop-j l = l.out ≡ put_all l.initial.out (12 * l.i + 4) (at_places_of l.j (int_at l.ints l.i))
