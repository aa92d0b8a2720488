-- After i turns the first i weights are put.
use mathlib.Core.Path.{◌≡◌}
use lib.ListN.{take}
use Rattle.list_bytes.specs.Inner.Records.{put_all}
use Rattle.list_bytes.specs.Weights.{pair_words}
use Rattle.list_bytes.proofs.weight.write_weights.Given as goal

abbrev pub invariant-loop-i : goal.invariant-loop-i
invariant-loop-i l = l.out ≡ put_all l.initial.out 0 (pair_words (take l.i l.symbol) (take l.i l.weight))
