-- After i turns the columns hold the first i entries, and what was found after them.
use mathlib.Core.Path.{◌≡◌}
use Prim.Native.Nat.{◌+◌, ◌*◌}
use Rattle.word_bytes.specs.Words.{word_at}
use Rattle.fills.specs.Records.{fronted}
use Rattle.list_bytes.specs.Entries.{at_places_of}
use Rattle.list_bytes.specs.Lists.{entry_symbol}
use Rattle.list_bytes.proofs.entry.entries_into.Given as goal

abbrev pub invariant-loop-i : goal.invariant-loop-i
invariant-loop-i g l =
    (l.symbol ≡ fronted (at_places_of l.i (entry_symbol l.bytes)) l.initial.symbol)
    × (l.value ≡ fronted (at_places_of l.i (λ i. g.T.Stored.of_word (word_at l.bytes (2 * i + 1)))) l.initial.value)
