-- What is left to write gives, from the bytes as they are, what the whole gives from the bytes as found.
use mathlib.Core.Path.{◌≡◌}
use Prim.Native.Nat.{◌+◌}
use lib.ListN.{drop}
use lib.Seq.{sets}
use Rattle.word_bytes.specs.Words.{words_of}
use Rattle.account_bytes.proofs.run.put_words.Given as goal

abbrev pub invariant-loop-i : goal.invariant-loop-i
invariant-loop-i l = sets (words_of l.bytes) (l.from + l.i) (drop l.i l.words) ≡ sets (words_of l.initial.bytes) l.from l.words
