-- What is left to write gives, from the bytes as they are, what the whole gives from the bytes as found.
use Prim.Native.Nat.{◌+◌}
use mathlib.Core.Path.{◌≡◌}
use lib.ListN.{drop}
use lib.Seq.{sets}
use Rattle.word_bytes.specs.Words.{words_of}
use Rattle.c_accounts.proofs.query.put_words.Given as goal

abbrev pub invariant-loop-i : goal.invariant-loop-i
invariant-loop-i l = sets (words_of l.out) (0 + l.i) (drop l.i l.words) ≡ sets (words_of l.initial.out) 0 l.words
