-- After i turns the first i places hold what the words say.
use mathlib.Core.Path.{◌≡◌}
use lib.ListN.{length, take}
use Rattle.word_bytes.specs.Words.{words_of}
use Rattle.account_bytes.specs.Account.{column_at}
use Rattle.account_bytes.proofs.run.read_column.Given as goal

abbrev pub invariant-loop-i : goal.invariant-loop-i
invariant-loop-i g l = (length l.column ≡ 64) × (take l.i l.column ≡ take l.i (column_at g.T.Stored.of_word l.from (words_of l.part)))
