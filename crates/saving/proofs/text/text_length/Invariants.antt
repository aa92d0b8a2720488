-- The loop's invariant: the bytes passed, and those of the text left, are the text's.
use Rattle.saving.proofs.Texts as T
use Rattle.saving.proofs.text.text_length.Given as goal

abbrev pub invariant-loop-n : goal.invariant-loop-n
invariant-loop-n l = T.Counting l.s l.rest l.n
