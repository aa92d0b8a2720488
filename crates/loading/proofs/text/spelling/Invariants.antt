-- After i turns the number is that of the first i letters.
use Rattle.loading.proofs.Texts as X
use Rattle.loading.proofs.text.spelling.Given as goal

abbrev pub invariant-loop-i : goal.invariant-loop-i
invariant-loop-i l = X.Spelling l.text l.sum l.i
