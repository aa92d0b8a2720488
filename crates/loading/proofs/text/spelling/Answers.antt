-- A letter more keeps the sum below 256 to the power of their number, so it fits until the eighth.
use native.Mathlib.Omega.{arith}
use borrow.Author.Rules.{rules}
use Rattle.loading.proofs.Texts as X
use Rattle.loading.proofs.text.spelling.Goals as goal

pub loop-i-init : goal.loop-i-init
loop-i-init c = X.begin _

pub overflow_mul-sum : goal.overflow_mul-sum
overflow_mul-sum c = omega (arith, X.room c.loop-i.invariant (search rules))

pub overflow_add-sum : goal.overflow_add-sum
overflow_add-sum c = omega (arith, X.room c.loop-i.invariant (search rules), c.letter.ensures.1)

pub loop-i-preserved : goal.loop-i-preserved
loop-i-preserved c = X.next c.loop-i.invariant c.letter.result c.letter.ensures.0 c.letter.ensures.1 (search rules)
