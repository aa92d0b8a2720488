-- An even word is a number's double, and an odd one that of a complement.
use Rattle.seven_bit.proofs.Signed as S
use borrow.Author.Rules.{rules}
use Rattle.seven_bit.proofs.folding.unfolded.Goals as goal

pub returns-then-w-eq0 : goal.returns-then-w-eq0
returns-then-w-eq0 c = S.even_code c.args.w (search rules) c.if-w-eq0.true

pub returns-else-w-eq0 : goal.returns-else-w-eq0
returns-else-w-eq0 c = S.odd_code c.args.w (search rules) c.if-w-eq0.false
