-- A byte that is zero ends the text; another counts one more; eight are all.
use mathlib.Core.Path.{◌≡◌, ◌∙◌}
use native.Mathlib.Omega.{arith}
use borrow.Author.Rules.{rules}
use Rattle.saving.proofs.Texts as T
use Rattle.saving.proofs.text.text_length.Goals as goal

pub returns-then-top_byte-eq0 : goal.returns-then-top_byte-eq0
returns-then-top_byte-eq0 c = T.count_stop c.loop-n.invariant c.top_byte.result c.top_byte.ensures c.if-top_byte-eq0.true

pub loop-n-preserved : goal.loop-n-preserved
loop-n-preserved c = T.count_next c.loop-n.invariant (search rules) c.top_byte.result c.top_byte.ensures c.if-top_byte-eq0.false

pub returns : goal.returns
returns c =
    let e : 8 ≡ c.loop-n.n = omega arith in
    e ∙ T.count-end c.loop-n.invariant (search rules)
