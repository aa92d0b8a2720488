-- A byte that is zero ends the text; another is written, and the rest goes on behind it; eight are all.
use mathlib.Core.Path.{◌≡◌}
use Prim.Native.Nat.{◌+◌}
use native.Mathlib.Omega.{arith}
use borrow.Author.Rules.{rules}
use Rattle.saving.proofs.Texts as T
use Rattle.saving.proofs.text.put_text.Goals as goal

pub returns-then-byte-eq0 : goal.returns-then-byte-eq0
returns-then-byte-eq0 c = T.write_stop c.loop-at.invariant c.top_byte-byte.result c.top_byte-byte.ensures c.if-byte-eq0.true

pub loop-at-preserved : goal.loop-at-preserved
loop-at-preserved c = T.write-next c.loop-at.invariant (search rules) c.top_byte-byte.result c.top_byte-byte.ensures c.if-byte-eq0.false

pub returns : goal.returns
returns c =
    let e : c.args.place + 8 ≡ c.loop-at.at = omega arith in
    rw e (T.write-end c.loop-at.invariant (search rules))
