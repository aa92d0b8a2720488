-- What is left to write gives, from the bytes as they are, what the whole gives from the bytes as found.
use borrow.Author.Rules.{rules}
use native.Mathlib.Omega.{arith}
use mathlib.Core.Path.{refl, ◌∙◌}
use Prim.Native.Nat.{◌+◌}
use lib.ListN.{get_or}
use Rattle.account_bytes.proofs.Runs.{write_on, write_starts, write-ends}
use Rattle.account_bytes.proofs.run.put_words.Goals as goal

pub loop-i-init : goal.loop-i-init
loop-i-init c = write_starts c.args.bytes.now c.args.words.now c.args.from

pub loop-i-preserved : goal.loop-i-preserved
loop-i-preserved c =
    let s = c.args in
    write_on c.loop-i.bytes c.put_word.new.bytes s.words.now s.from c.loop-i.i (get_or s.words.now c.loop-i.i 0) (omega arith) c.put_word.ensures refl (search rules) ∙ c.loop-i.invariant

pub returns : goal.returns
returns c = write-ends c.loop-i.bytes c.args.words.now _ (c.args.from + c.loop-i.i) c.loop-i.i c.loop-i-test.false c.loop-i.invariant
