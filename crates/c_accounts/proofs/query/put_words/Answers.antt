-- What is left to write gives, from the bytes as they are, what the whole gives from the bytes as found.
use Prim.Native.Nat.{ℕ, ◌+◌, ◌/◌}
use mathlib.Core.Path.{◌≡◌, refl, ◌∙◌, ap}
use native.Mathlib.Omega.{arith}
use lib.ListN.{length, get_or}
use Rattle.table.proofs.Stores.{sets_all}
use Rattle.word_bytes.specs.Words.{words_of, put_word}
use Rattle.word_bytes.proofs.Words.{length-words}
use Rattle.account_bytes.proofs.Runs.{write_on, write-ends}
use Rattle.c_accounts.proofs.query.put_words.Goals as goal

pub loop-i-preserved : goal.loop-i-preserved
loop-i-preserved c =
    let s = c.args in
    let w = get_or s.words.now c.loop-i.i 0 in
    let z : c.loop-i.i ≡ 0 + c.loop-i.i = omega arith in
    write_on c.loop-i.out c.put_word.new.bytes s.words.now 0 c.loop-i.i w (omega arith)
    (c.put_word.ensures ∙ ap (λ (k : ℕ). put_word c.loop-i.out k w) z) refl (omega (arith, c.type_inv.words c.loop-i.i)) ∙ c.loop-i.invariant

pub returns : goal.returns
returns c =
    let s = c.args in
    let o = s.out.now in
    write-ends c.loop-i.out s.words.now _ _ c.loop-i.i (omega arith) c.loop-i.invariant ∙ sets_all (words_of o) s.words.now (length-words (length o / 8) o ∙ omega arith)
