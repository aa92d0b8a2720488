-- By the soundness of the account and the length of the places; after 0 every word is written.
use Prim.Native.Nat.{ℕ, ◌*◌}
use mathlib.Core.Path.{◌≡◌, sym, ap, ◌∙◌}
use native.Mathlib.Omega.{arith}
use lib.ListN.{length}
use Rattle.word_bytes.proofs.Words.{octets}
use Rattle.account_bytes.proofs.Writing.{bytes_are}
use Rattle.c_accounts.specs.Entries.{account_told}
use Rattle.c_accounts.proofs.Telling.{tell_unsound, tell_short, tell_made}
use Rattle.c_accounts.proofs.query.tell.Goals as goal
use Rattle.answer.specs.Numbers.{is_done}
use Rattle.table.specs.Keyed.{pick}
use Rattle.word_bytes.specs.Words.{bytes_of}

pub returns-then-is_unsound : goal.returns-then-is_unsound
returns-then-is_unsound c =
    let s = c.args in
    ap (λ (n : ℕ). account_told n s.out.now) c.word.ensures ∙ tell_unsound s.asked s.words.now s.out.now (sym c.is_unsound.ensures ∙ c.if-is_unsound.true)

pub returns-then-out-words : goal.returns-then-out-words
returns-then-out-words c =
    let s = c.args in
    ap (λ (n : ℕ). account_told n s.out.now) c.word-then-out-words.ensures ∙ tell_short s.asked s.words.now s.out.now (sym c.is_unsound.ensures ∙ c.if-is_unsound.false) c.if-out-words.true

pub returns-then-not-is_done : goal.returns-then-not-is_done
returns-then-not-is_done c =
    let s = c.args in
    ap (λ (n : ℕ). account_told n s.out.now) c.word-then-not-is_done.ensures
    ∙ tell_made s.asked s.words.now s.out.now s.out.now (sym c.is_unsound.ensures ∙ c.if-is_unsound.false) c.if-out-words.false (simp (sym c.is_done.ensures ∙ c.if-not-is_done.true))

pub returns : goal.returns
returns c =
    let s = c.args in
    let l = c.put_words.new.out in
    let o = octets l (λ i h. omega (arith, c.type_inv.out i)) in
    let n : length l ≡ 8 * length s.words.now = omega (arith, c.put_words.auto.out, c.if-out-words.false) in
    let k : l ≡ pick (is_done s.asked) (bytes_of s.words.now) s.out.now = bytes_are (length s.words.now) l s.words.now o n c.put_words.ensures ∙ simp (sym c.is_done.ensures ∙ c.if-not-is_done.false) in
    ap (λ (n : ℕ). account_told n l) c.word-2.ensures ∙ tell_made s.asked s.words.now s.out.now l (sym c.is_unsound.ensures ∙ c.if-is_unsound.false) c.if-out-words.false k
