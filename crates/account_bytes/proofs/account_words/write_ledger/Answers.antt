-- Every word is written, so the bytes are those of the words.
use mathlib.Core.Path.{◌≡◌, ap, ◌∙◌}
use Prim.Native.Nat.{◌/◌, ◌^◌, ◌<◌}
use native.Mathlib.Omega.{arith}
use lib.ListN.{length, set}
use lib.Seq.{sets}
use mir.Syntax.{w64}
use mir.Val.{SFits}
use Rattle.table.specs.Rows.{cols}
use Rattle.account.specs.Inner.Account.{account_with}
use Rattle.word_bytes.specs.Words.{words_of}
use Rattle.word_bytes.specs.Numbers.{unsigned_of}
use Rattle.word_bytes.proofs.Words.{octets, length-words, words-put}
use Rattle.account_bytes.specs.Sizes.{settings_from, counters_from, series_from, count_at_of, account_size, account_length}
use Rattle.account_bytes.specs.Account.{account_words_of, written_account}
use Rattle.account_bytes.proofs.Runs.{stored}
use Rattle.account_bytes.proofs.Writing.{counts_put, account-put, bytes_are}
use borrow.Author.Tests.{eq-eqb, ne_eqb}
use borrow.Author.Rules.{rules}
use Rattle.account_bytes.proofs.account_words.write_ledger.Goals as goal

pub returns-then-bytes-ne-ACCOUNT_BYTES : goal.returns-then-bytes-ne-ACCOUNT_BYTES
unfolding written_account
returns-then-bytes-ne-ACCOUNT_BYTES c = simp (ne_eqb _ _ c.if-bytes-ne-ACCOUNT_BYTES.true)

pub returns : goal.returns
unfolding written_account
returns c =
    let g = c.args in
    let a = account_with g.h g.columns.now in
    let l = c.args.bytes.now in
    let n : length l ≡ account_length = c.if-bytes-ne-ACCOUNT_BYTES.false in
    let f : SFits w64 a.cash = search rules in
    let k : g.h.count < 2 ^ 64 = search rules in
    let m : length (words_of l) ≡ account_size = length-words (length l / 8) l ∙ omega arith in
    let e1 : words_of c.put_word.new.bytes ≡ set (words_of l) 0 (unsigned_of a.cash) =
    ap words_of c.put_word.ensures ∙ words-put l 0 c.unsigned.result c.unsigned.type_inv ∙ ap (set (words_of l) 0) (stored f c.unsigned.ensures) in
    let e2 = c.put_words.ensures ∙ ap (sets (words_of c.put_word.new.bytes) settings_from) c.settings_words.ensures in
    let e3 = c.put_words-2.ensures ∙ ap (sets (words_of c.put_words.new.bytes) counters_from) c.counter_words.ensures in
    let e4 = c.put_words-3.ensures ∙ ap (sets (words_of c.put_words-2.new.bytes) series_from) c.series_words.ensures in
    let e5 : words_of c.put_word-2.new.bytes ≡ set (words_of c.put_words-3.new.bytes) count_at_of g.h.count =
    ap words_of c.put_word-2.ensures ∙ words-put c.put_words-3.new.bytes count_at_of g.h.count k in
    let counts = counts_put g.h.counters g.h.series g.h.count (words_of c.put_words.new.bytes) (words_of c.put_words-2.new.bytes) (words_of c.put_words-3.new.bytes)
    (words_of c.put_word-2.new.bytes) e3 e4 e5 in
    let w : words_of c.put_columns.new.bytes ≡ account_words_of a =
    account-put a c.put_columns.ensures.0 (words_of l) (words_of c.put_word.new.bytes) (words_of c.put_words.new.bytes) (words_of c.put_word-2.new.bytes)
    (words_of c.put_columns.new.bytes) m e1 e2 counts c.put_columns.ensures.1 in
    simp (eq-eqb _ _ n) (bytes_are account_size c.put_columns.new.bytes (account_words_of a)
    (octets c.put_columns.new.bytes (search rules))
    (omega (arith, c.put_columns.auto.bytes, c.put_word-2.auto.bytes, c.put_words-3.auto.bytes, c.put_words-2.auto.bytes, c.put_words.auto.bytes, c.put_word.auto.bytes)) w)
