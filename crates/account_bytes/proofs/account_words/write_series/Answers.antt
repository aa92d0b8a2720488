-- Three words are others, and bytes are those of their words.
use borrow.Author.Rules.{rules}
use mathlib.Core.Path.{sym, ap, ◌∙◌}
use native.Mathlib.Omega.{arith}
use lib.Seq.{sets}
use Rattle.word_bytes.specs.Words.{words_of}
use Rattle.word_bytes.proofs.Words.{octets}
use Rattle.account_bytes.specs.Sizes.{series_from}
use Rattle.account_bytes.specs.Account.{written_series}
use Rattle.account_bytes.proofs.AccountKept.{series-written}
use Rattle.account_bytes.proofs.account_words.write_series.Goals as goal

pub returns-then-not-is_account : goal.returns-then-not-is_account
unfolding written_series
returns-then-not-is_account c = simp (sym c.is_account.ensures ∙ c.if-not-is_account.true)

pub returns : goal.returns
returns c =
    let t = c.args.s in
    let l = c.args.bytes.now in
    let m = c.put_words.new.bytes in
    let w = c.put_words.ensures ∙ ap (sets (words_of l) series_from) c.series_words.ensures in
    series-written t l m (octets l (search rules)) (octets m (search rules))
    (sym c.is_account.ensures ∙ c.if-not-is_account.false) (omega (arith, c.put_words.auto.bytes)) w
