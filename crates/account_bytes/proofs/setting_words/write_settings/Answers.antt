-- Every word is written, so the bytes are those of the words.
use borrow.Author.Rules.{rules}
use mathlib.Core.Path.{◌≡◌, ap, ◌∙◌}
use Prim.Native.Nat.{◌/◌}
use native.Mathlib.Omega.{arith}
use lib.ListN.{length}
use lib.Seq.{sets}
use Rattle.word_bytes.specs.Words.{words_of}
use Rattle.word_bytes.proofs.Words.{octets, length-words}
use Rattle.account_bytes.specs.Sizes.{settings_size, settings_length}
use Rattle.account_bytes.specs.Settings.{settings_words, written_settings}
use Rattle.table.proofs.Stores.{sets_all}
use Rattle.account_bytes.proofs.Writing.{bytes_are, length-settings}
use borrow.Author.Tests.{eq-eqb, ne_eqb}
use Rattle.account_bytes.proofs.setting_words.write_settings.Goals as goal

pub returns-then-bytes-ne-SETTINGS_BYTES : goal.returns-then-bytes-ne-SETTINGS_BYTES
unfolding written_settings
returns-then-bytes-ne-SETTINGS_BYTES c = simp (ne_eqb _ _ c.if-bytes-ne-SETTINGS_BYTES.true)

pub returns : goal.returns
unfolding written_settings
returns c =
    let s = c.args in
    let l = s.bytes.now in
    let n : length l ≡ settings_length = c.if-bytes-ne-SETTINGS_BYTES.false in
    let r : c.settings_words.result ≡ settings_words s.s = c.settings_words.ensures in
    let m : length (words_of l) ≡ length (settings_words s.s) = length-words (length l / 8) l ∙ omega (arith, length-settings s.s) in
    let w : words_of c.put_words.new.bytes ≡ settings_words s.s = c.put_words.ensures ∙ ap (sets (words_of l) 0) r ∙ sets_all (words_of l) (settings_words s.s) m in
    simp (eq-eqb _ _ n) (bytes_are settings_size c.put_words.new.bytes (settings_words s.s)
    (octets c.put_words.new.bytes (search rules)) (omega (arith, c.put_words.auto.bytes)) w)
