-- The eight bytes of the word in the place of those that stood there.
use mathlib.Core.Path.{sym, ◌∙◌}
use Rattle.word_bytes.proofs.Words.{digits_le, put_range, put_past}
use Rattle.word_bytes.proofs.word.put_word.Goals as goal

pub returns-then-i-bytes : goal.returns-then-i-bytes
returns-then-i-bytes c =
    put_range c.args.bytes.now c.args.i c.args.w c.if-i-bytes.true (c.copy_from_slice.ensures.after ∙ c.to_le_bytes.ensures ∙ digits_le c.args.w c.ranges.w.fits)

pub returns-else-i-bytes : goal.returns-else-i-bytes
returns-else-i-bytes c = sym (put_past c.args.bytes.now c.args.i c.args.w c.if-i-bytes.false)
