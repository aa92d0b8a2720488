-- The library's word for it, of a word of 64 bits.
use mathlib.Core.Path.{◌∙◌}
use Rattle.word_bytes.proofs.Words.{turned_swap}
use Rattle.word_bytes.proofs.symbol.turned.Goals as goal

pub returns : goal.returns
returns c = c.swap_bytes.ensures ∙ turned_swap c.args.w c.ranges.w.fits
