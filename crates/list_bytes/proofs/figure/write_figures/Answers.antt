-- Four words in a row.
use mir.Facts.{to_z-of_z}
use Rattle.word_bytes.specs.Numbers.{unsigned_of}
use Rattle.list_bytes.proofs.Puts.{four_written}
use Rattle.list_bytes.proofs.figure.write_figures.Goals as goal

pub returns : goal.returns
returns c =
    let a = c.args in
    four_written a.out.now (unsigned_of a.cash) (unsigned_of a.equity) a.positions (unsigned_of a.profit)
    (simp (c.unsigned.ensures, to_z-of_z c.ranges.cash) at c.put_word.ensures)
    (simp (c.unsigned-2.ensures, to_z-of_z c.ranges.equity) at c.put_word-2.ensures)
    c.put_word-3.ensures
    (simp (c.unsigned-3.ensures, to_z-of_z c.ranges.profit) at c.put_word-4.ensures)
