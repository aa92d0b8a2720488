-- Four puts in a row.
use Rattle.list_bytes.proofs.Puts.{four_puts}
use Rattle.word_bytes.specs.Words.{turned}
use lib.ListN.{get_or}
use Prim.Native.Nat.{◌+◌, ◌*◌}
use Rattle.list_bytes.proofs.record.put_words.Goals as goal

pub returns : goal.returns
returns c =
    let a = c.args in
    let ws = a.words.now in
    cc (four_puts a.out.now (12 * a.i) (get_or ws (4 * a.i) 0) (get_or ws (4 * a.i + 1) 0) (get_or ws (4 * a.i + 2) 0) (turned (get_or ws (4 * a.i + 3) 0)))
