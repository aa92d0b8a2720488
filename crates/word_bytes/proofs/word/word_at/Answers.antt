-- The word at a place is that of the eight bytes cut off there, and past the last there are none.
use native.Mathlib.Omega.{arith}
use mathlib.Core.Path.{sym}
use mathlib.Core.List.{[]}
use Rattle.word_bytes.proofs.Words.{word_at_lem, word_past}
use Rattle.word_bytes.proofs.word.word_at.Goals as goal

pub returns-in-Some : goal.returns-in-Some
returns-in-Some c =
    let e = c.in-Some.ensures.lookup in
    word_at_lem c.args.bytes.now c.args.i (omega (arith, e.3.0, c.as_chunks.ensures.front_len)) c.as_chunks.ensures.front (e.3.1 []) c.from_le_bytes.ensures

pub returns-in-None : goal.returns-in-None
returns-in-None c = sym (word_past c.args.bytes.now c.args.i (omega (arith, c.in-None.ensures.lookup.3, c.as_chunks.ensures.front_len)))
