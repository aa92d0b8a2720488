-- What is left to write gives, from the bytes as they are, what the whole gives from the bytes as found.
use native.Mathlib.Omega.{arith}
use mathlib.Core.Path.{sym, ◌∙◌}
use mathlib.Core.List.{map}
use Prim.Native.Nat.{◌+◌, ◌<◌}
use lib.ListN.{length, length-map}
use Rattle.std.proofs.lemmas.List.{get_or-map}
use Rattle.account_bytes.proofs.Runs.{write_on, write_starts, write-ends}
use Rattle.account_bytes.proofs.run.put_column.Goals as goal

pub loop-i-init : goal.loop-i-init
loop-i-init g c = write_starts c.args.bytes.now (map g.T.Stored.word_of c.args.column.now) c.args.from

pub loop-i-preserved : goal.loop-i-preserved
loop-i-preserved g c =
    let s = c.args in
    let f = g.T.Stored.word_of in
    let x = c.index-column-i.result in
    let n : c.loop-i.i < length s.column.now = omega arith in
    write_on c.loop-i.bytes c.put_word.new.bytes (map f s.column.now) s.from c.loop-i.i c.to_word.result (simp length-map n) c.put_word.ensures
    (c.to_word.ensures ∙ sym (get_or-map f s.column.now c.loop-i.i x 0 n)) c.to_word.type_inv ∙ c.loop-i.invariant

pub returns : goal.returns
returns g c =
    write-ends c.loop-i.bytes (map g.T.Stored.word_of c.args.column.now) _ (c.args.from + c.loop-i.i) c.loop-i.i (simp length-map (omega arith)) c.loop-i.invariant
