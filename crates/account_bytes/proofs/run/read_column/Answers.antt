-- After i turns the first i places hold what the words say.
use native.Mathlib.Omega.{arith}
use mathlib.Core.Path.{◌≡◌, refl, ap, sym, ◌∙◌}
use mathlib.Core.List.{map}
use Prim.Native.Nat.{◌+◌, ◌*◌, ◌≤◌}
use lib.ListN.{length, take, length-set}
use lib.Seq.{length-take-le}
use Rattle.word_bytes.specs.Words.{words_of}
use Rattle.word_bytes.proofs.Words.{length-words}
use Rattle.account_bytes.specs.Account.{column_at}
use Rattle.account_bytes.proofs.Runs.{read_on, read_all, at_run, length_run, run_part}
use Rattle.account_bytes.proofs.run.read_column.Goals as goal

pub loop-i-init : goal.loop-i-init
loop-i-init g c = (c.told-column, refl)

pub loop-i-preserved : goal.loop-i-preserved
loop-i-preserved g c =
    let s = c.args in
    let f = g.T.Stored.of_word in
    let i = c.loop-i.i in
    let p = take (8 * (s.from + 64)) s.bytes.now in
    let ws = words_of p in
    let k : length p ≡ 8 * (s.from + 64) = length-take-le (8 * (s.from + 64)) s.bytes.now (omega arith) in
    let h : s.from + 64 ≤ length ws = simp length-words (omega arith) in
    let n : length (column_at f s.from ws) ≡ 64 = length_run f 64 s.from ws h in
    let e = c.value_at.ensures ∙ sym (at_run f 64 s.from i ws (omega arith)) in
    (simp length-set c.loop-i.invariant.0, read_on c.loop-i.column (column_at f s.from ws) i (f 0) c.value_at.result (omega arith) (omega arith) e c.loop-i.invariant.1)

pub returns : goal.returns
returns g c =
    let s = c.args in
    let f = g.T.Stored.of_word in
    let p = take (8 * (s.from + 64)) s.bytes.now in
    let ws = words_of p in
    let k : length p ≡ 8 * (s.from + 64) = length-take-le (8 * (s.from + 64)) s.bytes.now (omega arith) in
    let h : s.from + 64 ≤ length ws = simp length-words (omega arith) in
    read_all c.loop-i.column (column_at f s.from ws) 64 c.loop-i.i c.loop-i.invariant.0 (length_run f 64 s.from ws h) c.loop-i-test.false c.loop-i.invariant.1
    ∙ ap (map f) (run_part 64 s.from s.bytes.now c.requires)
