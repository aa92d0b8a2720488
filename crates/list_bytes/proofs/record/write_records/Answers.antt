-- After i turns the words of the first i records are put.
use mathlib.Core.Path.{◌≡◌, refl, ap, ◌∙◌}
use native.Mathlib.Omega.{arith}
use lib.ListN.{length}
use Rattle.word_bytes.specs.Words.{bytes_of}
use Rattle.fills.specs.Records.{fronted}
use Rattle.list_bytes.specs.Inner.Records.{rows_in, fitting, written_records, put_all}
use Rattle.list_bytes.proofs.Puts.{put-all_fronts}
use Rattle.list_bytes.proofs.Records.{rows_long, rows_on}
use Rattle.list_bytes.proofs.record.write_records.Goals as goal

pub loop-i-init : goal.loop-i-init
unfolding put_all rows_in
loop-i-init c = refl

pub loop-i-preserved : goal.loop-i-preserved
loop-i-preserved c =
    let a = c.args in
    rows_on a.out.now a.words.now a.ints.now c.loop-i.i c.loop-i.invariant c.put_words.ensures c.put_ints.ensures

pub returns : goal.returns
unfolding written_records
returns c =
    let a = c.args in
    let ws = a.words.now in
    let is = a.ints.now in
    let e : c.loop-i.i ≡ fitting a.count (length ws) (length is) (length a.out.now) = omega arith in
    c.loop-i.invariant
    ∙ put-all_fronts (rows_in c.loop-i.i ws is) a.out.now (omega (arith, rows_long c.loop-i.i ws is))
    ∙ ap (λ k. fronted (bytes_of (rows_in k ws is)) a.out.now) e
