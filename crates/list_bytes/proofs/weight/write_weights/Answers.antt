-- After i turns the first i weights are put.
use Prim.Native.Nat.{◌≤◌}
use mathlib.Core.Path.{◌≡◌, refl, ap, ◌∙◌}
use native.Mathlib.Omega.{arith}
use lib.ListN.{length, take}
use borrow.Author.Rules.{rules}
use Rattle.fills.specs.Records.{fronted}
use Rattle.list_bytes.specs.Inner.Records.{put_all}
use Rattle.list_bytes.specs.Weights.{pair_words, weight_bytes, weights_fitting, written_weights}
use Rattle.list_bytes.proofs.Puts.{put-all_fronts}
use Rattle.list_bytes.proofs.Weights.{pairs_long, pairs_on}
use Rattle.list_bytes.proofs.weight.write_weights.Goals as goal

pub loop-i-init : goal.loop-i-init
unfolding put_all pair_words
loop-i-init c = refl

pub loop-i-preserved : goal.loop-i-preserved
loop-i-preserved c =
    let a = c.args in
    let l = c.loop-i in
    let x : length a.symbol ≡ 64 = search rules in
    let y : length a.weight ≡ 64 = search rules in
    pairs_on a.out.now a.symbol a.weight l.i _ (omega arith) (omega arith) l.invariant c.put_symbol.ensures c.pattern.ensures c.put_word.ensures

pub returns : goal.returns
unfolding written_weights
returns c =
    let a = c.args in
    let n = c.loop-i.i in
    let x : length a.symbol ≡ 64 = search rules in
    let y : length a.weight ≡ 64 = search rules in
    let k : n ≤ 64 = omega arith in
    let e : n ≡ weights_fitting a.count (length a.out.now) = omega arith in
    c.loop-i.invariant
    ∙ put-all_fronts (pair_words (take n a.symbol) (take n a.weight)) a.out.now (omega (arith, pairs_long n a.symbol a.weight (omega arith) (omega arith)))
    ∙ ap (λ j. fronted (weight_bytes (take j a.symbol) (take j a.weight)) a.out.now) e
