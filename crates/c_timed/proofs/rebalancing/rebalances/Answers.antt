-- Each answers the same, whatever the one before it left in the lent slices.
use native.Mathlib.Omega.{arith}
use mathlib.Core.Path.{refl}
use lib.IntN.{pos}
use lib.ListN.{replicate}
use Rattle.c_timed.proofs.Same.{rebalance-made}
use Rattle.c_timed.proofs.rebalancing.rebalances.Goals as goal

pub loop-init : goal.loop-init
loop-init c =
    let s = c.args in
    let t = c.rebalance_simple-last in (
      omega (arith, t.auto.words),
      omega (arith, t.auto.ints),
      rebalance-made s.a s.targets.now s.weights.now s.symbols.now s.prices.now t.result t.new.words (replicate 256 0) t.new.ints (replicate 512 (pos 0)) refl refl t.ensures,
    )

pub loop-preserved : goal.loop-preserved
loop-preserved c =
    let s = c.args in
    let l = c.loop in
    let t = c.rebalance_simple-last-in-loop in (
      omega (arith, t.auto.words),
      omega (arith, t.auto.ints),
      rebalance-made s.a s.targets.now s.weights.now s.symbols.now s.prices.now t.result t.new.words l.words t.new.ints l.ints l.invariant.0 l.invariant.1 t.ensures,
    )
