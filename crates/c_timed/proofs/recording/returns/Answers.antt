-- Each answers the same, whatever the one before it left in the series.
use native.Mathlib.Omega.{arith}
use mathlib.Core.Path.{refl}
use Rattle.c_timed.proofs.Same.{return-made}
use Rattle.c_timed.proofs.recording.returns.Goals as goal

pub loop-init : goal.loop-init
loop-init c =
    let s = c.args in
    let r = c.record_return-last in
    (omega (arith, r.auto.equity), omega (arith, r.auto.returns), return-made s.a s.symbols.now s.prices.now r.result r.new.equity _ r.new.returns _ refl refl r.ensures)

pub loop-preserved : goal.loop-preserved
loop-preserved c =
    let s = c.args in
    let l = c.loop in
    let r = c.record_return-last-in-loop in (
      omega (arith, r.auto.equity),
      omega (arith, r.auto.returns),
      return-made s.a s.symbols.now s.prices.now r.result r.new.equity l.equities r.new.returns l.changes l.invariant.0 l.invariant.1 r.ensures,
    )
