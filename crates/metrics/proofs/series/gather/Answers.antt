-- One more return keeps what is gathered; at the end a finite equity settles whether all returns are finite.
use Rattle.std.proofs.Common.{◌≡◌, sym, ◌∙◌}
use Rattle.doubles.specs.Doubles.{all_finite}
use Rattle.metrics.proofs.Gathering.{gather_on, equity_settles, gather_all, gather_none}
use Rattle.metrics.proofs.series.gather.Goals as goal
use Rattle.metrics.proofs.series.gather.Goals.{then-is_finite, else-is_finite}

pub loop-r-preserved : goal.loop-r-preserved
loop-r-preserved c =
    simp (c.after-tally.ensures, c.after-curve.ensures) (gather_on _ _ _ _ _ c.loop-r-test.true c.loop-r.invariant)

pub returns-then-all_finite : goal.returns-then-all_finite
returns-then-all_finite c =
    let l = c.loop-r-test.false in
    let g = c.loop-r.invariant in
    let all : c.if-is_finite.value ≡ all_finite c.args.returns.now =
    elim c.if-is_finite.branch [
      | then-is_finite w ↦ w.value-is ∙ w.if-is_finite.true ∙ equity_settles _ _ _ _ l g (sym c.is_finite.ensures ∙ w.if-is_finite.true)
      | else-is_finite w ↦ w.value-is ∙ w.all_finite.ensures
    ] in
    gather_all _ _ _ _ l g (sym c.if-all_finite.true ∙ all)

pub returns-else-all_finite : goal.returns-else-all_finite
returns-else-all_finite c =
    let l = c.loop-r-test.false in
    let g = c.loop-r.invariant in
    let all : c.if-is_finite.value ≡ all_finite c.args.returns.now =
    elim c.if-is_finite.branch [
      | then-is_finite w ↦ w.value-is ∙ w.if-is_finite.true ∙ equity_settles _ _ _ _ l g (sym c.is_finite.ensures ∙ w.if-is_finite.true)
      | else-is_finite w ↦ w.value-is ∙ w.all_finite.ensures
    ] in
    gather_none _ (sym c.if-all_finite.false ∙ all)
