-- What stands at the hinted place is among them; else the search decides.
use Rattle.std.proofs.Common.{◌≡◌, true, sym, ◌∙◌, get_or, arith}
use borrow.Author.Tests.{eqb-true, ltb-true}
use Rattle.call_lists.specs.Lists.{among}
use Rattle.call_lists.proofs.Lists.{place_among}
use Rattle.plan.proofs.close.is_target.Goals as goal
use Rattle.plan.proofs.close.is_target.Goals.{then-hint-targets, else-hint-targets}

pub returns-then-targets-hint : goal.returns-then-targets-hint
returns-then-targets-hint c =
    let a = c.args in
    let met = c.if-targets-hint.true in
    elim c.if-hint-targets.branch [
      | then-hint-targets w ↦
          let e : get_or a.targets.now a.hint 0 ≡ a.symbol = eqb-true _ _ (sym w.value-is ∙ met) in
          let h : among a.symbol a.targets.now ≡ true = rw e at (place_among a.targets.now a.hint w.if-hint-targets.true) in
          met ∙ sym h
      | else-hint-targets w ↦ absurd (omega (arith, ltb-true _ _ (sym w.value-is ∙ met)))
    ]
