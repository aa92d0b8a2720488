-- Passed over where it is wanted or unpriced; else ordered whole, at the drift of its value.
use mathlib.Core.Path.{ap, ◌∙◌}
use mathlib.Core.Bool.{not}
use mir.Syntax.{w64}
use mir.Val.{SFits}
use mir.Facts.{to_z-of_z}
use Rattle.call_lists.proofs.Lists.{below_one}
use Rattle.wanted.specs.Plan.{planned_close}
use Rattle.wanted.proofs.planned.planned_close.Goals as goal
use Rattle.wanted.proofs.planned.planned_close.Goals.{then-wanted-via-then-wanted, then-wanted-via-else-wanted+then-price-lt1}

pub returns-then-wanted : goal.returns-then-wanted
unfolding planned_close
returns-then-wanted c =
    elim c.then-wanted.branch [
      | then-wanted-via-then-wanted w ↦ simp w.if-wanted.true c.passed_over.ensures
      | then-wanted-via-else-wanted+then-price-lt1 w ↦
          let e = below_one c.args.price ∙ ap not (simp (to_z-of_z c.ranges.price) at w.if-price-lt1.true) in
          simp (w.if-wanted.false, e) c.passed_over.ensures
    ]

pub returns : goal.returns
unfolding planned_close
returns c =
    let n = c.neg in
    let d = c.drift_bps_of-drift in
    let v = c.value in
    let q = c.raw in
    let e = below_one c.args.price ∙ ap not (simp (to_z-of_z c.ranges.price) at c.if-price-lt1.false) in
    let fv : SFits w64 v.result = record { sfits = v.type_inv } in
    let fq : SFits w64 q.result = record { sfits = q.type_inv } in
    simp (c.if-wanted.false, e)
    (c.allowed_order.ensures
    ∙ simp (n.ensures, d.ensures, to_z-of_z c.ranges.price) (simp (to_z-of_z fv, to_z-of_z c.ranges.equity) (simp (v.ensures, to_z-of_z c.ranges.price, to_z-of_z fq ∙ q.ensures))))
