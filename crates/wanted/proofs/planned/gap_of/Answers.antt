-- The target's value less the holding's.
use mathlib.Core.Path.{◌∙◌}
use mir.Syntax.{w64}
use mir.Val.{SFits}
use mir.Facts.{to_z-of_z}
use Rattle.wanted.specs.Plan.{gap_of}
use Rattle.wanted.proofs.planned.gap_of.Goals as goal

pub returns : goal.returns
unfolding gap_of
returns c =
    let d = c.saturating_sub in
    let v = c.value in
    let q = c.raw in
    let t = c.to_i64-target in
    let e = c.i64_to_f64 in
    let fd : SFits w64 d.result = record { sfits = d.type_inv } in
    let fv : SFits w64 v.result = record { sfits = v.type_inv } in
    let ft : SFits w64 t.result = record { sfits = t.type_inv } in
    let fq : SFits w64 q.result = record { sfits = q.type_inv } in
    simp (to_z-of_z fd)
    (d.ensures
    ∙ simp (to_z-of_z fv, to_z-of_z ft) (simp (v.ensures, t.ensures, e.ensures, to_z-of_z c.ranges.price, to_z-of_z c.ranges.equity, to_z-of_z fq ∙ q.ensures)))
