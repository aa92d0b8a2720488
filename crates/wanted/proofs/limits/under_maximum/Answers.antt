-- Cut down where the maximum is on and the notional is over it.
use borrow.Author.Rules.{rules}
use mir.Syntax.{w64}
use mir.Val.{SFits}
use mir.Facts.{to_z-of_z}
use Rattle.wanted.specs.Plan.{under_maximum}
use Rattle.wanted.proofs.limits.under_maximum.Goals as goal
use Rattle.wanted.proofs.limits.under_maximum.Goals.{else-max-gt0-via-then-max-gt0+else-max-notional_of, else-max-gt0-via-else-max-gt0}

pub returns-then-max-notional_of : goal.returns-then-max-notional_of
unfolding under_maximum
returns-then-max-notional_of c =
    let m : SFits w64 c.args.s.max_order_value = search rules in
    let k : SFits w64 c.args.s.quantity_step = search rules in
    let n = c.notional_of in
    let f : SFits w64 n.result = record { sfits = n.type_inv } in
    let on = simp (to_z-of_z m) at c.if-max-gt0.true in
    let over = simp (n.ensures, to_z-of_z c.ranges.price) at (simp (to_z-of_z m, to_z-of_z f) at c.if-max-notional_of.true) in
    simp (on, over) (simp (to_z-of_z c.ranges.price, to_z-of_z k, to_z-of_z m) at c.truncate_qty_to_max_value.ensures)

pub returns-else-max-gt0 : goal.returns-else-max-gt0
unfolding under_maximum
returns-else-max-gt0 c =
    let m : SFits w64 c.args.s.max_order_value = search rules in
    elim c.else-max-gt0.branch [
      | else-max-gt0-via-then-max-gt0+else-max-notional_of w ↦
          let n = w.notional_of in
          let f : SFits w64 n.result = record { sfits = n.type_inv } in
          let on = simp (to_z-of_z m) at w.if-max-gt0.true in
          let under = simp (n.ensures, to_z-of_z c.ranges.price) at (simp (to_z-of_z m, to_z-of_z f) at w.if-max-notional_of.false) in
          simp (on, under)
      | else-max-gt0-via-else-max-gt0 w ↦ let off = simp (to_z-of_z m) at w.if-max-gt0.false in simp off
    ]
