-- Each test in turn is one of the definition's.
use mathlib.Core.Path.{◌≡◌, sym, ap, ◌∙◌}
use mathlib.Core.Bool.{false}
use lib.IntN.{ℤ, ◌-ℤ◌}
use lib.Signed.{lt_z}
use mir.Syntax.{w64}
use mir.Val.{SFits, to_z, of_z}
use mir.Facts.{to_z-of_z}
use Rattle.sums.specs.Sums.{notional}
use Rattle.sums.proofs.Laws.{notional-fits}
use Rattle.admission.proofs.Admitting.{offered-reached, offered-uncapped, offered-none, offered-over, offered-within, rest-fits}
use borrow.Author.Rules.{rules}
use Rattle.admission.proofs.cap.offer.Goals as goal

-- what the order is worth, as code has it
module _ (q p v : ℤ) (hp : SFits w64 p) (e : v ≡ notional q (to_z w64 (of_z w64 p))) where
  worth-is : v ≡ notional q p
  worth-is = simp (to_z-of_z hp) at e

  fit-worth : SFits w64 v
  fit-worth = rw worth-is (notional-fits _ _)

pub returns-then-is_reached : goal.returns-then-is_reached
returns-then-is_reached c =
    let a = c.args in
    offered-reached a.s a.n a.left a.quantity.0 a.price (sym c.is_reached.ensures ∙ c.if-is_reached.true)

pub returns-then-s-le0 : goal.returns-then-s-le0
returns-then-s-le0 c =
    let a = c.args in
    let most : SFits w64 a.s.max_rebalance_notional = search rules in
    let reached = sym c.is_reached.ensures ∙ c.if-is_reached.false in
    simp (to_z-of_z c.ranges.left) (offered-uncapped a.s a.n a.left a.quantity.0 a.price reached (simp (to_z-of_z most) at c.if-s-le0.true))

pub returns-then-left-le0 : goal.returns-then-left-le0
returns-then-left-le0 c =
    let a = c.args in
    let most : SFits w64 a.s.max_rebalance_notional = search rules in
    let reached = sym c.is_reached.ensures ∙ c.if-is_reached.false in
    offered-none a.s a.n a.left a.quantity.0 a.price reached (simp (to_z-of_z most) at c.if-s-le0.false) (simp (to_z-of_z c.ranges.left) at c.if-left-le0.true)

pub returns-then-left-notional : goal.returns-then-left-notional
returns-then-left-notional c =
    let a = c.args in
    let most : SFits w64 a.s.max_rebalance_notional = search rules in
    let reached = sym c.is_reached.ensures ∙ c.if-is_reached.false in
    let worth = worth-is a.quantity.0 a.price c.notional_of-notional.result c.ranges.price c.notional_of-notional.ensures in
    let fit = fit-worth a.quantity.0 a.price c.notional_of-notional.result c.ranges.price c.notional_of-notional.ensures in
    simp (to_z-of_z c.ranges.left, to_z-of_z c.ranges.price) at c.offer_part.ensures
    ∙ offered-over a.s a.n a.left a.quantity.0 a.price reached (simp (to_z-of_z most) at c.if-s-le0.false) (simp (to_z-of_z c.ranges.left) at c.if-left-le0.false)
    (ap (lt_z a.left) (sym worth) ∙ simp (to_z-of_z fit, to_z-of_z c.ranges.left) at c.if-left-notional.true)

-- what remains of the cap once the order is taken from it
module _ (left q p v : ℤ) (hl : SFits w64 left) (hp : SFits w64 p) (e : v ≡ notional q (to_z w64 (of_z w64 p)))
    (t : lt_z (to_z w64 (of_z w64 left)) (to_z w64 (of_z w64 v)) ≡ false) where
  within : lt_z left (notional q p) ≡ false
  within = ap (lt_z left) (sym (worth-is q p v hp e)) ∙ simp (to_z-of_z (fit-worth q p v hp e), to_z-of_z hl) at t

  rest-is : SFits w64 (left -ℤ v)
  rest-is = rest-fits _ _ _ _ (worth-is q p v hp e) hl within

pub overflow_sub-result : goal.overflow_sub-result
overflow_sub-result c =
    let a = c.args in
    let v = c.notional_of-notional in
    let fit = fit-worth a.quantity.0 a.price v.result c.ranges.price v.ensures in
    simp (to_z-of_z c.ranges.left, to_z-of_z fit)
    (rest-is a.left a.quantity.0 a.price v.result c.ranges.left c.ranges.price v.ensures c.if-left-notional.false)

pub returns : goal.returns
returns c =
    let a = c.args in
    let v = c.notional_of-notional in
    let most : SFits w64 a.s.max_rebalance_notional = search rules in
    let reached = sym c.is_reached.ensures ∙ c.if-is_reached.false in
    let worth = worth-is a.quantity.0 a.price v.result c.ranges.price v.ensures in
    let fit = fit-worth a.quantity.0 a.price v.result c.ranges.price v.ensures in
    let rest = rest-is a.left a.quantity.0 a.price v.result c.ranges.left c.ranges.price v.ensures c.if-left-notional.false in
    simp (to_z-of_z c.ranges.left, to_z-of_z fit, to_z-of_z rest)
    (offered-within a.s a.n a.left a.quantity.0 a.price reached (simp (to_z-of_z most) at c.if-s-le0.false) (simp (to_z-of_z c.ranges.left) at c.if-left-le0.false) _ worth
    (within a.left a.quantity.0 a.price v.result c.ranges.left c.ranges.price v.ensures c.if-left-notional.false))
