-- By whether anything remains.
use mathlib.Core.Path.{◌≡◌, sym, ◌∙◌}
use lib.IntN.{ℤ}
use mir.Syntax.{w64}
use mir.Val.{SFits, to_z, of_z}
use mir.Facts.{to_z-of_z}
use Rattle.sums.specs.Sums.{sat_sub, notional}
use Rattle.fills.specs.Inner.Deal.{trimmed_to}
use borrow.Author.Rules.{rules}
use Rattle.fills.proofs.deal.trimmed_to.Goals as goal

-- what the request lost, either way: v of the request less w of what remains
lost-is : (q g p v w l : ℤ) → SFits w64 p → SFits w64 v → SFits w64 w → SFits w64 l
    → v ≡ notional q (to_z w64 (of_z w64 p)) → w ≡ notional g (to_z w64 (of_z w64 p)) → l ≡ sat_sub (to_z w64 (of_z w64 v)) (to_z w64 (of_z w64 w))
    → to_z w64 (of_z w64 l) ≡ sat_sub (notional q p) (notional g p)
lost-is q g p v w l fp fv fw fl ev ew el =
    let a = simp (to_z-of_z fp) at ev in
    let b = simp (to_z-of_z fp) at ew in
    to_z-of_z fl ∙ simp (to_z-of_z fv ∙ a, to_z-of_z fw ∙ b) at el

pub returns-then-is_zero : goal.returns-then-is_zero
unfolding trimmed_to
returns-then-is_zero c =
    let a = c.args in
    let h = sym c.is_zero.ensures ∙ c.if-is_zero.true in
    let lost = lost-is a.requested.0 a.got.0 a.price c.notional_of-asked.result c.notional_of.result c.saturating_sub-lost.result
    c.ranges.price (search rules) (search rules) (search rules) c.notional_of-asked.ensures c.notional_of.ensures c.saturating_sub-lost.ensures in
    rw h (simp (to_z-of_z c.ranges.price, to_z-of_z c.ranges.cash, lost) at c.no_deal.ensures)

pub returns : goal.returns
unfolding trimmed_to
returns c =
    let a = c.args in
    let h = sym c.is_zero.ensures ∙ c.if-is_zero.false in
    let lost = lost-is a.requested.0 a.got.0 a.price c.notional_of-asked.result c.notional_of.result c.saturating_sub-lost.result
    c.ranges.price (search rules) (search rules) (search rules) c.notional_of-asked.ensures c.notional_of.ensures c.saturating_sub-lost.ensures in
    rw h (simp (to_z-of_z c.ranges.price, to_z-of_z c.ranges.cash, lost) at c.dealt.ensures)
