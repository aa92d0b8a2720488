-- The prices passed are at least 1, so the first below it is among those that are left.
use mathlib.Core.Path.{ap, ◌∙◌}
use mathlib.Core.Bool.{not}
use native.Mathlib.Omega.{arith}
use borrow.Author.Rules.{rules}
use lib.ListN.{get_or}
use lib.IntN.{pos}
use lib.Signed.{le_z}
use mir.Facts.{to_z-of_z}
use mir.Val.{SFits}
use mir.Syntax.{w64}
use Rattle.call_lists.specs.Lists.{first_unpriced}
use Rattle.call_lists.proofs.Lists.{fails_at, passes_at, all_pass, below_one, place_at, place_past}
use Rattle.call_lists.proofs.list.first_unpriced.Goals as goal

pub returns-then-price-lt1 : goal.returns-then-price-lt1
returns-then-price-lt1 c =
    let l = c.args.prices.now in
    let p = get_or l c.loop-i.i (pos 0) in
    let f : SFits w64 p = search rules in
    place_at l (first_unpriced l) c.loop-i.i c.loop-i-test.true
    (fails_at (le_z (pos 1)) _ _ c.loop-i.invariant (pos 0) c.loop-i-test.true (below_one p ∙ ap not (simp (to_z-of_z f) at c.if-price-lt1.true)))

pub loop-i-preserved : goal.loop-i-preserved
loop-i-preserved c =
    let p = get_or c.args.prices.now c.loop-i.i (pos 0) in
    let f : SFits w64 p = search rules in
    passes_at (le_z (pos 1)) _ _ c.loop-i.invariant (pos 0) c.loop-i-test.true (below_one p ∙ ap not (simp (to_z-of_z f) at c.if-price-lt1.false))

pub returns : goal.returns
returns c =
    let l = c.args.prices.now in
    let e = all_pass (le_z (pos 1)) _ _ c.loop-i.invariant c.loop-i-test.false in
    place_past l (first_unpriced l) (omega arith)
