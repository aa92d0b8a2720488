-- A part's change goes into the sum, raised; what is left at the end is the whole sum.
use Rattle.std.proofs.Common.{◌≡◌, get_or, pos, ap, ◌∙◌, arith, w64, SFits, below_more, rules}
use mir.ValLaws.{to_z-of_z}
use Rattle.house.specs.Inner.Raised.{raised, ended}
use Rattle.house.proofs.Raised.{holds-first, holds-low, holds_on, holds-last, ended-is}
use Rattle.house.proofs.total.sum_group.Goals as goal

pub loop-p-init : goal.loop-p-init
loop-p-init c = record { known = λ i h. absurd (omega arith); sum = holds-first _ _ _ c.start-sum.ensures }

pub plus-sum-requires : goal.plus-sum-requires
plus-sum-requires c =
    let l = c.loop-p in
    holds-low _ _ l.p l.sum c.requires l.auto.p-end l.invariant.sum

pub loop-p-preserved : goal.loop-p-preserved
loop-p-preserved c =
    let l = c.loop-p in
    let here : SFits w64 (get_or c.args.gains.now l.p (pos 0)) = search rules in
    record {
      known = below_more _ _ l.invariant.known here;
      sum = holds_on _ _ l.p l.sum _ _ l.invariant.sum (c.raise.ensures ∙ ap raised (to_z-of_z w64 _ here)) (omega (arith, c.raise.type_inv)) c.plus-sum.ensures;
    }

pub returns : goal.returns
returns c =
    let l = c.loop-p in
    let e : l.p ≡ c.args.m = omega (arith, c.loop-p-test.false, l.auto.p-end) in
    c.finish.ensures ∙ ap (ended _) (holds-last _ _ l.p l.sum e l.invariant.sum)
    ∙ ended-is c.args.m (λ i. get_or c.args.gains.now i (pos 0)) (λ a h. l.invariant.known a (omega arith))
