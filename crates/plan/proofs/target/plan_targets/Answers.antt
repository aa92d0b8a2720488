-- Each target adds its order, of what is held of its symbol.
use Rattle.std.proofs.Common.{◌≡◌, ◌≤◌, ◌+◌, ◌<◌, min, [], ◌∷◌, ◌++◌, length-append}
use Rattle.std.specs.Iterator.Adapters.{zip_first, zip_second, enumerate_source, enumerate_count}
use Rattle.std.specs.Slice.Iter.{iter_rest}
use Rattle.wanted.proofs.Turns.{numbered_turn, numbered_end}
use Rattle.table.specs.Inner.Places.{shorter}
use mathlib.Core.Path.{refl, ap, ◌∙◌}
use native.Mathlib.Omega.{arith}
use borrow.Author.Rules.{rules}
use lib.Ieee.{nan}
use lib.ListN.{length, take}
use mir.Syntax.{w64}
use mir.Val.{SFits, to_z, of_z}
use mir.Facts.{to_z-of_z}
use Rattle.table.proofs.Places.{shorter-min}
use Rattle.call_lists.specs.Lists.{price_of}
use Rattle.admission.specs.Admission.{capped}
use Rattle.admission.specs.Inner.Columns.{plan_cols, counted_plan, added_to}
use Rattle.plan.specs.Inner.Adding.{target_at}
use Rattle.plan.proofs.Adding.{targets_start, kept_with_lem, adding_on, adding_end}
use Rattle.plan.proofs.target.plan_targets.Goals as goal

pub loop-i-init : goal.loop-i-init
loop-i-init c = λ r k. targets_start _ _ _ _ _ c.args.targets.now c.args.weights.now (shorter (length c.args.targets.now) (length c.args.weights.now)) _ refl

pub loop-i-preserved : goal.loop-i-preserved
loop-i-preserved c =
    let a = c.args in
    let l = c.loop-i in
    let ts = a.targets.now in
    let ws = a.weights.now in
    let s = c.into_iter-i-iterator.result in
    let given = c.into_iter-i-iterator.ensures.into_iter_gives in
    let source = c.enumerate-i-items.ensures.source in
    let first : iter_rest (zip_first (enumerate_source s)) ≡ ts
    = ap (λ it. iter_rest (zip_first (enumerate_source it))) given ∙ ap (λ z. iter_rest (zip_first z)) source ∙ ap iter_rest c.zip.ensures.first ∙ c.iter.ensures.rest in
    let second : iter_rest (zip_second (enumerate_source s)) ≡ ws
    = ap (λ it. iter_rest (zip_second (enumerate_source it))) given ∙ ap (λ z. iter_rest (zip_second z)) source ∙ c.zip.ensures.second.0 in
    let from_0 : enumerate_count s ≡ 0 = ap enumerate_count given ∙ c.enumerate-i-items.ensures.count in
    let turn = numbered_turn ts ws l.yielded s l.i-iterator c.next.new.self c.next.result first second from_0 l.yielded_by _ c.in-Some.is c.next.ensures.steps in
    let i = length l.yielded in
    let m = shorter (length ts) (length ws) in
    let q = c.quote-q in
    let h = c.quantity_of-h in
    let o = c.planned_target-o in
    let f = target_at a.s (to_z w64 (of_z w64 a.equity)) (price_of a.symbols.now a.prices.now) (take a.n a.key.now) a.held.now ts ws in
    let x = counted_plan l.count (plan_cols l.symbol l.quantity l.price l.drift) in
    let fh : SFits w64 h.result = search rules in
    let fp : SFits w64 q.result.price = search rules in
    let least : c.min-count.result ≡ min c.add_order.result c.most_of-most.result = search rules in
    let kept : c.min-count.result ≡ shorter c.add_order.result c.most_of-most.result = omega (arith, least, shorter-min c.add_order.result c.most_of-most.result) in
    let below : i < m = omega (arith, turn.1.below, shorter-min (length ts) (length ws)) in
    let on : length (l.yielded ++ ((c.in-Some.i, (c.in-Some.k, c.in-Some.w)) ∷ [])) ≡ i + 1 = simp length-append in
    λ r g.
    simp on
    (adding_on a.s f _ m i x _ below
    (kept_with_lem a.s (f i) x c.add_order.result c.most_of-most.result _ _
    (c.add_order.ensures
    ∙ ap (λ b. added_to b o.result x) c.is_capped-capped.ensures
    ∙ ap (λ o. added_to (capped a.s) o x)
    (o.ensures ∙ simp (c.from_raw.ensures, to_z-of_z fh, to_z-of_z fp) (simp (q.ensures.settled r, h.ensures.settled g) (simp (turn.1.left 0, turn.1.right nan)))))
    c.most_of-most.ensures
    kept)
    (l.invariant r g))

pub returns : goal.returns
returns c =
    let l = c.loop-i in
    let ts = c.args.targets.now in
    let ws = c.args.weights.now in
    let s = c.into_iter-i-iterator.result in
    let given = c.into_iter-i-iterator.ensures.into_iter_gives in
    let source = c.enumerate-i-items.ensures.source in
    let first : iter_rest (zip_first (enumerate_source s)) ≡ ts
    = ap (λ it. iter_rest (zip_first (enumerate_source it))) given ∙ ap (λ z. iter_rest (zip_first z)) source ∙ ap iter_rest c.zip.ensures.first ∙ c.iter.ensures.rest in
    let second : iter_rest (zip_second (enumerate_source s)) ≡ ws
    = ap (λ it. iter_rest (zip_second (enumerate_source it))) given ∙ ap (λ z. iter_rest (zip_second z)) source ∙ c.zip.ensures.second.0 in
    let from_0 : enumerate_count s ≡ 0 = ap enumerate_count given ∙ c.enumerate-i-items.ensures.count in
    let all = numbered_end ts ws l.yielded s l.i-iterator c.next.new.self c.next.result first second from_0 l.yielded_by c.in-None.is c.next.ensures.steps in
    let m = shorter (length ts) (length ws) in
    let past : m ≤ length l.yielded = omega (arith, all, shorter-min (length ts) (length ws)) in
    record { settled = λ r g. simp (to_z-of_z c.ranges.equity) at (adding_end _ _ _ m (length l.yielded) _ past (l.invariant r g)) }
