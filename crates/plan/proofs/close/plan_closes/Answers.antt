-- A holding that is a target adds nothing; any other adds its close.
use lib.ListN.{take}
use Rattle.std.proofs.Common.{◌≡◌, ◌≤◌, ◌+◌, min, [], ◌∷◌, ◌++◌, length, length-append}
use Rattle.std.specs.Iterator.Adapters.{zip_first, zip_second, enumerate_source, enumerate_count}
use Rattle.std.specs.Slice.Iter.{iter_rest}
use Rattle.wanted.proofs.Turns.{numbered_turn, numbered_end, turn_among}
use Rattle.std.proofs.Math.Seq.{length-take-le}
use mathlib.Core.Path.{sym, ap, ◌∙◌}
use mathlib.Core.Bool.{true, false}
use native.Mathlib.Omega.{arith}
use borrow.Author.Rules.{rules}
use lib.IntN.{pos}
use lib.ListN.{get_or}
use mir.Syntax.{w64}
use mir.Val.{SFits, to_z, of_z}
use mir.Facts.{to_z-of_z}
use Rattle.table.proofs.Places.{shorter-within, shorter-min}
use Rattle.table.specs.Inner.Places.{shorter}
use Rattle.call_lists.specs.Lists.{among, price_of}
use Rattle.admission.specs.Admission.{capped}
use Rattle.admission.specs.Inner.Columns.{plan_cols, counted_plan, added_to}
use Rattle.admission.proofs.Inserting.{added_none}
use Rattle.plan.specs.Inner.Adding.{close_at}
use Rattle.plan.proofs.Adding.{closes_start, counted_same, wanted-none, kept_with_lem, adding_on, adding_end}
use Rattle.plan.proofs.close.plan_closes.Goals as goal
use Rattle.plan.proofs.close.plan_closes.Goals.{then-not-is_target, else-not-is_target}

pub loop-i-init : goal.loop-i-init
loop-i-init c = λ r. closes_start _ _ _ _ c.args.n c.used-places.result _ _ _ c.used-places.ensures

pub loop-i-preserved : goal.loop-i-preserved
loop-i-preserved c =
    let a = c.args in
    let l = c.loop-i in
    let ks = a.key.now in
    let hs = a.held.now in
    let m = c.used-places.result in
    let s = c.into_iter-i-iterator.result in
    let small : m ≤ 64 = omega (arith, c.used-places.ensures, shorter-within a.n 64) in
    let room : m ≤ length ks = omega arith in
    let given = c.into_iter-i-iterator.ensures.into_iter_gives in
    let source = c.enumerate-i-items.ensures.source in
    let first : iter_rest (zip_first (enumerate_source s)) ≡ take m ks
    = ap (λ it. iter_rest (zip_first (enumerate_source it))) given ∙ ap (λ z. iter_rest (zip_first z)) source ∙ ap iter_rest c.zip.ensures.first ∙ c.iter.ensures.rest in
    let second : iter_rest (zip_second (enumerate_source s)) ≡ take m hs
    = ap (λ it. iter_rest (zip_second (enumerate_source it))) given ∙ ap (λ z. iter_rest (zip_second z)) source ∙ c.zip.ensures.second.0 in
    let from_0 : enumerate_count s ≡ 0 = ap enumerate_count given ∙ c.enumerate-i-items.ensures.count in
    let turn = numbered_turn (take m ks) (take m hs) l.yielded s l.i-iterator c.next.new.self c.next.result first second from_0 l.yielded_by _ c.in-Some.is c.next.ensures.steps in
    let here = turn_among m ks hs (length l.yielded) _ room turn.1 in
    let i = length l.yielded in
    let j = c.if-not-is_target in
    let k = get_or ks i 0 in
    let f = close_at a.s (to_z w64 (of_z w64 a.equity)) (price_of a.symbols.now a.prices.now) a.targets.now ks hs in
    let x = counted_plan l.count (plan_cols l.symbol l.quantity l.price l.drift) in
    let asked : among k a.targets.now ≡ c.is_target.result = ap (λ y. among y a.targets.now) (sym (here.left 0)) ∙ sym c.is_target.ensures in
    let on : length (l.yielded ++ ((c.in-Some.i, (c.in-Some.k, c.in-Some.h)) ∷ [])) ≡ i + 1 = simp length-append in
    λ r.
    let stepped : counted_plan j.count (plan_cols j.symbol j.quantity j.price j.drift) ≡ added_to (capped a.s) (f i) x
    = elim j.branch [
      | then-not-is_target w ↦
          let fh : SFits w64 c.in-Some.h.now = search rules in
          let fp : SFits w64 w.quote-q.result.price = search rules in
          let e : among k a.targets.now ≡ false = asked ∙ w.if-not-is_target.true in
          counted_same w.count-is w.symbol-is w.quantity-is w.price-is w.drift-is
          ∙ w.add_order-count.ensures
          ∙ ap (λ b. added_to b w.planned_close-o.result x) c.is_capped-capped.ensures
          ∙ ap (λ o. added_to (capped a.s) o x)
          (w.planned_close-o.ensures ∙ simp (w.from_raw.ensures, to_z-of_z fh, to_z-of_z fp) (simp (w.quote-q.ensures.settled r, here.left 0, here.right (pos 0), e)))
      | else-not-is_target w ↦
          let e : among k a.targets.now ≡ true = asked ∙ w.if-not-is_target.false in
          counted_same w.count-is w.symbol-is w.quantity-is w.price-is w.drift-is ∙ sym (added_none _ (capped a.s) x (wanted-none a.s _ _ _ _ _ e))
    ] in
    let least : c.min-count.result ≡ min j.count c.most_of-most.result = search rules in
    let kept : c.min-count.result ≡ shorter j.count c.most_of-most.result = omega (arith, least, shorter-min j.count c.most_of-most.result) in
    simp on
    (adding_on a.s f _ m i x _ here.below (kept_with_lem a.s (f i) x j.count c.most_of-most.result _ _ stepped c.most_of-most.ensures kept) (l.invariant r))

pub returns : goal.returns
returns c =
    let l = c.loop-i in
    let ks = c.args.key.now in
    let hs = c.args.held.now in
    let m = c.used-places.result in
    let s = c.into_iter-i-iterator.result in
    let small : m ≤ 64 = omega (arith, c.used-places.ensures, shorter-within c.args.n 64) in
    let given = c.into_iter-i-iterator.ensures.into_iter_gives in
    let source = c.enumerate-i-items.ensures.source in
    let first : iter_rest (zip_first (enumerate_source s)) ≡ take m ks
    = ap (λ it. iter_rest (zip_first (enumerate_source it))) given ∙ ap (λ z. iter_rest (zip_first z)) source ∙ ap iter_rest c.zip.ensures.first ∙ c.iter.ensures.rest in
    let second : iter_rest (zip_second (enumerate_source s)) ≡ take m hs
    = ap (λ it. iter_rest (zip_second (enumerate_source it))) given ∙ ap (λ z. iter_rest (zip_second z)) source ∙ c.zip.ensures.second.0 in
    let from_0 : enumerate_count s ≡ 0 = ap enumerate_count given ∙ c.enumerate-i-items.ensures.count in
    let all = numbered_end (take m ks) (take m hs) l.yielded s l.i-iterator c.next.new.self c.next.result first second from_0 l.yielded_by c.in-None.is c.next.ensures.steps in
    let past : m ≤ length l.yielded = omega (arith, all, length-take-le m ks (omega arith), length-take-le m hs (omega arith)) in
    record { settled = λ r. simp (to_z-of_z c.ranges.equity) at (adding_end _ _ _ m (length l.yielded) _ past (l.invariant r)) }
