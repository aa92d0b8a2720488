-- The sum so far is the worth of the places passed, at the prices of a list that ascends.
use Rattle.std.proofs.Common.{rules, ◌≡◌, ◌≤◌, [], ◌∷◌, ◌++◌, ◌+◌, length, take, get_or, w64, pos, sym, ap, ◌∙◌, arith, length-append}
use Rattle.std.specs.Iterator.Adapters.{zip_first, zip_second}
use Rattle.std.specs.Slice.Iter.{iter_rest}
use mir.Val.{SFits}
use mir.Facts.{to_z-of_z}
use Rattle.table.proofs.Places.{shorter-within}
use Rattle.call_lists.specs.Lists.{price_of}
use Rattle.wanted.proofs.Turns.{pair_turn, pair_end}
use Rattle.wanted.proofs.Worth.{worth-none, worth_on}
use Rattle.wanted.specs.Inner.Equity.{worth_places}
use Rattle.wanted.proofs.equity.total_worth.Goals as goal

pub loop-key-init : goal.loop-key-init
loop-key-init c = λ r. sym (worth-none _ c.args.symbol.now c.args.quantity.now)

pub loop-key-preserved : goal.loop-key-preserved
loop-key-preserved c =
    let ks = c.args.symbol.now in
    let qs = c.args.quantity.now in
    let m = c.used-m.result in
    let s = c.into_iter-key-iterator.result in
    let l = c.loop-key in
    let hm : m ≤ 64 = omega (arith, c.used-m.ensures, shorter-within c.args.n 64) in
    let hk : m ≤ length ks = omega arith in
    let hq : m ≤ length qs = omega arith in
    let first : iter_rest (zip_first s) ≡ take m ks = cc in
    let second : iter_rest (zip_second s) ≡ take m qs = cc in
    let turn = pair_turn m ks qs l.yielded s l.key-iterator c.next.new.self c.next.result hk hq first second l.yielded_by _ c.in-Some.is c.next.ensures.steps in
    let i = length l.yielded in
    let a = c.saturating_add-sum in
    let v = c.value in
    let q = c.quote-q in
    let fa : SFits w64 a.result = record { sfits = a.type_inv } in
    let fv : SFits w64 v.result = record { sfits = v.type_inv } in
    let fq : SFits w64 (get_or qs i (pos 0)) = search rules in
    let fp : SFits w64 q.result.price = search rules in
    let pr = price_of c.args.symbols.now c.args.prices.now in
    let on : length (l.yielded ++ ((c.in-Some.key, c.in-Some.held) ∷ [])) ≡ i + 1 = simp length-append in
    λ r. simp (to_z-of_z fa)
    (a.ensures
    ∙ simp (to_z-of_z fv) (simp (v.ensures, l.invariant r) (simp (turn.right (pos 0), to_z-of_z fq, to_z-of_z fp) (simp (q.ensures.settled r, turn.left 0) (sym (worth_on pr i ks qs)))))
    ∙ sym (ap (λ k. worth_places pr k ks qs) on))

pub returns : goal.returns
returns c =
    let ks = c.args.symbol.now in
    let qs = c.args.quantity.now in
    let m = c.used-m.result in
    let s = c.into_iter-key-iterator.result in
    let l = c.loop-key in
    let hm : m ≤ 64 = omega (arith, c.used-m.ensures, shorter-within c.args.n 64) in
    let hk : m ≤ length ks = omega arith in
    let hq : m ≤ length qs = omega arith in
    let first : iter_rest (zip_first s) ≡ take m ks = cc in
    let second : iter_rest (zip_second s) ≡ take m qs = cc in
    let all = pair_end m ks qs l.yielded s l.key-iterator c.next.new.self c.next.result hk hq first second l.yielded_by c.in-None.is c.next.ensures.steps in
    let pr = price_of c.args.symbols.now c.args.prices.now in
    record { settled = λ r. l.invariant r ∙ ap (λ k. worth_places pr k ks qs) (all ∙ c.used-m.ensures) }
