-- The request in whole steps bounds the search, and so many steps are no more than the request.
use Rattle.std.proofs.Common.{◌≡◌, ℕ, ◌*◌, ◌/◌, ◌^◌, ◌<◌, ◌≤◌, Bool, ℤ, sym, ◌∙◌, mul-le-mul_right, div-mul-le_self, arith, w64, SFits, to_z, of_z, rules}
use mir.ValLaws.{to_z_pos}
use Rattle.sums.proofs.Ints.{P-fits}
use Rattle.sizing.specs.Sizing.{above}
use Rattle.sizing.specs.Afford.{largest, affordable}
use Rattle.sizing.proofs.Bits.{read_back}
use Rattle.sizing.proofs.Search.{largest_up_to}
use Rattle.sizing.proofs.Sizes.{above_is_P}
use Rattle.sizing.proofs.largest_affordable_buy_qty.Goals as goal

-- a request cut to whole steps is no more than the request
steps-within : (z : ℤ) (r unit : ℕ) → SFits w64 z → r ≡ above z → r / unit * unit < 2 ^ 63
steps-within z r unit f e = omega (arith, div-mul-le_self r unit, e, above_is_P z, P-fits z f)

-- and the largest count up to it is no more
fill_small : (passes : ℕ → Bool) (most unit n : ℕ) → most * unit < 2 ^ 63 → n ≡ largest passes most → n * unit < 2 ^ 63
fill_small passes most unit n h e =
    let l : n ≤ most = rw e (largest_up_to passes most) in
    omega (arith, mul-le-mul_right unit l)

request_is : (r : ℕ) (raw z : ℤ) → SFits w64 z → raw ≡ z → r ≡ above (to_z w64 (of_z w64 raw)) → r ≡ above z
request_is r raw z f e h = h ∙ rw (e, read_back z f.sfits)

pub affordable_steps-count-requires : goal.affordable_steps-count-requires
affordable_steps-count-requires c =
    let z = c.args.requested.0 in
    let f : SFits w64 z = search rules in
    let good = sym c.is_good.ensures ∙ c.if-not-is_good.false in
    (omega arith, steps-within z c.above.result c.above-unit.result f (request_is _ _ z f c.raw.ensures c.above.ensures), good)

pub overflow_mul-count : goal.overflow_mul-count
overflow_mul-count c =
    let z = c.args.requested.0 in
    let f : SFits w64 z = search rules in
    let u = c.above-unit.result in
    let most = steps-within z c.above.result u f (request_is _ _ z f c.raw.ensures c.above.ensures) in
    record { fits = omega (arith, fill_small _ (c.above.result / u) u c.affordable_steps-count.result most c.affordable_steps-count.ensures) }

pub overflow_cast-count : goal.overflow_cast-count
overflow_cast-count c =
    let z = c.args.requested.0 in
    let f : SFits w64 z = search rules in
    let u = c.above-unit.result in
    let most = steps-within z c.above.result u f (request_is _ _ z f c.raw.ensures c.above.ensures) in
    record { sfits = fill_small _ (c.above.result / u) u c.affordable_steps-count.result most c.affordable_steps-count.ensures }

pub returns : goal.returns
unfolding affordable
returns c =
    let z = c.args.requested.0 in
    let f : SFits w64 z = search rules in
    let u = c.above-unit.result in
    let n = c.affordable_steps-count in
    let cash = read_back c.args.cash c.ranges.cash.sfits in
    let price = read_back c.args.price c.ranges.price.sfits in
    let step = read_back c.args.step c.ranges.step.sfits in
    let some-cash = rw cash at c.if-cash-le0.false in
    let some-price = rw price at c.if-price-le0.false in
    let good = sym c.is_good.ensures ∙ c.if-not-is_good.false in
    let request = request_is _ _ z f c.raw.ensures c.above.ensures in
    let most = steps-within z c.above.result u f request in
    let small = fill_small _ (c.above.result / u) u n.result most n.ensures in
    simp (some-cash, some-price, good)
    (rw (c.from_raw.ensures, to_z_pos w64 _ small, n.ensures, request, c.above-unit.ensures, cash, price, step))
