-- The tested count lies between the ends: where it fits the lower one moves up to it, else the upper one moves below it, as no larger count fits.
use Rattle.std.proofs.Common.{◌≡◌, ℕ, ◌*◌, ◌^◌, ◌<◌, ◌≤◌, pos, sym, ap, ◌∙◌, inr, mul-le-mul_right, arith, w64, to_z, of_z}
use Rattle.sizing.specs.Afford.{fits, largest}
use Rattle.sizing.proofs.Bits.{read_back}
use Rattle.sizing.proofs.Search.{end_moves, largest_at}
use Rattle.sizing.proofs.Buys.{fits_falls}
use Rattle.sizing.proofs.affordable_steps.Goals as goal

-- a count of steps is at most as many micro-shares
part_small : (step most : ℕ) → most * step < 2 ^ 63 → (k : ℕ) → k ≤ most → k * step < 2 ^ 63
part_small step most small k h = omega (arith, mul-le-mul_right step h)

pub loop-lo-preserved-then-buy_cash_required-cash : goal.loop-lo-preserved-then-buy_cash_required-cash
unfolding fits
loop-lo-preserved-then-buy_cash_required-cash c =
    let i = c.loop-lo.invariant in
    let n = c.buy_cash_required in
    let small = part_small c.args.step c.args.most c.requires.1 c.probe-mid.result (omega arith) in
    record {
      ends = omega arith;
      within = i.within;
      low = inr (rw (read_back n.result n.type_inv, n.ensures, c.from_raw.ensures, read_back (pos _) small) at c.if-buy_cash_required-cash.true);
      high = i.high;
    }

pub loop-lo-preserved : goal.loop-lo-preserved
unfolding fits
loop-lo-preserved c =
    let i = c.loop-lo.invariant in
    let n = c.buy_cash_required in
    let a = c.args in
    let m = c.probe-mid.result in
    let small = part_small a.step a.most c.requires.1 m (omega arith) in
    let p = fits a.costs a.step (to_z w64 (of_z w64 a.cash)) (to_z w64 (of_z w64 a.price)) in
    let falls = fits_falls a.costs c.requires.2 a.step (to_z w64 (of_z w64 a.cash)) (to_z w64 (of_z w64 a.price)) in
    record {
      ends = omega arith;
      within = omega arith;
      low = i.low;
      high =
          end_moves p falls _ m (omega arith) (omega arith)
          (rw (read_back n.result n.type_inv, n.ensures, c.from_raw.ensures, read_back (pos _) small) at c.if-buy_cash_required-cash.false)
          ∙ i.high;
    }

pub returns : goal.returns
returns c =
    let i = rw (read_back c.args.cash c.ranges.cash.sfits, read_back c.args.price c.ranges.price.sfits) at c.loop-lo.invariant in
    let e : c.loop-lo.lo ≡ c.loop-lo.hi = omega arith in
    sym (largest_at _ _ i.low) ∙ ap (largest _) e ∙ i.high
