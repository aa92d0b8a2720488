-- What one place more adds to each sum.
use Prim.Native.Nat.{◌≤◌, ◌<◌}
use mathlib.Core.Path.{refl, sym, ap, ◌∙◌}
use native.Mathlib.Omega.{arith}
use lib.IntN.{pos}
use lib.ListN.{length, get_or}
use mir.Syntax.{w64}
use mir.Val.{SFits}
use mir.Facts.{to_z-of_z}
use borrow.Author.Rules.{rules}
use Rattle.sums.specs.Sums.{sat_add}
use Rattle.table.specs.Rows.{is_zero, cols, rows}
use Rattle.account.proofs.Holdings.{place_holds}
use Rattle.account.proofs.Columns.{rows-length}
use Rattle.queries.proofs.Walks.{worth_on, worth-end, profit_on, profit-end, open_on, open_end, one-most}
use Rattle.queries.proofs.sum.summed.Goals as goal

pub loop-i-init : goal.loop-i-init
loop-i-init c = (omega arith, λ listed e. refl, omega arith, refl)

pub overflow_add-open_count : goal.overflow_add-open_count
overflow_add-open_count c =
    let one : c.open_one-open_count.result ≤ 1 = rw c.open_one-open_count.ensures (one-most (is_zero c.held-p.result.quantity.0)) in
    omega (arith, one, c.requires.small)

pub loop-i-preserved : goal.loop-i-preserved
loop-i-preserved c =
    let x = c.args in
    let l = c.loop-i in
    let t = x.columns.now in
    let ps = rows x.n t in
    let ls = x.price.now in
    let one : c.open_one-open_count.result ≤ 1 = rw c.open_one-open_count.ensures (one-most (is_zero c.held-p.result.quantity.0)) in
    let k : l.i < length ps = omega (arith, rows-length t c.requires.full x.n c.requires.small) in
    let h = c.held-p.result in
    let p = c.held-p.ensures ∙ place_holds x.n l.i t c.requires (omega arith) in
    let fg : SFits w64 c.saturating_add-profit.result = search rules in
    let fw : SFits w64 c.saturating_add-worth.result = search rules in
    let fv : SFits w64 c.value-v.result = search rules in
    let fq : SFits w64 c.raw.result = search rules in
    let fr : SFits w64 h.realized_pnl = search rules in
    let fp : SFits w64 (get_or ls l.i (pos 0)) = search rules in
    let ev = simp (to_z-of_z fq ∙ c.raw.ensures, to_z-of_z fp) at c.value-v.ensures in
    let ew = (simp (to_z-of_z fv) at c.saturating_add-worth.ensures) ∙ ap (sat_add _) ev in
    let eg = simp (to_z-of_z fr) at c.saturating_add-profit.ensures in (
      omega (arith, one),
      λ listed e. simp (to_z-of_z fw) (rw ew (worth_on ps ls l.i k h p listed _ e ∙ l.invariant.1 listed e)),
      omega (arith, c.open_one-open_count.ensures, open_on ps ls l.i k h p, l.invariant.2),
      simp (to_z-of_z fg) (rw eg (profit_on ps ls l.i k h p _ ∙ l.invariant.3)),
    )

pub returns : goal.returns
returns c =
    let x = c.args in
    let l = c.loop-i in
    let t = x.columns.now in
    let ps = rows x.n t in
    let k : length ps ≤ l.i = omega (arith, rows-length t c.requires.full x.n c.requires.small) in
    record {
      worth = λ listed e. sym (worth-end ps l.i k listed _) ∙ l.invariant.1 listed e;
      opens = omega (arith, open_end ps l.i k, l.invariant.2);
      profit = sym (profit-end ps l.i k _) ∙ l.invariant.3;
    }
