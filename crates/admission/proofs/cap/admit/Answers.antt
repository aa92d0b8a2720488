-- What the caps make of an order goes by the quantities as they were found: only the last is written.
use Prim.Native.Nat.{ℕ, ◌+◌}
use mathlib.Core.Path.{◌≡◌, refl, sym, ap, ◌∙◌}
use mathlib.Core.List.{List}
use native.Mathlib.Omega.{arith}
use lib.IntN.{ℤ, pos}
use lib.ListN.{get_or, set}
use mir.Syntax.{w64}
use mir.Val.{SFits, to_z, of_z}
use mir.Facts.{to_z-of_z}
use borrow.Author.Rules.{rules}
use Rattle.table.proofs.Places.{shorter-within}
use Rattle.position.specs.Rows.{shares}
use Rattle.position.specs.declared.shares.Shares.{Shares}
use Rattle.account.specs.declared.settings.Settings.{Settings}
use Rattle.admission.specs.declared.cap.Offered.{Offered}
use Rattle.admission.specs.Inner.Columns.{plan_cols, order_at, from, counted_plan}
use Rattle.admission.specs.Inner.Offers.{offered}
use Rattle.admission.proofs.Admitting.{admit_start, admit_on, admit_ends, admit_part, admit_all, cut_whole, cut_part}
use Rattle.admission.proofs.cap.admit.Goals as goal

-- the offer at a place, by the columns as they were found
offer-is : (s : Settings) (i : ℕ) (left : ℤ) (q q₀ p : List ℤ) (v : Shares) (r : Offered)
    → SFits w64 (get_or q i (pos 0)) → SFits w64 (get_or p i (pos 0)) → q ≡ q₀ → v ≡ shares (to_z w64 (of_z w64 (get_or q i (pos 0))))
    → r ≡ offered s i left v.0 (to_z w64 (of_z w64 (get_or p i (pos 0)))) → offered s i left (get_or q₀ i (pos 0)) (get_or p i (pos 0)) ≡ r
offer-is s i left q q₀ p v r x y e hv hr =
    ap (λ z. offered s i left (get_or z i (pos 0)) (get_or p i (pos 0))) (sym e) ∙ sym (simp (hv, to_z-of_z x, to_z-of_z y) at hr)

pub loop-i-init : goal.loop-i-init
loop-i-init c =
    let a = c.args in
    let u = c.used-m in
    let most : SFits w64 a.s.max_rebalance_notional = search rules in (
      omega arith,
      omega (arith, u.ensures, shorter-within a.n 64),
      c.told-quantity,
      refl,
      λ k d. simp (to_z-of_z most) (admit_start a.s a.n u.result (plan_cols k a.quantity.now a.price.now d) u.ensures),
    )

pub returns-in-Part : goal.returns-in-Part
returns-in-Part c =
    let a = c.args in
    let l = c.loop-i in
    let i = l.i in
    let x : SFits w64 (get_or l.quantity i (pos 0)) = search rules in
    let y : SFits w64 (get_or a.price.now i (pos 0)) = search rules in
    let left = to_z w64 l.left-bits in
    let told = offer-is a.s i left l.quantity a.quantity.now a.price.now c.from_raw.result c.offer.result x y l.invariant.3 c.from_raw.ensures c.offer.ensures in
    let w : SFits w64 c.raw.result = search rules in
    λ k e.
    ap (λ q. counted_plan (i + 1) (plan_cols k (set q i (to_z w64 (of_z w64 c.raw.result))) a.price.now e)) l.invariant.3
    ∙ ap (λ z. counted_plan (i + 1) (plan_cols k (set a.quantity.now i z) a.price.now e)) (to_z-of_z w ∙ c.raw.ensures)
    ∙ cut_part a.s a.n k a.quantity.now a.price.now e i l.invariant.2 c.in-Part.cut.0 (omega arith)
    (admit_part a.s a.n c.used-m.result i left (order_at (plan_cols k a.quantity.now a.price.now e)) _ c.loop-i-test.true (l.invariant.4 k e) c.in-Part.cut
    (told ∙ c.in-Part.is))

pub returns-in-Ends : goal.returns-in-Ends
returns-in-Ends c =
    let a = c.args in
    let l = c.loop-i in
    let i = l.i in
    let x : SFits w64 (get_or l.quantity i (pos 0)) = search rules in
    let y : SFits w64 (get_or a.price.now i (pos 0)) = search rules in
    let left = to_z w64 l.left-bits in
    let told = offer-is a.s i left l.quantity a.quantity.now a.price.now c.from_raw.result c.offer.result x y l.invariant.3 c.from_raw.ensures c.offer.ensures in
    λ k e.
    ap (λ q. counted_plan i (plan_cols k q a.price.now e)) l.invariant.3
    ∙ cut_whole a.s a.n k a.quantity.now a.price.now e i l.invariant.2 (omega arith)
    (admit_ends a.s a.n c.used-m.result i left (order_at (plan_cols k a.quantity.now a.price.now e)) _ c.loop-i-test.true (l.invariant.4 k e) (told ∙ c.in-Ends.is))

pub loop-i-preserved : goal.loop-i-preserved
loop-i-preserved c =
    let a = c.args in
    let l = c.loop-i in
    let i = l.i in
    let x : SFits w64 (get_or l.quantity i (pos 0)) = search rules in
    let y : SFits w64 (get_or a.price.now i (pos 0)) = search rules in
    let left = to_z w64 l.left-bits in
    let told = offer-is a.s i left l.quantity a.quantity.now a.price.now c.from_raw.result c.offer.result x y l.invariant.3 c.from_raw.ensures c.offer.ensures in
    let rest : SFits w64 c.in-Whole.rest = search rules in (
      omega arith,
      l.invariant.1,
      l.invariant.2,
      l.invariant.3,
      λ k e.
          simp (to_z-of_z rest)
          (admit_on a.s a.n c.used-m.result i left (order_at (plan_cols k a.quantity.now a.price.now e)) _ c.loop-i-test.true (l.invariant.4 k e) c.in-Whole.rest
          (told ∙ c.in-Whole.is)),
    )

pub returns : goal.returns
returns c =
    let a = c.args in
    let l = c.loop-i in
    let m = c.used-m.result in
    let z : m ≡ l.i = omega arith in
    λ k e.
    ap (λ q. counted_plan m (plan_cols k q a.price.now e)) l.invariant.3
    ∙ cut_whole a.s a.n k a.quantity.now a.price.now e m l.invariant.2 l.invariant.1
    (ap (from (order_at (plan_cols k a.quantity.now a.price.now e)) 0) z
    ∙ admit_all a.s m l.i (to_z w64 l.left-bits) (order_at (plan_cols k a.quantity.now a.price.now e)) _ c.loop-i-test.false (l.invariant.4 k e))
