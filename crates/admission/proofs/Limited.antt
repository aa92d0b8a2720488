-- A plan cut to the most that its trade cap can admit: what is added beyond, and what is cut, is never admitted.
use Prim.Native.Nat.{ℕ, zero, suc, ◌+◌, ◌≤◌}
use mathlib.Core.Path.{◌≡◌, refl, sym, ap, ◌∙◌}
use mathlib.Core.Bool.{Bool, true, false}
use mathlib.Core.List.{List, [], ◌∷◌, ◌++◌}
use native.Mathlib.Omega.{arith}
use lib.Dec.{ltb}
use lib.IntN.{ℤ, ◌-ℤ◌}
use lib.ListN.{length, take}
use lib.Seq.{take_all, take-take}
use borrow.Author.Tests.{ltb-true, ltb-false, le-leb}
use Rattle.table.specs.Keyed.{pick}
use Rattle.table.specs.Inner.Places.{shorter}
use Rattle.table.specs.Rows.{is_zero}
use Rattle.table.proofs.Places.{shorter_below}
use Rattle.account.specs.declared.settings.Settings.{Settings}
use Rattle.account.specs.declared.settings.TradeCap.{TradeCap}
use Rattle.account.specs.declared.settings.TradeCap.TheVariants.{Absent, AtMost}
use Rattle.wanted.specs.declared.planned.PlannedOrder.{PlannedOrder}
use Rattle.admission.specs.Admission.{capped, drawn_before, insert_by, added, reached, notional_of, admitted_from, admitted}
use Rattle.admission.specs.Inner.Admission.{most_in, most_of}
use Rattle.admission.specs.Inner.Columns.{PlanCols, FullPlan, plans}
use Rattle.admission.proofs.Plans.{plans-length}
use Rattle.admission.proofs.Inserting.{zipped_plan, plans-zipped}

-- ---- what stands past the first k decides none of the first k of the plan with one order more
head_take : (k : ℕ) (x : PlannedOrder) (l : List PlannedOrder) → take k (x ∷ l) ≡ take k (x ∷ take k l)
head_take zero x l = refl
head_take (suc k) x l = ap (λ t. x ∷ t) (sym (take-take k (suc k) l (omega arith)))

insert_take : (first : PlannedOrder → PlannedOrder → Bool) (o : PlannedOrder) (k : ℕ) (l : List PlannedOrder) → take k (insert_by first o l) ≡ take k (insert_by first o (take k l))
unfolding insert_by
insert_take first o zero l = refl
insert_take first o (suc k) [] = refl
insert_take first o (suc k) (x ∷ l) = go (first o x) (insert_take first o k l)
  where
    go : (b : Bool) → take k (insert_by first o l) ≡ take k (insert_by first o (take k l))
        → take (suc k) (pick b (o ∷ (x ∷ l)) (x ∷ insert_by first o l)) ≡ take (suc k) (pick b (o ∷ (x ∷ take k l)) (x ∷ insert_by first o (take k l)))
    go true e = ap (λ t. o ∷ t) (head_take k x l)
    go false e = ap (λ t. x ∷ t) e

append-take : (o : PlannedOrder) (k : ℕ) (l : List PlannedOrder) → take k (l ++ (o ∷ [])) ≡ take k (take k l ++ (o ∷ []))
append-take o zero l = refl
append-take o (suc k) [] = refl
append-take o (suc k) (x ∷ l) = ap (λ t. x ∷ t) (append-take o k l)

pub added-take : (s : Settings) (o : PlannedOrder) (k : ℕ) (l : List PlannedOrder) → take k (added s o l) ≡ take k (added s o (take k l))
unfolding added
added-take s o k l = go (is_zero o.quantity.0) (capped s)
  where
    go : (z b : Bool) → take k (pick z l (pick b (insert_by drawn_before o l) (l ++ (o ∷ [])))) ≡ take k (pick z (take k l) (pick b (insert_by drawn_before o (take k l)) (take k l ++ (o ∷ []))))
    go true b = sym (take-take k k l (omega arith))
    go false true = insert_take drawn_before o k l
    go false false = append-take o k l

-- the first k orders of the columns
pub plans-take : (n k : ℕ) (c : PlanCols) → FullPlan c → n ≤ 64 → plans (shorter n k) c ≡ take k (plans n c)
plans-take n k c f h = go (ltb n k) refl
  where
    go : (b : Bool) → ltb n k ≡ b → plans (pick b n k) c ≡ take k (plans n c)
    go true e = sym (take_all k (plans n c) (omega (arith, ltb-true n k e, plans-length n c, shorter_below n 64)))
    go false e =
        let l : k ≤ n = ltb-false n k e in
        plans-zipped c f k (omega (arith, l, h)) ∙ sym (take-take k n (zipped_plan c) l) ∙ ap (take k) (sym (plans-zipped c f n h))

-- ---- none past the trade cap is admitted
from-take : (s : Settings) (k n : ℕ) (left : ℤ) (l : List PlannedOrder) → reached s.max_trades_per_rebalance (n + k) ≡ true → admitted_from s n left (take k l) ≡ admitted_from s n left l
unfolding admitted_from
from-take s k n left [] h = ap (admitted_from s n left) (take_all k [] (omega arith))
from-take s zero n left (o ∷ l) h =
    let e : n + 0 ≡ n = omega arith in
    rw (rw e at h)
from-take s (suc k) n left (o ∷ l) h =
    let e : n + suc k ≡ (n + 1) + k = omega arith in
    let g : reached s.max_trades_per_rebalance ((n + 1) + k) ≡ true = rw e at h in
    rw (from-take s k (n + 1) left l g, from-take s k (n + 1) (left -ℤ notional_of o) l g)

pub admitted-take : (s : Settings) (l : List PlannedOrder) → length l ≤ 64 → admitted s (take (most_of s) l) ≡ admitted s l
unfolding most_of admitted
admitted-take s l h = go s.max_trades_per_rebalance refl
  where
    whole : admitted_from s 0 s.max_rebalance_notional (take 64 l) ≡ admitted_from s 0 s.max_rebalance_notional l
    whole = ap (admitted_from s 0 s.max_rebalance_notional) (take_all 64 l h)

    few : (n : ℕ) (b : Bool) → s.max_trades_per_rebalance ≡ AtMost n → admitted_from s 0 s.max_rebalance_notional (take (pick b n 64) l) ≡ admitted_from s 0 s.max_rebalance_notional l
    few n true e = from-take s n 0 s.max_rebalance_notional l (ap (λ c. reached c (0 + n)) e ∙ le-leb n (0 + n) (omega arith))
    few n false e = whole

    go : (c : TradeCap) → s.max_trades_per_rebalance ≡ c → admitted_from s 0 s.max_rebalance_notional (take (most_in c) l) ≡ admitted_from s 0 s.max_rebalance_notional l
    go Absent e = whole
    go (AtMost n) e = few n (ltb n 64) e
