-- Orders added one at a time: to the columns, and to the list that the columns hold.
use Prim.Native.Nat.{ℕ, ◌+◌, ◌-◌, ◌≤◌, ◌<◌}
use mathlib.Core.Path.{◌≡◌, refl, sym, ap, ◌∙◌}
use mathlib.Core.Bool.{Bool, true, false}
use mathlib.Core.List.{List, [], ◌∷◌, ◌++◌}
use native.Mathlib.Omega.{arith}
use lib.IntN.{ℤ}
use lib.ListN.{length, take}
use lib.Ieee.{Float}
use Rattle.table.specs.Inner.Places.{shorter}
use Rattle.wanted.specs.declared.planned.PlannedOrder.{PlannedOrder}
use Rattle.table.specs.Rows.{is_zero}
use Rattle.table.proofs.Places.{shorter_below}
use Rattle.wanted.specs.Plan.{planned_close}
use Rattle.wanted.specs.Inner.Plan.{order_count_of}
use Rattle.wanted.proofs.Plans.{close-wanted}
use Rattle.admission.specs.Admission.{capped, added, added_all}
use Rattle.admission.specs.Inner.Admission.{most_of}
use Rattle.admission.specs.Inner.Columns.{PlanCols, plan_cols, FullPlan, from, plans, CountedPlan, counted_plan, added_to}
use Rattle.admission.proofs.Inserting.{added_none, added_lists}
use Rattle.admission.proofs.Kept.{added-length}
use Rattle.admission.proofs.Limited.{added-take, plans-take}
use Rattle.admission.proofs.Plans.{from_on, from_end}
use Rattle.account.specs.declared.settings.Settings.{Settings}
use Rattle.plan.specs.Inner.Adding.{kept_with, added_all_to, close_at, closes_at, target_at, targets_at}

-- ---- the loop over places: what is added so far, with the orders that are left added to it, is all
module _ (s : Settings) (f : ℕ → PlannedOrder) (all : CountedPlan) where
  pub adding_on : (m i : ℕ) (t u : CountedPlan) → i < m → u ≡ kept_with s (f i) t → added_all_to s (from f i (m - i)) t ≡ all → added_all_to s (from f (i + 1) (m - (i + 1))) u ≡ all
  unfolding added_all_to
  adding_on m i t u h g inv = ap (added_all_to s (from f (i + 1) (m - (i + 1)))) g ∙ rw (from_on f i m h) at inv

  pub adding_end : (m i : ℕ) (t : CountedPlan) → m ≤ i → added_all_to s (from f i (m - i)) t ≡ all → t ≡ all
  unfolding added_all_to
  adding_end m i t h inv = rw (from_end f i m h) at inv

-- the count kept after one order more
pub kept_with_lem : (s : Settings) (o : PlannedOrder) (t : CountedPlan) (n m r : ℕ) (c : PlanCols) → counted_plan n c ≡ added_to (capped s) o t → m ≡ most_of s → r ≡ shorter n m → counted_plan r c ≡ kept_with s o t
kept_with_lem s o t n m r c e g h = rw (h, g) (ap (λ u. counted_plan (shorter u.count (most_of s)) u.columns) e)

pub counted_same : {n m : ℕ} {k l : List ℕ} {q r p v : List ℤ} {d e : List Float} → n ≡ m → k ≡ l → q ≡ r → p ≡ v → d ≡ e → counted_plan n (plan_cols k q p d) ≡ counted_plan m (plan_cols l r v e)
counted_same a b g h i = cc

-- a holding that is a target asks for an order of nothing
pub wanted-none : (s : Settings) (equity : ℤ) (k : ℕ) (q p : ℤ) (wanted : Bool) → wanted ≡ true → is_zero (planned_close s equity k q p wanted).quantity.0 ≡ true
unfolding is_zero
wanted-none s equity k q p wanted e = rw (e, close-wanted s equity k q p)

pub closes_start : (s : Settings) (equity : ℤ) (price : ℕ → ℤ) (targets : List ℕ) (n m : ℕ) (ks : List ℕ) (qs : List ℤ) (t : CountedPlan) → m ≡ shorter n 64
    → added_all_to s (from (close_at s equity price targets ks qs) 0 (m - 0)) t ≡ added_all_to s (closes_at s equity price targets n ks qs) t
unfolding closes_at
closes_start s equity price targets n m ks qs t h = let e : m - 0 ≡ m = omega arith in rw (sym h) (rw e)

pub targets_start : (s : Settings) (equity : ℤ) (price : ℕ → ℤ) (ks : List ℕ) (qs : List ℤ) (targets : List ℕ) (weights : List Float) (m : ℕ) (t : CountedPlan) → m ≡ shorter (length targets) (length weights)
    → added_all_to s (from (target_at s equity price ks qs targets weights) 0 (m - 0)) t ≡ added_all_to s (targets_at s equity price ks qs targets weights) t
unfolding targets_at
targets_start s equity price ks qs targets weights m t h = let e : m - 0 ≡ m = omega arith in rw (sym h) (rw e)

-- ---- the list that the columns hold
module _ (o : PlannedOrder) (os : List PlannedOrder) where
  count_none : is_zero o.quantity.0 ≡ true → order_count_of (o ∷ os) ≡ order_count_of os
  unfolding order_count_of
  count_none e = simp e

  count_some : is_zero o.quantity.0 ≡ false → order_count_of (o ∷ os) ≡ order_count_of os + 1
  unfolding order_count_of
  count_some e = simp e

one_more : (s : Settings) (o : PlannedOrder) (os : List PlannedOrder) (n : ℕ) (c : PlanCols) → FullPlan c → n + order_count_of (o ∷ os) ≤ 64 → (added_to (capped s) o (counted_plan n c)).count + order_count_of os ≤ n + order_count_of (o ∷ os)
one_more s o os n c f h = go (is_zero o.quantity.0) refl
  where
    go : (z : Bool) → is_zero o.quantity.0 ≡ z → (added_to (capped s) o (counted_plan n c)).count + order_count_of os ≤ n + order_count_of (o ∷ os)
    go true e = rw (added_none o (capped s) (counted_plan n c) e) (omega (arith, count_none o os e))
    go false e = omega (arith, (added_lists n o c s f (λ z. omega (arith, h, count_some o os e))).at_most_one, count_some o os e)

-- the list grows by the orders that are of something
pub added-few : (s : Settings) (os l : List PlannedOrder) → length (added_all s os l) ≤ length l + order_count_of os
unfolding added_all
added-few s [] l = omega arith
added-few s (o ∷ os) l = go (is_zero o.quantity.0) refl (added-few s os (added s o l))
  where
    go : (z : Bool) → is_zero o.quantity.0 ≡ z → length (added_all s os (added s o l)) ≤ length (added s o l) + order_count_of os → length (added_all s os (added s o l)) ≤ length l + order_count_of (o ∷ os)
    go true e h = omega (arith, h, rw e at (added-length s o l), count_none o os e)
    go false e h = omega (arith, h, rw e at (added-length s o l), count_some o os e)

-- the columns of u hold the first of the plan l with the orders added, and are full
pub record Added (s : Settings) (os : List PlannedOrder) (n : ℕ) (l : List PlannedOrder) (u : CountedPlan) : Type 0 where
  pub full : FullPlan u.columns
  pub most : u.count ≤ n + order_count_of os
  pub same : plans u.count u.columns ≡ take (most_of s) (added_all s os l)

pub all_lists : (s : Settings) (os : List PlannedOrder) (n : ℕ) (c : PlanCols) (l : List PlannedOrder) → FullPlan c → n + order_count_of os ≤ 64 → plans n c ≡ take (most_of s) l → Added s os n l (added_all_to s os (counted_plan n c))
unfolding added_all_to added_all
all_lists s [] n c l f h e = record { full = f; most = omega arith; same = e }
all_lists s (o ∷ os) n c l f h e =
    let a = added_lists n o c s f (λ z. omega (arith, h, count_some o os z)) in
    let t = added_to (capped s) o (counted_plan n c) in
    let k = shorter t.count (most_of s) in
    let b = one_more s o os n c f h in
    let d = shorter_below t.count (most_of s) in
    let r = all_lists s os k t.columns (added s o l) a.full (omega (arith, b, d, h))
    (plans-take t.count (most_of s) t.columns a.full (omega (arith, b, h)) ∙ ap (take (most_of s)) (a.same ∙ ap (added s o) e) ∙ sym (added-take s o (most_of s) l)) in
    record { full = r.full; most = omega (arith, r.most, b, d); same = r.same }

pub added-append : (s : Settings) (os rs : List PlannedOrder) (t : CountedPlan) → added_all_to s (os ++ rs) t ≡ added_all_to s rs (added_all_to s os t)
unfolding added_all_to
added-append s [] rs t = refl
added-append s (o ∷ os) rs t = added-append s os rs (kept_with s o t)
