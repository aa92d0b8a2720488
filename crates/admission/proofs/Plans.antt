-- Laws of what stands at the places of a plan.
use Prim.Native.Nat.{ℕ, zero, suc, ◌+◌, ◌-◌, ◌≤◌, ◌<◌}
use mathlib.Core.Path.{◌≡◌, refl, ap, ◌∙◌}
use mathlib.Core.Bool.{Bool, true, false}
use mathlib.Core.List.{[], ◌∷◌, ◌++◌}
use native.Mathlib.Omega.{arith}
use native.Mathlib.Numerals.{add-one}
use lib.Dec.{ltb}
use lib.ListN.{length}
use borrow.Author.Tests.{ltb-true, ltb-false}
use Rattle.table.specs.Inner.Places.{shorter}
pub use Rattle.table.proofs.Places.{shorter-same}
use Rattle.wanted.specs.declared.planned.PlannedOrder.{PlannedOrder}
use Rattle.admission.specs.Inner.Columns.{PlanCols, order_at, from, plans, place_of}

-- ---- what stands from a place on
module _ {A : Type 0} (f : ℕ → A) where
  pub from_on : (i m : ℕ) → i < m → from f i (m - i) ≡ f i ∷ from f (i + 1) (m - (i + 1))
  from_on i m h = let e : m - i ≡ suc (m - (i + 1)) = omega arith in rw e (rw add-one)

  pub from_end : (i m : ℕ) → m ≤ i → from f i (m - i) ≡ []
  from_end i m h = let e : m - i ≡ 0 = omega arith in rw e

  pub from-length : (i k : ℕ) → length (from f i k) ≡ k
  from-length i zero = refl
  from-length i (suc k) = ap suc (from-length (suc i) k)

  pub from_last : (i k : ℕ) → from f i (suc k) ≡ from f i k ++ (f (i + k) ∷ [])
  from_last i zero = let e : i + 0 ≡ i = omega arith in rw e
  from_last i (suc k) = let e : i + suc k ≡ suc i + k = omega arith in rw e (ap (λ t. f i ∷ t) (from_last (suc i) k))

  pub from-same : (g : ℕ → A) (i k : ℕ) → ((j : ℕ) → j < i + k → f j ≡ g j) → from f i k ≡ from g i k
  from-same g i zero h = refl
  from-same g i (suc k) h =
      let a : f i ≡ g i = h i (omega arith) in
      let b : from f (suc i) k ≡ from g (suc i) k = from-same g (suc i) k (λ j l. h j (omega arith)) in
      cc

pub plans_start : (n m : ℕ) (c : PlanCols) → m ≡ shorter n 64 → plans n c ≡ from (order_at c) 0 m
unfolding plans
plans_start n m c h = rw h

pub plans-few : (n : ℕ) (c : PlanCols) → n ≤ 64 → plans n c ≡ from (order_at c) 0 n
unfolding plans
plans-few n c h = rw (shorter-same n 64 h)

pub plans-length : (n : ℕ) (c : PlanCols) → length (plans n c) ≡ shorter n 64
unfolding plans
plans-length n c = from-length (order_at c) 0 (shorter n 64)

pub plans-next : (i : ℕ) (c : PlanCols) → i < 64 → plans (i + 1) c ≡ plans i c ++ (order_at c i ∷ [])
plans-next i c h =
    let e : 0 + i ≡ i = omega arith in
    plans-few (i + 1) c (omega arith) ∙ ap (from (order_at c) 0) (add-one i) ∙ rw (plans-few i c (omega arith)) (rw e at (from_last (order_at c) 0 i))

-- ---- the first place of which a test holds: it fails before place i, and holds there
module _ (test : PlannedOrder → Bool) (f : ℕ → PlannedOrder) (i : ℕ) (fails : (j : ℕ) → j < i → test (f j) ≡ false) where
  place_from : (b k : ℕ) → b ≤ i → i ≤ b + k → (i < b + k → test (f i) ≡ true) → b + place_of test (from f b k) ≡ i
  place_from b zero l m holds = omega arith
  place_from b (suc k) l m holds = go (ltb b i) refl (λ h. place_from (suc b) k (omega arith) (omega arith) (λ q. holds (omega arith)))
    where
      go : (t : Bool) → ltb b i ≡ t → (b < i → suc b + place_of test (from f (suc b) k) ≡ i) → b + place_of test (from f b (suc k)) ≡ i
      go true e later =
          let h : b < i = ltb-true b i e in
          rw (fails b h) (omega (arith, later h))
      go false e later =
          let z : i ≡ b = omega (arith, ltb-false b i e) in
          let here : test (f b) ≡ true = rw z at (holds (omega arith)) in
          rw here (omega arith)

  pub place_is : (m : ℕ) → i ≤ m → (i < m → test (f i) ≡ true) → i ≡ place_of test (from f 0 m)
  place_is m h holds = omega (arith, place_from 0 m (omega arith) (omega arith) (λ q. holds (omega arith)))
