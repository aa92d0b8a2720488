-- "An account missing at either end is left out of that part."
use Prim.Native.Nat.{ℕ, suc, ◌≤◌, ◌<◌}
use mathlib.Core.Path.{◌≡◌, refl, ap, ◌∙◌}
use mathlib.Core.Bool.{Bool, ◌&&◌, and-true}
use mathlib.Core.Logic.{inl, inr}
use lib.IntN.{ℤ, pos, ◌+ℤ◌, ◌-ℤ◌, +ℤ_idr}
use Rattle.house.specs.Group.{Equity, given, absent, Ends, Group, of_both, first_of, change_of, every, first_sum, summed_change, growth, account_change, in_i64, part_in_i64}
use Rattle.house.specs.House.{house_of_group}
use Rattle.house_laws.specs.Groups.{LeftOut, without, with_changes}
use Rattle.house_laws.proofs.Folds.{sums, tests, skipped, sum_of_zeros}
use Rattle.house_laws.proofs.Reports.{SameParts, SameTests, same-report}

-- it adds nothing to either sum
adds_nothing : (of : ℤ → ℤ → ℤ) (e : Ends) → LeftOut e → of_both of e.first e.last ≡ pos 0
adds_nothing of e (inl a) = rw a
adds_nothing of e (inr a) = ap (of_both of e.first) a ∙ no_last e.first
  where
    no_last : (f : Equity) → of_both of f absent ≡ pos 0
    no_last (given f) = refl
    no_last absent = refl

-- neither to the first sum nor to the summed change
pub left-out-first : (e : Ends) → LeftOut e → first_of e ≡ pos 0
left-out-first = adds_nothing (λ f l. f)

pub left-out-change : (e : Ends) → LeftOut e → change_of e ≡ pos 0
left-out-change = adds_nothing (λ f l. l -ℤ f)

adds_0 : (z : ℤ) → z ≡ pos 0 → (a : ℤ) → a +ℤ z ≡ a
adds_0 z e a = ap (λ z. a +ℤ z) e ∙ +ℤ_idr a

tests_nothing : (z : ℤ) → z ≡ pos 0 → (t : Bool) → t && in_i64 z ≡ t
tests_nothing z e t = ap (λ z. t && in_i64 z) e ∙ and-true t

-- ---- an account left out of a part, wherever it stands: the part is that of the group without it
module _ (n k : ℕ) (g : Group) (p : ℕ) (at : k ≤ n) (out : LeftOut (g p k)) where
  -- its first sum, its summed change and its growth
  pub without-first-sum : first_sum (suc n) g p ≡ first_sum n (without k g) p
  without-first-sum = skipped sums n k (λ a. first_of (g p a)) at (adds_0 _ (left-out-first (g p k) out) _)

  pub without-summed-change : summed_change (suc n) g p ≡ summed_change n (without k g) p
  without-summed-change = skipped sums n k (λ a. change_of (g p a)) at (adds_0 _ (left-out-change (g p k) out) _)

  pub without-growth : growth (suc n) g p ≡ growth n (without k g) p
  without-growth = rw (without-first-sum, without-summed-change)

  -- its accounts' changes are in i64 where the others' are, and so is all of it
  pub without-changes : every (suc n) (λ a. in_i64 (change_of (g p a))) ≡ every n (λ a. in_i64 (change_of (without k g p a)))
  without-changes = skipped tests n k (λ a. in_i64 (change_of (g p a))) at (tests_nothing _ (left-out-change (g p k) out) _)

  pub without_in_range : part_in_i64 (suc n) g p ≡ part_in_i64 n (without k g) p
  without_in_range = rw (without-changes, without-first-sum, without-summed-change)

-- ---- an account absent everywhere
-- "An account absent everywhere has change 0."
pub absent-change : (m : ℕ) (g : Group) (a : ℕ) → ((p : ℕ) → p < m → LeftOut (g p a)) → account_change m g a ≡ pos 0
absent-change m g a out = sum_of_zeros m (λ p. change_of (g p a)) (λ p l. left-out-change (g p a) (out p l))

-- The report is that of the group without it, but for the column of changes.
pub absent-report : (n m k : ℕ) (g : Group) → k ≤ n → ((p : ℕ) → p < m → LeftOut (g p k))
    → house_of_group n m (without k g) ≡ with_changes (house_of_group n m (without k g)).changes (house_of_group (suc n) m g)
absent-report n m k g at out = same-report parts same
  where
    parts : SameParts m (suc n) g n (without k g)
    parts = record { first = λ p l. without-first-sum n k g p at (out p l); change = λ p l. without-summed-change n k g p at (out p l) }

    same : SameTests m (suc n) g n (without k g)
    same =
        record {
          in_parts = λ p l. without-changes n k g p at (out p l);
          in_all = skipped tests n k (λ a. in_i64 (account_change m g a)) at (tests_nothing _ (absent-change m g k out) _);
        }
