-- "the figure doesn't depend on what stands behind marks of absence, nor on the order of accounts": the report of the same accounts in another order.
use Prim.Native.Nat.{ℕ, ◌<◌}
use mathlib.Core.Path.{◌≡◌, sym, ap, ◌∙◌, subst₂}
use mathlib.Core.List.{List}
use lib.IntN.{ℤ}
use lib.ListN.{length}
use Rattle.order.specs.Running.{Perm}
use Rattle.order.proofs.Perms.{perm_map}
use Rattle.house.specs.Group.{Group, first_of, change_of, first_sum, summed_change, growth, figure, account_change, group_change, in_i64}
use Rattle.house.specs.Places.{each, group_in, good_marks}
use Rattle.house.specs.House.{early_answer, group_answer, house_of_group, house_of}
use Rattle.house_laws.specs.Groups.{Rearranged, with_changes}
use Rattle.house.proofs.Columns.{each_cong}
use Rattle.house_laws.proofs.Folds.{Fold, sums, tests, cong, rearranged, each_map, sum_exchange, test_exchange}
use Rattle.house_laws.proofs.Reports.{SameParts, SameTests, but_changes, same-growth, same-figure, same_group_change, same_answer, same-report}

module _ {n m : ℕ} {g h : Group} (r : Rearranged n m g h) where
  -- what goes with the accounts comes to the same
  moved : {A B : Type 0} {op : A → B → A} {start : A} {F : ℕ → (ℕ → B) → A} → Fold op start F → ((a : A) (x y : B) → op (op a x) y ≡ op (op a y) x)
      → (u v : ℕ → B) → ((a : ℕ) → a < n → v a ≡ u (r.from a)) → F n u ≡ F n v
  moved fold c u v e = sym (cong fold n v (λ a. u (r.from a)) e ∙ rearranged fold c n r.from r.each-once u)

  -- ---- each part
  -- its first sum, summed change and growth are the same
  pub order-first-sum : (p : ℕ) → p < m → first_sum n g p ≡ first_sum n h p
  order-first-sum p k = moved sums sum_exchange _ _ (λ a l. ap first_of (r.same p a k l))

  pub order-summed-change : (p : ℕ) → p < m → summed_change n g p ≡ summed_change n h p
  order-summed-change p k = moved sums sum_exchange _ _ (λ a l. ap change_of (r.same p a k l))

  same_parts : SameParts m n g n h
  same_parts = record { first = order-first-sum; change = order-summed-change }

  pub order-growth : (p : ℕ) → p < m → growth n g p ≡ growth n h p
  order-growth = same-growth same_parts

  -- ---- each account
  -- "each account's change, defined over its own parts alone" goes with the account
  pub order-account-change : (a : ℕ) → a < n → account_change m h a ≡ account_change m g (r.from a)
  order-account-change a l = cong sums m _ _ (λ p k. ap change_of (r.same p a k l))

  -- so the changes are the same numbers, each as often
  pub order-account-changes : Perm ℤ (each n (account_change m h)) (each n (account_change m g))
  order-account-changes =
      subst₂ (Perm ℤ) (each_map n (account_change m g) r.from ∙ sym (each_cong n _ _ order-account-change)) (each_map n (account_change m g) (λ a. a))
      (perm_map (account_change m g) r.each-once)

  same_tests : SameTests m n g n h
  same_tests =
      record {
        in_parts = λ p k. moved tests test_exchange _ _ (λ a l. ap (λ e. in_i64 (change_of e)) (r.same p a k l));
        in_all = moved tests test_exchange _ _ (λ a l. ap in_i64 (order-account-change a l));
      }

  -- ---- the group
  -- its change, its figure and its answer are the same
  pub order_group_change : group_change n m g ≡ group_change n m h
  order_group_change = same_group_change same_parts

  pub order-figure : figure n m g ≡ figure n m h
  order-figure = same-figure same_parts

  pub order-answer : group_answer n m g ≡ group_answer n m h
  order-answer = same_answer same_parts same_tests

  -- all of the report but its column of changes
  pub order-report : house_of_group n m h ≡ with_changes (house_of_group n m h).changes (house_of_group n m g)
  order-report = same-report same_parts same_tests

-- the report of lists that hold the accounts in either order
pub order_in_lists : (n m : ℕ) (marks marks' : List ℕ) (es fs : List ℤ) → length marks ≡ length marks' → length es ≡ length fs → good_marks marks ≡ good_marks marks'
    → Rearranged n m (group_in n marks es) (group_in n marks' fs) → house_of n m marks' fs ≡ with_changes (house_of n m marks' fs).changes (house_of n m marks es)
unfolding house_of
order_in_lists n m marks marks' es fs k l e r =
    but_changes (early_answer n m marks es) (early_answer n m marks' fs) (house_of_group n m (group_in n marks es)) (house_of_group n m (group_in n marks' fs)) (rw (e, k, l)) (order-report r)
