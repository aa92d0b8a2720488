-- Sums, tests and products over the numbers below n are folds over a column, and a fold depends on nothing but what stands in it.
use Prim.Native.Nat.{ℕ, zero, suc, ◌≤◌, ◌<◌}
use mathlib.Core.Path.{◌≡◌, refl, sym, ap, ◌∙◌, subst}
use mathlib.Core.Bool.{Bool, true, false, ◌&&◌}
use mathlib.Core.List.{List, ◌∷◌, map, foldl}
use native.Mathlib.Omega.{arith}
use lib.Dec.{ltb}
use lib.IntN.{ℤ, pos, ◌+ℤ◌, +ℤ_assoc, +ℤ_comm}
use borrow.Author.Tests.{ltb-true, ltb-false, lt-ltb, le-ltb}
use Rattle.metrics.specs.Double.{one}
use Rattle.metrics.specs.Curve.{compounded}
use Rattle.order.specs.Running.{Perm, done, keep, swap, then}
use Rattle.order.proofs.Perms.{perm_map}
use Rattle.house.specs.Group.{sum_to, every, product_to}
use Rattle.house.specs.Places.{each}
use Rattle.house.proofs.Columns.{each_cong}
use Rattle.house_laws.specs.Groups.{skipping}

-- ---- columns
-- a function of the members is one of the places
pub each_map : {A B : Type 0} (n : ℕ) (f : A → B) (s : ℕ → A) → map f (each n s) ≡ each n (λ i. f (s i))
unfolding each
each_map zero f s = refl
each_map (suc n) f s = ap (λ l. f (s 0) ∷ l) (each_map n f (λ i. s (suc i)))

-- ---- all indices but one
skipping_below : (k i : ℕ) → i < k → skipping k i ≡ i
skipping_below k i h = rw (lt-ltb i k h)

skipping-above : (k i : ℕ) → k ≤ i → skipping k i ≡ suc i
skipping-above k i h = rw (le-ltb i k h)

-- ---- folds over columns
module _ {A B : Type 0} (op : A → B → A) where
  -- the last member may be taken off
  foldl_last : (a : A) (n : ℕ) (f : ℕ → B) → foldl op a (each (suc n) f) ≡ op (foldl op a (each n f)) (f n)
  unfolding each
  foldl_last a zero f = refl
  foldl_last a (suc n) f = foldl_last (op a (f 0)) n (λ i. f (suc i))

  -- where the order of two does not matter, no order does
  foldl_perm : ((a : A) (x y : B) → op (op a x) y ≡ op (op a y) x) → {l r : List B} → Perm B l r → (a : A) → foldl op a l ≡ foldl op a r
  foldl_perm c done a = refl
  foldl_perm c (keep {a = x} p) a = foldl_perm c p (op a x)
  foldl_perm c (swap {a = x} {b = y} {x = l}) a = ap (λ s. foldl op s l) (c a x y)
  foldl_perm c (then p q) a = foldl_perm c p a ∙ foldl_perm c q a

-- ---- what folds numbers below n, the last one last
pub record Fold {A B : Type 0} (op : A → B → A) (start : A) (F : ℕ → (ℕ → B) → A) : Type 0 where
  pub none : (f : ℕ → B) → F zero f ≡ start
  pub more : (n : ℕ) (f : ℕ → B) → F (suc n) f ≡ op (F n f) (f n)

-- sums, tests and products are such folds
pub sums : Fold ◌+ℤ◌ (pos 0) sum_to
unfolding sum_to
sums = record { none = λ f. refl; more = λ n f. refl }

pub tests : Fold ◌&&◌ true every
unfolding every
tests = record { none = λ f. refl; more = λ n f. refl }

pub products : Fold compounded one product_to
unfolding product_to
products = record { none = λ f. refl; more = λ n f. refl }

module _ {A B : Type 0} {op : A → B → A} {start : A} {F : ℕ → (ℕ → B) → A} (fold : Fold op start F) where
  -- it is the fold over the column
  pub listed : (n : ℕ) (f : ℕ → B) → F n f ≡ foldl op start (each n f)
  unfolding each
  listed zero f = fold.none f
  listed (suc n) f = fold.more n f ∙ ap (λ a. op a (f n)) (listed n f) ∙ sym (foldl_last op start n f)

  -- what is the same below n comes to the same
  pub cong : (n : ℕ) (f g : ℕ → B) → ((i : ℕ) → i < n → f i ≡ g i) → F n f ≡ F n g
  cong n f g e = listed n f ∙ ap (foldl op start) (each_cong n f g e) ∙ sym (listed n g)

  -- where the order of two does not matter, numbers each taken once come to the same in any order
  pub rearranged : ((a : A) (x y : B) → op (op a x) y ≡ op (op a y) x) → (n : ℕ) (s : ℕ → ℕ) → Perm ℕ (each n s) (each n (λ i. i)) → (f : ℕ → B) → F n (λ i. f (s i)) ≡ F n f
  rearranged c n s p f =
      listed n (λ i. f (s i))
      ∙ ap (foldl op start) (sym (each_map n f s))
      ∙ foldl_perm op c (perm_map f p) start
      ∙ ap (foldl op start) (each_map n f (λ i. i))
      ∙ sym (listed n f)

  -- the same of the last number
  skipped_last : (n k : ℕ) (f : ℕ → B) → k ≡ n → op (F k f) (f k) ≡ F k f → F (suc n) f ≡ F n (λ i. f (skipping k i))
  skipped_last n k f z e = fold.more n f ∙ subst (λ j. op (F j f) (f j) ≡ F j f) z e ∙ cong n f _ (λ i l. ap f (sym (skipping_below k i (omega arith))))

  -- a number that changes nothing where it stands may be left out
  pub skipped : (n k : ℕ) (f : ℕ → B) → k ≤ n → op (F k f) (f k) ≡ F k f → F (suc n) f ≡ F n (λ i. f (skipping k i))
  skipped zero k f h e = skipped_last zero k f (omega arith) e
  skipped (suc n) k f h e = go (ltb n k) refl (skipped n k f)
    where
      go : (t : Bool) → ltb n k ≡ t → (k ≤ n → op (F k f) (f k) ≡ F k f → F (suc n) f ≡ F n (λ i. f (skipping k i))) → F (suc (suc n)) f ≡ F (suc n) (λ i. f (skipping k i))
      go true l r = skipped_last (suc n) k f (omega (arith, ltb-true n k l)) e
      go false l r =
          fold.more (suc n) f
          ∙ ap (λ a. op a (f (suc n))) (r (ltb-false n k l) e)
          ∙ ap (λ j. op (F n (λ i. f (skipping k i))) (f j)) (sym (skipping-above k n (ltb-false n k l)))
          ∙ sym (fold.more n (λ i. f (skipping k i)))

-- ---- sums
-- two that are added may be exchanged
pub sum_exchange : (a x y : ℤ) → (a +ℤ x) +ℤ y ≡ (a +ℤ y) +ℤ x
sum_exchange a x y = +ℤ_assoc a x y ∙ ap (λ z. a +ℤ z) (+ℤ_comm x y) ∙ sym (+ℤ_assoc a y x)

-- nothing adds up to nothing
pub sum_of_zeros : (n : ℕ) (f : ℕ → ℤ) → ((i : ℕ) → i < n → f i ≡ pos 0) → sum_to n f ≡ pos 0
unfolding sum_to
sum_of_zeros zero f e = refl
sum_of_zeros (suc n) f e = simp (sum_of_zeros n f (λ i h. e i (omega arith)), e n (omega arith))

-- the sum of two columns is that of their sums
pub sum_of_sums : (n : ℕ) (f g : ℕ → ℤ) → sum_to n (λ i. f i +ℤ g i) ≡ sum_to n f +ℤ sum_to n g
unfolding sum_to
sum_of_sums zero f g = refl
sum_of_sums (suc n) f g = ap (λ z. z +ℤ (f n +ℤ g n)) (sum_of_sums n f g) ∙ paired (sum_to n f) (sum_to n g) (f n) (g n)
  where
    paired : (a b x y : ℤ) → (a +ℤ b) +ℤ (x +ℤ y) ≡ (a +ℤ x) +ℤ (b +ℤ y)
    paired a b x y = sym (+ℤ_assoc (a +ℤ b) x y) ∙ ap (λ z. z +ℤ y) (sum_exchange a b x) ∙ +ℤ_assoc (a +ℤ x) b y

-- the numbers of a table add up the same by rows and by columns
pub sum-swap : (n m : ℕ) (f : ℕ → ℕ → ℤ) → sum_to n (λ a. sum_to m (λ p. f p a)) ≡ sum_to m (λ p. sum_to n (f p))
unfolding sum_to
sum-swap zero m f = sym (sum_of_zeros m (λ p. pos 0) (λ p h. refl))
sum-swap (suc n) m f = ap (λ z. z +ℤ sum_to m (λ p. f p n)) (sum-swap n m f) ∙ sym (sum_of_sums m (λ p. sum_to n (f p)) (λ p. f p n))

-- ---- tests
-- a test of two and the test of each
pub and_both : (a b : Bool) → a ≡ true → b ≡ true → a && b ≡ true
and_both a b h g = rw (h, g)

-- two that are tested may be exchanged
pub test_exchange : (a x y : Bool) → (a && x) && y ≡ (a && y) && x
test_exchange true true true = refl
test_exchange true true false = refl
test_exchange true false true = refl
test_exchange true false false = refl
test_exchange false x y = refl
