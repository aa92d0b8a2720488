-- The test for ordered columns and the fact that it tells.
use Prim.Native.Nat.{ℕ, zero, suc, ◌+◌, ◌-◌, ◌<◌}
use mathlib.Core.Path.{◌≡◌, refl, sym, ap, ◌∙◌}
use mathlib.Core.List.{List, [], ◌∷◌}
use mathlib.Core.Bool.{Bool, true}
use native.Mathlib.Omega.{arith}
use lib.Dec.{eqb, leb}
use lib.IntN.{ℤ, pos, negsuc}
use Rattle.std.specs.Ordering.{int_eq}
use lib.ListN.{length, take, drop, get_or, replicate, length-drop, length-replicate, get_or-replicate}
use lib.Seq.{ext_get_or, get_or-drop}
use borrow.Author.Tests.{eqb-true, leb-true, le-leb}
use Rattle.std.proofs.lemmas.Bool.Decides.{nat_tests}
use Rattle.position.specs.Rows.{fresh, key_of}
use Rattle.position.specs.declared.position.Position.{Position}
use Rattle.position.proofs.Counts.{zero_is}
use Rattle.table.specs.Keyed.{all}
use Rattle.table.specs.Rows.{zipped, row_at, Full, is_zero, zeros_z, unused, ordered}
use Rattle.table.specs.declared.table.Columns.{Columns}
use Rattle.table.specs.Inner.Rows.{Ordered}
use Rattle.table.proofs.Keyed.{both_true, ascending_rises, rising_ascends}
use Rattle.table.proofs.Zipped.{zipped-length, zipped_at}

-- ---- a test of every element
module _ {A : Type 0} (f : A → Bool) (z : A) where
  pub all_at : f z ≡ true → (l : List A) → all f l ≡ true → (i : ℕ) → f (get_or l i z) ≡ true
  all_at h [] e i = h
  all_at h (x ∷ l) e zero = (both_true (f x) (all f l) e).0
  all_at h (x ∷ l) e (suc i) = all_at h l (both_true (f x) (all f l) e).1 i

  pub at_all : (l : List A) → ((i : ℕ) → i < length l → f (get_or l i z) ≡ true) → all f l ≡ true
  at_all [] e = refl
  at_all (x ∷ l) e = simp (e 0 (omega arith), at_all l (λ i h. e (suc i) (omega arith)))

-- tests that agree on every element
all_same : {A : Type 0} (f g : A → Bool) → ((x : A) → f x ≡ g x) → (l : List A) → all f l ≡ all g l
all_same f g e [] = refl
all_same f g e (x ∷ l) = simp (e x, all_same f g e l)

-- the library's comparison with 0
count_told : (n : ℕ) → int_eq (pos n) (pos 0) ≡ eqb n 0
count_told n = grind (arith, nat_tests)

is_zero_told : (x : ℤ) → int_eq x (pos 0) ≡ is_zero x
unfolding is_zero
is_zero_told (pos n) = count_told n
is_zero_told (negsuc n) = refl

pub zeros_told : {r : Bool} (l : List ℤ) → r ≡ all (λ x. int_eq x (pos 0)) l → r ≡ zeros_z l
zeros_told l e = e ∙ all_same _ is_zero is_zero_told l

-- ---- unused places
module _ {A : Type 0} (t : A → Bool) (z : A) (n : ℕ) (l : List A) where
  zero-from : t z ≡ true → ((x : A) → t x ≡ true → x ≡ z) → all t (drop n l) ≡ true → (i : ℕ) → get_or l (n + i) z ≡ z
  zero-from h e a i = sym (get_or-drop n l i z) ∙ e _ (all_at t z h (drop n l) a i)

module _ (n : ℕ) (c : Columns) (f : Full c) where
  pub unused-rest : unused n c ≡ true → drop n (zipped c) ≡ replicate (64 - n) (fresh 0)
  unfolding unused is_zero
  unused-rest e =
      let p1 = both_true _ _ e in
      let p2 = both_true _ _ p1.1 in
      let p3 = both_true _ _ p2.1 in
      let p4 = both_true _ _ p3.1 in
      let s = zero-from (λ x. eqb x 0) 0 n c.symbol refl (λ x. eqb-true x 0) p1.0 in
      let q = zero-from is_zero (pos 0) n c.quantity refl zero_is p2.0 in
      let a = zero-from is_zero (pos 0) n c.average refl zero_is p3.0 in
      let g = zero-from is_zero (pos 0) n c.realized refl zero_is p4.0 in
      let t = zero-from is_zero (pos 0) n c.total refl zero_is p4.1 in
      let m : length (drop n (zipped c)) ≡ 64 - n = length-drop n (zipped c) ∙ ap (λ k. k - n) (zipped-length c f) in
      ext_get_or (fresh 0) _ _ (m ∙ sym (length-replicate (64 - n) (fresh 0)))
      (λ i h. get_or-drop n (zipped c) i (fresh 0) ∙ zipped_at c (n + i) f ∙ rw (s i, q i, a i, g i, t i) (sym (get_or-replicate (64 - n) i (fresh 0) (fresh 0) (omega (arith, m)))))

  module _ (e : drop n (zipped c) ≡ replicate (64 - n) (fresh 0)) where
    row_zero : (i : ℕ) → i < 64 - n → row_at (n + i) c ≡ fresh 0
    row_zero i h = sym (zipped_at c (n + i) f) ∙ sym (get_or-drop n (zipped c) i (fresh 0)) ∙ ap (λ l. get_or l i (fresh 0)) e ∙ get_or-replicate (64 - n) i (fresh 0) (fresh 0) h

    column-zero : {A : Type 0} (t : A → Bool) (g : Position → A) (l : List A) → t (g (fresh 0)) ≡ true → length l ≡ 64 → ((i : ℕ) → g (row_at i c) ≡ get_or l i (g (fresh 0))) → all t (drop n l) ≡ true
    column-zero t g l h m k =
        let d : length (drop n l) ≡ 64 - n = length-drop n l ∙ ap (λ j. j - n) m in
        at_all t (g (fresh 0)) (drop n l) (λ i b. ap t (get_or-drop n l i (g (fresh 0)) ∙ sym (k (n + i)) ∙ ap g (row_zero i (omega (arith, d)))) ∙ h)

    pub rest-unused : unused n c ≡ true
    unfolding unused is_zero
    rest-unused = simp (
      column-zero (λ x. eqb x 0) key_of c.symbol refl f.symbol (λ i. refl),
      column-zero is_zero (λ p. p.quantity.0) c.quantity refl f.quantity (λ i. refl),
      column-zero is_zero (λ p. p.avg_entry_price) c.average refl f.average (λ i. refl),
      column-zero is_zero (λ p. p.realized_pnl) c.realized refl f.realized (λ i. refl),
      column-zero is_zero (λ p. p.total_cost) c.total refl f.total (λ i. refl),
    )

-- ---- ordered columns
pub test_orders : (n : ℕ) (c : Columns) → Full c → ordered n c ≡ true → Ordered n c
unfolding ordered
test_orders n c f e =
    let p1 = both_true (leb n 64) _ e in
    let p2 = both_true _ _ p1.1 in
    record { small = leb-true n 64 p1.0; full = f; rising = ascending_rises (take n c.symbol) p2.0; rest = unused-rest n c f p2.1 }

pub ordered_tests : (n : ℕ) (c : Columns) → Ordered n c → ordered n c ≡ true
unfolding ordered
ordered_tests n c o = simp (le-leb _ _ o.small, rising_ascends (take n c.symbol) o.rising, rest-unused n c o.full o.rest)
