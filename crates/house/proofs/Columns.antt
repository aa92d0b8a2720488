-- Tests of all of a few, and columns that are filled place by place.
use Rattle.std.proofs.Common.{◌≡◌, ℕ, zero, suc, ◌+◌, ◌<◌, ◌≤◌, Bool, true, false, cond, ◌&&◌, eqb, ltb, Some, None, List, ◌∷◌, length, get_or, set, replicate, sym, refl, ap, ◌∙◌, subst, add-one, arith, length-set, get_or-set_other, get_or-set_same, ext_get_or, ltb-false, ltb-true, le-ltb, lt-ltb, eqb-true}
use borrow.Author.Tests.{eqb-false}
use Rattle.answer.proofs.Choice.{both_true}
use Rattle.house.specs.Group.{every}
use Rattle.house.specs.Places.{each, column}

-- ---- tests
pub every_on : (t : ℕ → Bool) (i : ℕ) (b x : Bool) → b ≡ every i t → x ≡ t i → b && x ≡ every (i + 1) t
unfolding every
every_on t i b x e g = rw (e, g, add-one i)

-- what holds below n and at n holds below n + 1
pub below_or_at : (Q : ℕ → Type 0) (n i : ℕ) → i < suc n → (i < n → Q i) → Q n → Q i
below_or_at Q n i h below at = go (eqb i n) refl
  where
    go : (q : Bool) → eqb i n ≡ q → Q i
    go true p = subst Q (sym (eqb-true i n p)) at
    go false p = let d : (i ≡ n → ⊥) = eqb-false i n p in below (omega arith)

pub every_at : (n : ℕ) (t : ℕ → Bool) → every n t ≡ true → (i : ℕ) → i < n → t i ≡ true
unfolding every
every_at zero t e i h = absurd (omega arith)
every_at (suc n) t e i h =
    let b = both_true (every n t) (t n) e in
    below_or_at (λ j. t j ≡ true) n i h (every_at n t b.0 i) b.1

pub every_of : (n : ℕ) (t : ℕ → Bool) → ((i : ℕ) → i < n → t i ≡ true) → every n t ≡ true
unfolding every
every_of zero t e = refl
every_of (suc n) t e = rw (every_of n t (λ i h. e i (omega arith)), e n (omega arith))

pub every_no : (n : ℕ) (t : ℕ → Bool) (i : ℕ) → i < n → t i ≡ false → every n t ≡ false
unfolding every
every_no zero t i h e = absurd (omega arith)
every_no (suc n) t i h e =
    below_or_at (λ j. j ≡ i → every n t && t n ≡ false) n i h (λ l q. rw (every_no n t i l e)) (λ q. last (every n t) (t n) (rw q e)) refl
  where
    last : (a b : Bool) → b ≡ false → a && b ≡ false
    last true b q = q
    last false b q = refl

pub every_cong : (n : ℕ) (t u : ℕ → Bool) → ((i : ℕ) → i < n → t i ≡ u i) → every n t ≡ every n u
unfolding every
every_cong zero t u e = refl
every_cong (suc n) t u e = rw (every_cong n t u (λ i h. e i (omega arith)), e n (omega arith))

-- a value that is there under a test, and one that is not
pub test_passed : {A : Type 0} (b : Bool) (x y : A) → Some x ≡ cond b (Some y) None → (b ≡ true) × (x ≡ y)
test_passed true x y e = (refl, cc)
test_passed false x y e = cc

pub test_failed : {A : Type 0} (b : Bool) (y : A) → None ≡ cond b (Some y) None → b ≡ false
test_failed true y e = cc
test_failed false y e = refl

-- ---- columns
module _ {A : Type 0} where
  pub length-each : (n : ℕ) (f : ℕ → A) → length (each n f) ≡ n
  unfolding each
  length-each zero f = refl
  length-each (suc n) f = ap suc (length-each n (λ i. f (suc i)))

  pub get_d_each : (n : ℕ) (f : ℕ → A) (i : ℕ) (d : A) → i < n → get_or (each n f) i d ≡ f i
  unfolding each
  get_d_each zero f i d h = absurd (omega arith)
  get_d_each (suc n) f zero d h = refl
  get_d_each (suc n) f (suc i) d h = get_d_each n (λ j. f (suc j)) i d (omega arith)

  pub each_cong : (n : ℕ) (f g : ℕ → A) → ((i : ℕ) → i < n → f i ≡ g i) → each n f ≡ each n g
  unfolding each
  each_cong zero f g e = refl
  each_cong (suc n) f g e = rw (e 0 (omega arith), each_cong n (λ i. f (suc i)) (λ i. g (suc i)) (λ i h. e (suc i) (omega arith)))

  pub replicate-each : (n : ℕ) (a : A) → replicate n a ≡ each n (λ i. a)
  unfolding each
  replicate-each zero a = refl
  replicate-each (suc n) a = ap (λ l. a ∷ l) (replicate-each n a)

  pub column-first : (room : ℕ) (rest : A) (f : ℕ → A) → replicate room rest ≡ column room rest 0 f
  column-first room rest f = replicate-each room rest ∙ each_cong room (λ i. rest) (λ i. cond (ltb i 0) (f i) rest) (λ i h. rw (le-ltb i 0 (omega arith)))

  pub column_at : (room : ℕ) (rest : A) (n : ℕ) (f : ℕ → A) (i : ℕ) (d : A) → n ≤ room → i < n → get_or (column room rest n f) i d ≡ f i
  column_at room rest n f i d g h = get_d_each room (λ j. cond (ltb j n) (f j) rest) i d (omega arith) ∙ rw (lt-ltb i n h)

  pub column_cong : (room : ℕ) (rest : A) (n : ℕ) (f g : ℕ → A) → ((i : ℕ) → i < n → f i ≡ g i) → column room rest n f ≡ column room rest n g
  column_cong room rest n f g e = each_cong room (λ i. cond (ltb i n) (f i) rest) (λ i. cond (ltb i n) (g i) rest) (λ i h. go i (ltb i n) refl)
    where
      go : (i : ℕ) (t : Bool) → ltb i n ≡ t → cond t (f i) rest ≡ cond t (g i) rest
      go i true q = e i (ltb-true i n q)
      go i false q = refl

  pub column_on : (room : ℕ) (rest : A) (n : ℕ) (f : ℕ → A) → n < room → set (column room rest n f) n (f n) ≡ column room rest (n + 1) f
  column_on room rest n f h =
      ext_get_or rest (set (column room rest n f) n (f n)) (column room rest (n + 1) f)
      (length-set (column room rest n f) n (f n) ∙ length-each room (λ i. cond (ltb i n) (f i) rest) ∙ sym (length-each room (λ i. cond (ltb i (n + 1)) (f i) rest)))
      (λ i g. place i (rw (length-set, length-each) at g))
    where
      long : n < length (column room rest n f)
      long = rw (length-each room (λ i. cond (ltb i n) (f i) rest)) h

      place : (i : ℕ) → i < room → get_or (set (column room rest n f) n (f n)) i rest ≡ get_or (column room rest (n + 1) f) i rest
      place i g = go (eqb i n) refl
        where
          there : get_or (column room rest (n + 1) f) i rest ≡ cond (ltb i (n + 1)) (f i) rest
          there = get_d_each room (λ j. cond (ltb j (n + 1)) (f j) rest) i rest g

          before : get_or (column room rest n f) i rest ≡ cond (ltb i n) (f i) rest
          before = get_d_each room (λ j. cond (ltb j n) (f j) rest) i rest g

          other : (i ≡ n → ⊥) → (t : Bool) → ltb i n ≡ t → cond t (f i) rest ≡ cond (ltb i (n + 1)) (f i) rest
          other d true q = let l = ltb-true i n q in rw (lt-ltb i (n + 1) (omega arith))
          other d false q = let l = ltb-false i n q in rw (le-ltb i (n + 1) (omega arith))

          go : (q : Bool) → eqb i n ≡ q → get_or (set (column room rest n f) n (f n)) i rest ≡ get_or (column room rest (n + 1) f) i rest
          go true p =
              let e = eqb-true i n p in
              rw e (get_or-set_same (column room rest n f) n (f n) rest long ∙ sym (get_d_each room (λ j. cond (ltb j (n + 1)) (f j) rest) n rest h ∙ rw (lt-ltb n (n + 1) (omega arith))))
          go false p =
              let d : (i ≡ n → ⊥) = eqb-false i n p in
              get_or-set_other (column room rest n f) n i (f n) rest d ∙ before ∙ other d (ltb i n) refl ∙ sym there

  -- one more place filled
  pub filled_on : (room : ℕ) (rest : A) (f : ℕ → A) (i : ℕ) (l : List A) (v : A) → i < room → l ≡ column room rest i f → v ≡ f i → set l i v ≡ column room rest (i + 1) f
  filled_on room rest f i l v h e g = rw (e, g) (column_on room rest i f h)
