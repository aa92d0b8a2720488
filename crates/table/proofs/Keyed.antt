-- Laws of lists in ascending order of a key: what a search finds after an insertion, and that insertions commute.
use Prim.Native.Nat.{ℕ, zero, suc, ◌+◌, ◌≤◌, ◌<◌}
use mathlib.Core.List.{List, [], ◌∷◌, map}
use mathlib.Core.Bool.{Bool, true, false}
use mathlib.Core.Option.{Option, none, some}
use mathlib.Core.Path.{◌≡◌, refl, sym, ap, ◌∙◌}
use native.Mathlib.Omega.{arith}
use lib.Dec.{eqb, leb, ltb}
use lib.ListN.{length, get_or}
use native.Mathlib.Numerals.{add-one}
use Rattle.std.specs.List.{IsAllAdjacentAnswer}
use borrow.Author.Tests.{ltb-true, ltb-false, eqb-true, eqb-false, leb-true, leb-false, le-leb, lt-leb, lt-ltb, eq-eqb, ne_eqb}
pub use Rattle.answer.proofs.Choice.{by_test, both_false, both_true}
use Rattle.table.specs.Keyed.{pick, all, there, new, seek, put, put64, over, ascending}
use Rattle.table.specs.Inner.Keyed.{Over, Rising}

data Three (a b : ℕ) : Type 0 where
  below : a < b → Three a b
  same : a ≡ b → Three a b
  above : b < a → Three a b

three : (a b : ℕ) → Three a b
three a b = go (ltb a b) (ltb b a) refl refl
  where
    go : (x y : Bool) → ltb a b ≡ x → ltb b a ≡ y → Three a b
    go true y e f = below (ltb-true a b e)
    go false true e f = above (ltb-true b a f)
    go false false e f = same (omega (arith, ltb-false a b e, ltb-false b a f))

-- ---- keys that rise
above-all : (x : ℕ) (l : List ℕ) (j : ℕ) → Over x l → Rising l → j < length l → x < get_or l j 0
above-all x [] j o r h = absurd (omega arith)
above-all x (y ∷ l) zero o r h = o
above-all x (y ∷ l) (suc j) o r h = let t = above-all y l j r.0 r.1 (omega arith) in omega (arith, t, o)

-- an earlier key is smaller
pub rising_strict : (l : List ℕ) (i j : ℕ) → Rising l → i < j → j < length l → get_or l i 0 < get_or l j 0
rising_strict [] i j r h g = absurd (omega arith)
rising_strict (x ∷ l) i zero r h g = absurd (omega arith)
rising_strict (x ∷ l) zero (suc j) r h g = above-all x l j r.0 r.1 (omega arith)
rising_strict (x ∷ l) (suc i) (suc j) r h g = rising_strict l i j r.1 (omega arith) (omega arith)

-- the test and the fact
over_true : (x : ℕ) (l : List ℕ) → over x l ≡ true → Over x l
over_true x [] e = omega arith
over_true x (y ∷ l) e = ltb-true x y e

pub ascending_rises : (l : List ℕ) → ascending l ≡ true → Rising l
ascending_rises [] e = omega arith
ascending_rises (x ∷ l) e =
    let h = both_true (over x l) (ascending l) e in
    (over_true x l h.0, ascending_rises l h.1)

true_over : (x : ℕ) (l : List ℕ) → Over x l → over x l ≡ true
true_over x [] o = refl
true_over x (y ∷ l) o = lt-ltb x y o

pub rising_ascends : (l : List ℕ) → Rising l → ascending l ≡ true
rising_ascends [] r = refl
rising_ascends (x ∷ l) r = simp (true_over x l r.0, rising_ascends l r.1)

-- a later key is no smaller
pub rising_weak : (l : List ℕ) → Rising l → (i j : ℕ) → i ≤ j → j < length l → get_or l i 0 ≤ get_or l j 0
rising_weak l r i j h g = go (ltb i j) refl
  where
    go : (b : Bool) → ltb i j ≡ b → get_or l i 0 ≤ get_or l j 0
    go true e = omega (arith, rising_strict l i j r (ltb-true i j e) g)
    go false e = let q : i ≡ j = omega (arith, ltb-false i j e) in rw q (omega arith)

-- keys rise where each is above the one before it
rising_by_pairs : (l : List ℕ) → ((i : ℕ) → suc i < length l → get_or l i 0 < get_or l (suc i) 0) → Rising l
rising_by_pairs [] h = omega arith
rising_by_pairs (x ∷ []) h = (omega arith, omega arith)
rising_by_pairs (x ∷ (y ∷ l)) h = (h 0 (omega arith), rising_by_pairs (y ∷ l) (λ i g. h (suc i) (omega arith)))

-- what a test of every two neighbours tells
pub ascending_told : (l : List ℕ) (r : Bool) → IsAllAdjacentAnswer (λ x y b. b ≡ ltb x y) l r → r ≡ ascending l
ascending_told l true h = sym (rising_ascends l (rising_by_pairs l (λ i g. ltb-true _ _ (sym (rw add-one at (h i 0 (omega arith)))))))
ascending_told l false h = go (ascending l) refl
  where
    go : (b : Bool) → ascending l ≡ b → false ≡ b
    go true e =
        let k = h.0 in
        let t = rising_strict l k (k + 1) (ascending_rises l e) (omega arith) h.1 in
        h.2 0 ∙ lt-ltb _ _ t
    go false e = refl

module _ {A : Type 0} (key : A → ℕ) where
  put_below : (p q : A) (qs : List A) → key p < key q → put key p (q ∷ qs) ≡ p ∷ (q ∷ qs)
  put_below p q qs h =
      let l : key p ≤ key q = omega arith in
      let n : (key q ≡ key p → ⊥) = λ e. omega arith in
      simp (le-leb _ _ l, ne_eqb _ _ n)

  put_same : (p q : A) (qs : List A) → key p ≡ key q → put key p (q ∷ qs) ≡ p ∷ qs
  put_same p q qs e =
      let l : key p ≤ key q = omega arith in
      simp (le-leb _ _ l, eq-eqb _ _ (sym e))

  put-above : (p q : A) (qs : List A) → key q < key p → put key p (q ∷ qs) ≡ q ∷ put key p qs
  put-above p q qs h = simp (lt-leb _ _ h)

  seek_below : (s : ℕ) (q : A) (qs : List A) → s < key q → seek key s (q ∷ qs) ≡ none
  seek_below s q qs h =
      let l : s ≤ key q = omega arith in
      let n : (key q ≡ s → ⊥) = λ e. omega arith in
      simp (le-leb _ _ l, ne_eqb _ _ n)

  seek-same : (s : ℕ) (q : A) (qs : List A) → s ≡ key q → seek key s (q ∷ qs) ≡ some q
  seek-same s q qs e =
      let l : s ≤ key q = omega arith in
      simp (le-leb _ _ l, eq-eqb _ _ (sym e))

  seek-above : (s : ℕ) (q : A) (qs : List A) → key q < s → seek key s (q ∷ qs) ≡ seek key s qs
  seek-above s q qs h = simp (lt-leb _ _ h)

  -- what is found has the key
  pub seek_key : (s : ℕ) (ps : List A) (p : A) → seek key s ps ≡ some p → key p ≡ s
  seek_key s [] p e = let z : ◌≡◌ {A = ℕ} 0 1 = cc in absurd (omega arith)
  seek_key s (q ∷ qs) p e = go (three s (key q)) (seek_key s qs p)
    where
      go : Three s (key q) → (seek key s qs ≡ some p → key p ≡ s) → key p ≡ s
      go (below h) ih = let f : none ≡ some p = sym (seek_below s q qs h) ∙ e in let z : ◌≡◌ {A = ℕ} 0 1 = cc in absurd (omega arith)
      go (same h) ih = let f : some q ≡ some p = sym (seek-same s q qs h) ∙ e in let g : q ≡ p = cc in cc
      go (above h) ih = ih (sym (seek-above s q qs h) ∙ e)

  -- the search for one key, after another was put
  pub seek-put : (s : ℕ) (p : A) (ps : List A) → (s ≡ key p → ⊥) → seek key s (put key p ps) ≡ seek key s ps
  seek-put s p [] n = go (three s (key p))
    where
      go : Three s (key p) → seek key s (p ∷ []) ≡ none
      go (below h) = seek_below s p [] h
      go (same h) = absurd (n h)
      go (above h) = seek-above s p [] h
  seek-put s p (q ∷ qs) n = go (three (key p) (key q)) (seek-put s p qs n)
    where
      in-front : key p < key q → Three s (key p) → seek key s (p ∷ (q ∷ qs)) ≡ seek key s (q ∷ qs)
      in-front l (below h) = seek_below s p (q ∷ qs) h ∙ sym (seek_below s q qs (omega arith))
      in-front l (same h) = absurd (n h)
      in-front l (above h) = seek-above s p (q ∷ qs) h

      in_place : key p ≡ key q → Three s (key p) → seek key s (p ∷ qs) ≡ seek key s (q ∷ qs)
      in_place l (below h) = seek_below s p qs h ∙ sym (seek_below s q qs (omega arith))
      in_place l (same h) = absurd (n h)
      in_place l (above h) = seek-above s p qs h ∙ sym (seek-above s q qs (omega arith))

      behind : seek key s (put key p qs) ≡ seek key s qs → Three s (key q) → seek key s (q ∷ put key p qs) ≡ seek key s (q ∷ qs)
      behind ih (below h) = seek_below s q (put key p qs) h ∙ sym (seek_below s q qs h)
      behind ih (same h) = seek-same s q (put key p qs) h ∙ sym (seek-same s q qs h)
      behind ih (above h) = seek-above s q (put key p qs) h ∙ ih ∙ sym (seek-above s q qs h)

      go : Three (key p) (key q) → seek key s (put key p qs) ≡ seek key s qs → seek key s (put key p (q ∷ qs)) ≡ seek key s (q ∷ qs)
      go (below h) ih = ap (seek key s) (put_below p q qs h) ∙ in-front h (three s (key p))
      go (same h) ih = ap (seek key s) (put_same p q qs h) ∙ in_place h (three s (key p))
      go (above h) ih = ap (seek key s) (put-above p q qs h) ∙ behind ih (three s (key q))

  -- two puts of different keys
  pub put-swap : (p r : A) (ps : List A) → (key p ≡ key r → ⊥) → put key p (put key r ps) ≡ put key r (put key p ps)
  put-swap p r [] n = go (three (key p) (key r))
    where
      go : Three (key p) (key r) → put key p (r ∷ []) ≡ put key r (p ∷ [])
      go (below h) = put_below p r [] h ∙ sym (put-above r p [] h)
      go (same h) = absurd (n h)
      go (above h) = put-above p r [] h ∙ sym (put_below r p [] h)
  put-swap p r (q ∷ qs) n = go (three (key p) (key q)) (three (key r) (key q)) (put-swap p r qs n)
    where
      both : key p < key q → key r < key q → Three (key p) (key r) → put key p (r ∷ (q ∷ qs)) ≡ put key r (p ∷ (q ∷ qs))
      both g h (below k) = put_below p r (q ∷ qs) k ∙ sym (put-above r p (q ∷ qs) k ∙ ap (λ (l : List A). p ∷ l) (put_below r q qs h))
      both g h (same k) = absurd (n k)
      both g h (above k) = put-above p r (q ∷ qs) k ∙ ap (λ (l : List A). r ∷ l) (put_below p q qs g) ∙ sym (put_below r p (q ∷ qs) k)

      go : Three (key p) (key q) → Three (key r) (key q) → put key p (put key r qs) ≡ put key r (put key p qs) → put key p (put key r (q ∷ qs)) ≡ put key r (put key p (q ∷ qs))
      go (below g) (below h) ih = ap (put key p) (put_below r q qs h) ∙ both g h (three (key p) (key r)) ∙ sym (ap (put key r) (put_below p q qs g))
      go (below g) (same h) ih =
          ap (put key p) (put_same r q qs h) ∙ put_below p r qs (omega arith)
          ∙ sym (ap (put key r) (put_below p q qs g) ∙ put-above r p (q ∷ qs) (omega arith) ∙ ap (λ (l : List A). p ∷ l) (put_same r q qs h))
      go (below g) (above h) ih =
          ap (put key p) (put-above r q qs h) ∙ put_below p q (put key r qs) g
          ∙ sym (ap (put key r) (put_below p q qs g) ∙ put-above r p (q ∷ qs) (omega arith) ∙ ap (λ (l : List A). p ∷ l) (put-above r q qs h))
      go (same g) (below h) ih =
          ap (put key p) (put_below r q qs h) ∙ put-above p r (q ∷ qs) (omega arith) ∙ ap (λ (l : List A). r ∷ l) (put_same p q qs g)
          ∙ sym (ap (put key r) (put_same p q qs g) ∙ put_below r p qs (omega arith))
      go (same g) (same h) ih = absurd (n (omega arith))
      go (same g) (above h) ih =
          ap (put key p) (put-above r q qs h) ∙ put_same p q (put key r qs) g
          ∙ sym (ap (put key r) (put_same p q qs g) ∙ put-above r p qs (omega arith))
      go (above g) (below h) ih =
          ap (put key p) (put_below r q qs h) ∙ put-above p r (q ∷ qs) (omega arith) ∙ ap (λ (l : List A). r ∷ l) (put-above p q qs g)
          ∙ sym (ap (put key r) (put-above p q qs g) ∙ put_below r q (put key p qs) h)
      go (above g) (same h) ih =
          ap (put key p) (put_same r q qs h) ∙ put-above p r qs (omega arith)
          ∙ sym (ap (put key r) (put-above p q qs g) ∙ put_same r q (put key p qs) h)
      go (above g) (above h) ih =
          ap (put key p) (put-above r q qs h) ∙ put-above p q (put key r qs) g ∙ ap (λ (l : List A). q ∷ l) ih
          ∙ sym (ap (put key r) (put-above p q qs g) ∙ put-above r q (put key p qs) h)

  -- a put lengthens the table by what is new
  pub put-length : (p : A) (ps : List A) → length (put key p ps) ≡ length ps + new (seek key (key p) ps)
  put-length p [] = omega arith
  put-length p (q ∷ qs) = go (three (key p) (key q)) (put-length p qs)
    where
      go : Three (key p) (key q) → length (put key p qs) ≡ length qs + new (seek key (key p) qs) → length (put key p (q ∷ qs)) ≡ length (q ∷ qs) + new (seek key (key p) (q ∷ qs))
      go (below h) ih = omega (arith, ap length (put_below p q qs h), ap new (seek_below (key p) q qs h))
      go (same h) ih = omega (arith, ap length (put_same p q qs h), ap new (seek-same (key p) q qs h))
      go (above h) ih = omega (arith, ap length (put-above p q qs h), ap new (seek-above (key p) q qs h))

  -- with room, the bound of 64 does not show
  pub put-room : (p : A) (ps : List A) → length ps + new (seek key (key p) ps) ≤ 64 → put64 key p ps ≡ put key p ps
  put-room p ps h = go (seek key (key p) ps) h
    where
      go : (o : Option A) → length ps + new o ≤ 64 → pick (there o) (put key p ps) (pick (ltb (length ps) 64) (put key p ps) ps) ≡ put key p ps
      go (some q) h = refl
      go none h = let l : length ps < 64 = omega arith in simp (lt-ltb _ _ l)

  -- an insertion keeps the keys rising
  over_cons : (b e : Bool) (k : ℕ) (p q : A) (qs : List A) → k < key p → k < key q → Over k (map key (pick b (pick e (p ∷ qs) (p ∷ (q ∷ qs))) (q ∷ put key p qs)))
  over_cons true true k p q qs h g = h
  over_cons true false k p q qs h g = h
  over_cons false e k p q qs h g = g

  over-put : (k : ℕ) (p : A) (l : List A) → k < key p → Over k (map key l) → Over k (map key (put key p l))
  over-put k p [] h o = h
  over-put k p (q ∷ qs) h o = over_cons (leb (key p) (key q)) (eqb (key q) (key p)) k p q qs h o

  over-same : (a b : ℕ) (l : List ℕ) → a ≡ b → Over a l → Over b l
  over-same a b [] e o = o
  over-same a b (x ∷ l) e o = omega arith

  put_cons : (b e : Bool) (p q : A) (qs : List A) → (b ≡ true → key p ≤ key q) → (b ≡ false → key q < key p) → (e ≡ true → key q ≡ key p) → (e ≡ false → key q ≡ key p → ⊥)
      → Over (key q) (map key qs) → Rising (map key qs) → Rising (map key (put key p qs)) → Rising (map key (pick b (pick e (p ∷ qs) (p ∷ (q ∷ qs))) (q ∷ put key p qs)))
  put_cons true true p q qs b1 b2 e1 e2 o r ih = (over-same (key q) (key p) (map key qs) (e1 refl) o, r)
  put_cons true false p q qs b1 b2 e1 e2 o r ih = (less (b1 refl) (e2 refl), (o, r))
    where
      less : key p ≤ key q → (key q ≡ key p → ⊥) → key p < key q
      less h g = omega (arith, h, g)
  put_cons false e p q qs b1 b2 e1 e2 o r ih = (over-put (key q) p qs (b2 refl) o, ih)

  pub put_rises : (p : A) (l : List A) → Rising (map key l) → Rising (map key (put key p l))
  put_rises p [] r = (omega arith, omega arith)
  put_rises p (q ∷ qs) r =
      put_cons (leb (key p) (key q)) (eqb (key q) (key p)) p q qs (leb-true _ _) (leb-false _ _) (eqb-true _ _) (eqb-false _ _) r.0 r.1 (put_rises p qs r.1)

  pick_rises : (a b : Bool) (l m : List A) → Rising (map key l) → Rising (map key m) → Rising (map key (pick a m (pick b m l)))
  pick_rises true b l m h g = g
  pick_rises false true l m h g = g
  pick_rises false false l m h g = h

  pub put64_rises : (p : A) (l : List A) → Rising (map key l) → Rising (map key (put64 key p l))
  put64_rises p l r = pick_rises (there (seek key (key p) l)) (ltb (length l) 64) l (put key p l) r (put_rises p l r)

  -- an insertion keeps the bound
  pub put64-fits : (p : A) (l : List A) → length l ≤ 64 → length (put64 key p l) ≤ 64
  put64-fits p l h = go (seek key (key p) l) (ltb (length l) 64) refl (put-length p l)
    where
      go : (o : Option A) (b : Bool) → ltb (length l) 64 ≡ b → length (put key p l) ≡ length l + new o → length (pick (there o) (put key p l) (pick b (put key p l) l)) ≤ 64
      go (some q) b e k = omega (arith, k)
      go none true e k = omega (arith, k, ltb-true (length l) 64 e)
      go none false e k = h

  -- what holds of every element, and of the one inserted, holds of every element after
  module _ (f : A → Bool) where
    pub all-put : (p : A) (l : List A) → f p ≡ true → all f l ≡ true → all f (put key p l) ≡ true
    all-put p [] h e = simp h
    all-put p (q ∷ qs) h e = go (leb (key p) (key q)) (eqb (key q) (key p)) (all-put p qs h)
      where
        here : f q ≡ true
        here = (both_true (f q) (all f qs) e).0

        rest : all f qs ≡ true
        rest = (both_true (f q) (all f qs) e).1

        go : (b c : Bool) → (all f qs ≡ true → all f (put key p qs) ≡ true) → all f (pick b (pick c (p ∷ qs) (p ∷ (q ∷ qs))) (q ∷ put key p qs)) ≡ true
        go true true ih = simp (h, rest)
        go true false ih = simp (h, here, rest)
        go false c ih = simp (here, ih rest)

    pub all-put64 : (p : A) (l : List A) → f p ≡ true → all f l ≡ true → all f (put64 key p l) ≡ true
    all-put64 p l h e = go (there (seek key (key p) l)) (ltb (length l) 64)
      where
        go : (b c : Bool) → all f (pick b (put key p l) (pick c (put key p l) l)) ≡ true
        go true c = all-put p l h e
        go false true = all-put p l h e
        go false false = e

    -- and of what a search finds
    pub all-seek : (s : ℕ) (l : List A) (p : A) → all f l ≡ true → seek key s l ≡ some p → f p ≡ true
    all-seek s [] p e k = let z : ◌≡◌ {A = ℕ} 0 1 = cc in absurd (omega arith)
    all-seek s (q ∷ qs) p e k = go (leb s (key q)) (eqb (key q) s) (all-seek s qs p) k
      where
        go : (b c : Bool) → (all f qs ≡ true → seek key s qs ≡ some p → f p ≡ true) → pick b (pick c (some q) none) (seek key s qs) ≡ some p → f p ≡ true
        go true true ih g = let z : q ≡ p = cc in rw z at (both_true (f q) (all f qs) e).0
        go true false ih g = let z : ◌≡◌ {A = ℕ} 0 1 = cc in absurd (omega arith)
        go false c ih g = ih (both_true (f q) (all f qs) e).1 g
