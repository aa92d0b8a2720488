-- Laws of the lists of a call: a test that goes from place to place.
use Prim.Native.Nat.{ℕ, zero, suc, ◌+◌, ◌≤◌, ◌<◌}
use mathlib.Core.Path.{◌≡◌, refl, sym, ap, ◌∙◌}
use mathlib.Core.List.{List, [], ◌∷◌}
use mathlib.Core.Bool.{Bool, true, false, not, ◌||◌}
use Rattle.std.specs.List.{list_any, position_or_len}
use native.Mathlib.Omega.{arith}
use native.Mathlib.Numerals.{add-one}
use lib.Dec.{eqb, ltb}
use lib.IntN.{ℤ, pos, negsuc}
use lib.Signed.{le_z, lt_z}
use lib.ListN.{length, drop, get_or, drop_of_length-le}
use lib.Seq.{drop-cons}
use Rattle.std.proofs.lemmas.Bool.{false≢true}
use borrow.Author.Tests.{lt-ltb, le-ltb, le-leb, eq-eqb, ne_eqb, not-true}
use Rattle.std.specs.Prelude.{Option, Some, None}
use Rattle.call_lists.specs.Lists.{among, distinct, first_failing, place_in}
use Rattle.table.specs.Keyed.{pick, ascending}
use Rattle.table.specs.Inner.Keyed.{Over, Rising}
use Rattle.table.proofs.Keyed.{ascending_rises, both_true}

-- what a function of a list sees from place i on
module _ {A B : Type 0} (f : List A → B) (l : List A) (i : ℕ) where
  pub from_place : (d : A) → i < length l → f (drop i l) ≡ f (get_or l i d ∷ drop (i + 1) l)
  from_place d h = ap f (rw (add-one, drop-cons l i d))

  pub from_end : length l ≤ i → f (drop i l) ≡ f []
  from_end h = ap f (rw drop_of_length-le)

-- the library's count of those before the first that passes the other test
pub first_failing_told : {A : Type 0} (t u : A → Bool) (d : A) (l : List A) → ((i : ℕ) → i < length l → u (get_or l i d) ≡ not (t (get_or l i d))) → position_or_len u l ≡ first_failing t l
unfolding first_failing
first_failing_told t u d [] e = refl
first_failing_told t u d (x ∷ l) e = rw (e 0 (omega arith)) (go (t x) (first_failing_told t u d l (λ i h. e (suc i) (omega arith))))
  where
    go : (b : Bool) → position_or_len u l ≡ first_failing t l → pick (not (not b)) (1 + position_or_len u l) 0 ≡ pick b (suc (first_failing t l)) 0
    go true h = omega arith
    go false h = refl

-- a loop that tests every member: those before place i pass, so the first that fails is found from there on
abbrev pub Passed : {A : Type 0} → (A → Bool) → List A → ℕ → Type 0
Passed t l i = (i ≤ length l) × (first_failing t l ≡ i + first_failing t (drop i l))

module _ {A : Type 0} (t : A → Bool) (l : List A) (i : ℕ) (passed : Passed t l i) where
  pub fails_at : (d : A) → i < length l → t (get_or l i d) ≡ false → i ≡ first_failing t l
  unfolding first_failing
  fails_at d h e = let z : first_failing t (drop i l) ≡ 0 = from_place (first_failing t) l i d h ∙ simp e in omega (arith, passed.1)

  pub passes_at : (d : A) → i < length l → t (get_or l i d) ≡ true → Passed t l (i + 1)
  unfolding first_failing
  passes_at d h e =
      let z : first_failing t (drop i l) ≡ suc (first_failing t (drop (i + 1) l)) = from_place (first_failing t) l i d h ∙ simp e in
      (omega arith, omega (arith, passed.1))

  pub all_pass : length l ≤ i → i ≡ first_failing t l
  unfolding first_failing
  all_pass h = let z : first_failing t (drop i l) ≡ 0 = from_end (first_failing t) l i h in omega (arith, passed.1)

-- "a price is below 1" as the code tests it
pub below_one : (p : ℤ) → le_z (pos 1) p ≡ not (lt_z p (pos 1))
below_one (pos zero) = refl
below_one (pos (suc n)) = let h : 1 ≤ suc n = omega arith in simp (le-leb 1 (suc n) h, le-ltb (suc n) 1 h)
below_one (negsuc n) = refl

-- ---- a place that is told
module _ {A : Type 0} (l : List A) (n : ℕ) where
  pub place_past : length l ≤ n → None ≡ place_in l n
  place_past h = let t = le-ltb n (length l) h in sym (simp t)

  pub place_at : (i : ℕ) → i < length l → i ≡ n → Some i ≡ place_in l n
  place_at i h e =
      let g : n < length l = omega arith in
      let t = lt-ltb n (length l) g in
      rw e (sym (simp t))

  -- what follows from it for a test that fails exactly where there is one
  module _ {b : Bool} (tells : ltb n (length l) ≡ not b) where
    pub place_told : {i : ℕ} → Some i ≡ place_in l n → (b ≡ false) × (i ≡ n)
    place_told {i} e = go (ltb n (length l)) b tells e
      where
        go : (t b : Bool) → t ≡ not b → Some i ≡ pick t (Some n) None → (b ≡ false) × (i ≡ n)
        go true false q h = (refl, cc)
        go true true q h = absurd (false≢true (sym q))
        go false b q h = (cc, cc)

    pub no_place_told : None ≡ place_in l n → b ≡ true
    no_place_told e = go (ltb n (length l)) b tells e
      where
        go : (t b : Bool) → t ≡ not b → ◌≡◌ {A = Option ℕ} None (pick t (Some n) None) → b ≡ true
        go true b q h = cc
        go false true q h = refl
        go false false q h = absurd (false≢true q)

-- the library's search for a symbol
pub any_among : (s : ℕ) (l : List ℕ) → list_any (λ k. eqb k s) l ≡ among s l
unfolding among
any_among s [] = refl
any_among s (k ∷ l) = go (eqb k s) (any_among s l)
  where
    go : (b : Bool) → list_any (λ k. eqb k s) l ≡ among s l → (b || list_any (λ k. eqb k s) l) ≡ pick b true (among s l)
    go true h = refl
    go false h = h

-- ---- a symbol twice
pub below_first : (a b : ℕ) (l : List ℕ) → a < b → Over b l → Over a l
below_first a b [] h o = o
below_first a b (x ∷ l) h o = omega arith

-- what is below the first of a list that ascends is not in it
pub below_not_among : (s : ℕ) (l : List ℕ) → Over s l → Rising l → among s l ≡ false
unfolding among
below_not_among s [] o r = refl
below_not_among s (x ∷ l) o r =
    let n : (x ≡ s → ⊥) = λ e. omega arith in
    simp (ne_eqb x s n) (below_not_among s l (below_first s x l o r.0) r.1)

rising-distinct : (l : List ℕ) → Rising l → distinct l ≡ true
unfolding distinct
rising-distinct [] r = refl
rising-distinct (x ∷ l) r = simp (below_not_among x l r.0 r.1) (rising-distinct l r.1)

-- a list that ascends has no symbol twice
pub ascending-distinct : (l : List ℕ) → ascending l ≡ true → distinct l ≡ true
ascending-distinct l e = rising-distinct l (ascending_rises l e)

-- ---- what follows for places
pub among_own : (s : ℕ) (l : List ℕ) → among s (s ∷ l) ≡ true
unfolding among
among_own s l = simp (eq-eqb s s refl)

pub among_other : (s k : ℕ) (l : List ℕ) → (k ≡ s → ⊥) → among s (k ∷ l) ≡ among s l
unfolding among
among_other s k l n = simp (ne_eqb k s n)

-- what stands in the rest stands in the list
pub among-more : (s k : ℕ) (l : List ℕ) → among s l ≡ true → among s (k ∷ l) ≡ true
unfolding among
among-more s k l e = go (eqb k s)
  where
    go : (b : Bool) → pick b true (among s l) ≡ true
    go true = refl
    go false = e

pub place_among : (l : List ℕ) (i : ℕ) → i < length l → among (get_or l i 0) l ≡ true
place_among [] i h = absurd (omega arith)
place_among (x ∷ l) zero h = among_own x l
place_among (x ∷ l) (suc i) h = among-more (get_or l i 0) x l (place_among l i (omega arith))

-- a symbol that the list lacks stands at no place of it
pub lacking-apart : (s : ℕ) (l : List ℕ) (i : ℕ) → among s l ≡ false → i < length l → get_or l i 0 ≡ s → ⊥
lacking-apart s l i e h q =
    let t : among s l ≡ true = rw q at (place_among l i h) in
    let z : ◌≡◌ {A = ℕ} 0 1 = cc in
    omega arith

module _ (s : ℕ) (l : List ℕ) (e : distinct (s ∷ l) ≡ true) where
  halves : (not (among s l) ≡ true) × (distinct l ≡ true)
  unfolding distinct
  halves = both_true (not (among s l)) (distinct l) e

  pub distinct-first : among s l ≡ false
  distinct-first = not-true (among s l) halves.0

  pub distinct-rest : distinct l ≡ true
  distinct-rest = halves.1

pub distinct_from : (l : List ℕ) (i : ℕ) → distinct l ≡ true → distinct (drop i l) ≡ true
distinct_from l zero e = e
distinct_from [] (suc i) e = e
distinct_from (x ∷ l) (suc i) e = distinct_from l i (distinct-rest x l e)

-- no symbol stands again after its place
pub distinct_later : (l : List ℕ) (i : ℕ) → distinct l ≡ true → i < length l → among (get_or l i 0) (drop (i + 1) l) ≡ false
distinct_later l i e h =
    let q : drop i l ≡ get_or l i 0 ∷ drop (i + 1) l = rw (add-one, drop-cons l i 0) in
    distinct-first _ _ (rw q at (distinct_from l i e))

pub distinct_apart : (l : List ℕ) (i j : ℕ) → distinct l ≡ true → i < j → j < length l → get_or l i 0 ≡ get_or l j 0 → ⊥
distinct_apart [] i j e h g q = absurd (omega arith)
distinct_apart (x ∷ l) i zero e h g q = absurd (omega arith)
distinct_apart (x ∷ l) zero (suc j) e h g q = lacking-apart x l j (distinct-first x l e) (omega arith) (sym q)
distinct_apart (x ∷ l) (suc i) (suc j) e h g q = distinct_apart l i j (distinct-rest x l e) (omega arith) (omega arith) q
