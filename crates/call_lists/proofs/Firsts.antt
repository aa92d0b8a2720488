-- Laws of the first index that is told: it is in the list exactly where the test of the whole list fails.
use Prim.Native.Nat.{ℕ, zero, suc, ◌+◌, ◌≤◌, ◌<◌}
use mathlib.Core.Path.{◌≡◌, refl, sym, ap, ◌∙◌}
use mathlib.Core.List.{List, [], ◌∷◌}
use mathlib.Core.Bool.{Bool, true, false, not}
use native.Mathlib.Omega.{arith}
use native.Mathlib.Numerals.{add-one}
use lib.Dec.{eqb, ltb}
use lib.IntN.{ℤ, pos}
use lib.Signed.{le_z}
use lib.ListN.{length, take, drop, get_or}
use borrow.Author.Tests.{ltb-true, ltb-false, lt-ltb, le-ltb, eq-eqb, ne_eqb, eqb-true, eqb-false}
use Rattle.position.specs.Symbols.{good_symbol}
use Rattle.table.specs.Keyed.{pick, both, all, ascending}
use Rattle.call_lists.specs.Lists.{among, all_good, all_priced, distinct, first_failing, first_bad, first_unpriced, repeat_after, first_repeat}
use Rattle.call_lists.proofs.Lists.{from_place, from_end, ascending-distinct}

-- ---- tests of numbers
one_more : (a b : ℕ) → ltb (suc a) (suc b) ≡ ltb a b
one_more a b = go (ltb a b) refl
  where
    go : (t : Bool) → ltb a b ≡ t → ltb (suc a) (suc b) ≡ t
    go true e = lt-ltb (suc a) (suc b) (omega (arith, ltb-true a b e))
    go false e = le-ltb (suc a) (suc b) (omega (arith, ltb-false a b e))

first_of_more : (b : ℕ) → ltb 0 (suc b) ≡ true
first_of_more b = lt-ltb 0 (suc b) (omega arith)

-- ---- the first that fails a test
module _ {A : Type 0} (t : A → Bool) where
  pub failing_tells : (l : List A) → ltb (first_failing t l) (length l) ≡ not (all t l)
  unfolding first_failing
  failing_tells [] = refl
  failing_tells (x ∷ l) = go (t x) (failing_tells l)
    where
      go : (b : Bool) → ltb (first_failing t l) (length l) ≡ not (all t l) → ltb (pick b (suc (first_failing t l)) 0) (suc (length l)) ≡ not (both b (all t l))
      go true e = one_more (first_failing t l) (length l) ∙ e
      go false e = first_of_more (length l)

-- ---- the first symbol that stands earlier
-- none of the list is among those before
abbrev apart : List ℕ → List ℕ → Bool
apart before l = all (λ s. not (among s before)) l

same_either_way : (a b : ℕ) → eqb a b ≡ eqb b a
same_either_way a b = go (eqb a b) refl
  where
    go : (t : Bool) → eqb a b ≡ t → t ≡ eqb b a
    go true e = sym (eq-eqb b a (sym (eqb-true a b e)))
    go false e = sym (ne_eqb b a (λ q. eqb-false a b e (sym q)))

-- one more before: it is not in the list, and the others are apart from it as before
apart_more : (s : ℕ) (before l : List ℕ) → apart (s ∷ before) l ≡ both (not (among s l)) (apart before l)
unfolding among
apart_more s before [] = refl
apart_more s before (k ∷ l) = rw (same_either_way s k) (go (eqb k s) (among k before) (among s l) (apart before l) (apart_more s before l))
  where
    go : (e a m r : Bool) → apart (s ∷ before) l ≡ both (not m) r → both (not (pick e true a)) (apart (s ∷ before) l) ≡ both (not (pick e true m)) (both (not a) r)
    go true a m r h = refl
    go false true true r h = refl
    go false true false r h = refl
    go false false m r h = h

repeat_tells_after : (before l : List ℕ) → ltb (repeat_after before l) (length l) ≡ not (both (apart before l) (distinct l))
unfolding distinct repeat_after
repeat_tells_after before [] = refl
repeat_tells_after before (s ∷ l) = go (among s before) (among s l) (apart before l) (distinct l) (apart_more s before l) (repeat_tells_after (s ∷ before) l)
  where
    go : (b m a d : Bool) → apart (s ∷ before) l ≡ both (not m) a → ltb (repeat_after (s ∷ before) l) (length l) ≡ not (both (apart (s ∷ before) l) d)
        → ltb (pick b 0 (suc (repeat_after (s ∷ before) l))) (suc (length l)) ≡ not (both (both (not b) a) (both (not m) d))
    go true m a d e h = first_of_more (length l)
    go false true true d e h = one_more (repeat_after (s ∷ before) l) (length l) ∙ h ∙ rw e
    go false true false d e h = one_more (repeat_after (s ∷ before) l) (length l) ∙ h ∙ rw e
    go false false a d e h = one_more (repeat_after (s ∷ before) l) (length l) ∙ h ∙ rw e

apart-from-none : (l : List ℕ) → apart [] l ≡ true
unfolding among
apart-from-none [] = refl
apart-from-none (s ∷ l) = apart-from-none l

pub repeat_tells : (l : List ℕ) → ltb (first_repeat l) (length l) ≡ not (distinct l)
repeat_tells l = repeat_tells_after [] l ∙ rw (apart-from-none l)

repeat-most : (before l : List ℕ) → repeat_after before l ≤ length l
unfolding repeat_after
repeat-most before [] = omega arith
repeat-most before (s ∷ l) = go (among s before) (repeat-most (s ∷ before) l)
  where
    go : (b : Bool) → repeat_after (s ∷ before) l ≤ length l → pick b 0 (suc (repeat_after (s ∷ before) l)) ≤ suc (length l)
    go true h = omega arith
    go false h = omega arith

-- a list that ascends has no repeat
pub ascending-none : (l : List ℕ) → ascending l ≡ true → length l ≡ first_repeat l
ascending-none l e =
    let t : ltb (first_repeat l) (length l) ≡ false = repeat_tells l ∙ rw (ascending-distinct l e) in
    omega (arith, ltb-false (first_repeat l) (length l) t, repeat-most [] l)

-- ---- a loop that looks for each symbol before its place
-- what stands before counts by what is among it
same_more : (x : ℕ) (before others : List ℕ) → ((s : ℕ) → among s before ≡ among s others) → (s : ℕ) → among s (x ∷ before) ≡ among s (x ∷ others)
unfolding among
same_more x before others h s = ap (λ b. pick (eqb x s) true b) (h s)

same_after : (l before others : List ℕ) → ((s : ℕ) → among s before ≡ among s others) → repeat_after before l ≡ repeat_after others l
unfolding repeat_after
same_after [] before others h = refl
same_after (x ∷ l) before others h = rw (h x) (ap (λ n. pick (among x others) 0 (suc n)) (same_after l (x ∷ before) (x ∷ others) (same_more x before others h)))

-- the symbol at place i put first, or where it stands
taken_on : (l : List ℕ) (i : ℕ) → i < length l → (s : ℕ) → among s (get_or l i 0 ∷ take i l) ≡ among s (take (suc i) l)
unfolding among
taken_on [] i h s = absurd (omega arith)
taken_on (y ∷ l) zero h s = refl
taken_on (y ∷ l) (suc i) h s = go (eqb (get_or l i 0) s) (eqb y s) (taken_on l i (omega arith) s)
  where
    go : (x y : Bool) → pick x true (among s (take i l)) ≡ among s (take (suc i) l) → pick x true (pick y true (among s (take i l))) ≡ pick y true (among s (take (suc i) l))
    go true true e = refl
    go true false e = e
    go false true e = refl
    go false false e = e

abbrev pub New : List ℕ → ℕ → Type 0
New l i = (i ≤ length l) × (first_repeat l ≡ i + repeat_after (take i l) (drop i l))

module _ (l : List ℕ) (i : ℕ) (new : New l i) where
  pub repeats_at : i < length l → among (get_or l i 0) (take i l) ≡ true → i ≡ first_repeat l
  unfolding repeat_after
  repeats_at h e = let z : repeat_after (take i l) (drop i l) ≡ 0 = from_place (repeat_after (take i l)) l i 0 h ∙ simp e in omega (arith, new.1)

  pub new_at : i < length l → among (get_or l i 0) (take i l) ≡ false → New l (i + 1)
  unfolding repeat_after
  new_at h e =
      let z : repeat_after (take i l) (drop i l) ≡ suc (repeat_after (get_or l i 0 ∷ take i l) (drop (i + 1) l)) = from_place (repeat_after (take i l)) l i 0 h ∙ simp e in
      let w : repeat_after (get_or l i 0 ∷ take i l) (drop (i + 1) l) ≡ repeat_after (take (i + 1) l) (drop (i + 1) l) = same_after (drop (i + 1) l) _ _ (rw (add-one i) (taken_on l i h)) in
      (omega arith, omega (arith, new.1))

  pub all_new : length l ≤ i → i ≡ first_repeat l
  unfolding repeat_after
  all_new h = let z : repeat_after (take i l) (drop i l) ≡ 0 = from_end (repeat_after (take i l)) l i h in omega (arith, new.1)

-- ---- the tests of whole lists
pub good_tells : (l : List ℕ) → ltb (first_bad l) (length l) ≡ not (all_good l)
unfolding all_good
good_tells l = failing_tells good_symbol l

pub priced_tells : (l : List ℤ) → ltb (first_unpriced l) (length l) ≡ not (all_priced l)
unfolding all_priced
priced_tells l = failing_tells (le_z (pos 1)) l
