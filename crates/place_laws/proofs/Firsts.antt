-- The index that the definitions give is bad, within its list, and no earlier one is.
use Prim.Native.Nat.{ℕ, zero, suc, ◌≤◌, ◌<◌}
use mathlib.Core.Path.{◌≡◌, refl, sym, ap, ◌∙◌}
use mathlib.Core.List.{List, [], ◌∷◌}
use mathlib.Core.Bool.{Bool, true, false, not}
use mathlib.Core.Logic.{◌⊎◌, inl, inr, ⊎_elim}
use native.Mathlib.Omega.{arith}
use lib.Dec.{eqb, ltb}
use lib.ListN.{length, get_or}
use borrow.Author.Tests.{ltb-true, eq-eqb, eqb-true}
use Rattle.table.specs.Keyed.{pick, both, all}
use Rattle.table.proofs.Keyed.{both_true}
use Rattle.call_lists.specs.Lists.{among, distinct, first_failing, repeat_after, first_repeat}
use Rattle.call_lists.proofs.Lists.{distinct_apart}
use Rattle.call_lists.proofs.Firsts.{failing_tells, repeat_tells}
use Rattle.place_laws.specs.Statement.{EarlierToo, First, None}

clash : {A : Type 0} (b : Bool) → b ≡ true → b ≡ false → A
clash b p q = absurd (let z : ◌≡◌ {A = Bool} true false = sym p ∙ q in let n : ◌≡◌ {A = ℕ} 0 1 = cc in omega arith)

-- ---- the first that fails a test
module _ {A : Type 0} (t : A → Bool) (d : A) where
  pub holds_everywhere : (l : List A) → all t l ≡ true → (j : ℕ) → j < length l → t (get_or l j d) ≡ true
  holds_everywhere [] e j h = absurd (omega arith)
  holds_everywhere (x ∷ l) e zero h = (both_true (t x) (all t l) e).0
  holds_everywhere (x ∷ l) e (suc j) h = holds_everywhere l (both_true (t x) (all t l) e).1 j (omega arith)

  fails_there : (l : List A) → first_failing t l < length l → t (get_or l (first_failing t l) d) ≡ false
  unfolding first_failing
  fails_there [] h = absurd (omega arith)
  fails_there (x ∷ l) h = go (t x) refl h (fails_there l)
    where
      go : (b : Bool) → t x ≡ b → pick b (suc (first_failing t l)) 0 < suc (length l) → (first_failing t l < length l → t (get_or l (first_failing t l) d) ≡ false)
          → t (get_or (x ∷ l) (pick b (suc (first_failing t l)) 0) d) ≡ false
      go true e h ih = ih (omega arith)
      go false e h ih = e

  holds-before : (l : List A) (j : ℕ) → j < first_failing t l → t (get_or l j d) ≡ true
  unfolding first_failing
  holds-before [] j h = absurd (omega arith)
  holds-before (x ∷ l) j h = go (t x) refl j h (holds-before l)
    where
      go : (b : Bool) → t x ≡ b → (j : ℕ) → j < pick b (suc (first_failing t l)) 0 → ((j : ℕ) → j < first_failing t l → t (get_or l j d) ≡ true) → t (get_or (x ∷ l) j d) ≡ true
      go true e zero h ih = e
      go true e (suc j) h ih = ih j (omega arith)
      go false e j h ih = absurd (omega arith)

  pub first_failing_lem : (l : List A) → all t l ≡ false → First (λ i. t (get_or l i d) ≡ false) (length l) (first_failing t l)
  first_failing_lem l e =
      let w : first_failing t l < length l = ltb-true _ _ (failing_tells t l ∙ ap not e) in
      record { within = w; bad-there = fails_there l w; none_before = λ j h b. clash (t (get_or l j d)) (holds-before l j h) b }

  pub none_failing : (l : List A) → all t l ≡ true → None (λ i. t (get_or l i d) ≡ false) (length l)
  none_failing l e j h b = clash (t (get_or l j d)) (holds_everywhere l e j h) b

-- ---- the first that stands earlier too
-- with others before the list
among_either : (x s : ℕ) (before : List ℕ) → among x (s ∷ before) ≡ true → (s ≡ x) ⊎ (among x before ≡ true)
unfolding among
among_either x s before e = go (eqb s x) refl e
  where
    go : (b : Bool) → eqb s x ≡ b → pick b true (among x before) ≡ true → (s ≡ x) ⊎ (among x before ≡ true)
    go true q e = inl (eqb-true s x q)
    go false q e = inr e

among_neither : (x s : ℕ) (before : List ℕ) → among x (s ∷ before) ≡ false → (s ≡ x → ⊥) × (among x before ≡ false)
unfolding among
among_neither x s before e = go (eqb s x) refl e
  where
    go : (b : Bool) → eqb s x ≡ b → pick b true (among x before) ≡ false → (s ≡ x → ⊥) × (among x before ≡ false)
    go true q e = clash true refl e
    go false q e = ((λ p. clash (eqb s x) (eq-eqb s x p) q), e)

stands : (before l : List ℕ) (i : ℕ) → Type 0
stands before l i = (among (get_or l i 0) before ≡ true) ⊎ EarlierToo l i

repeats_there : (before l : List ℕ) → repeat_after before l < length l → stands before l (repeat_after before l)
unfolding repeat_after stands
repeats_there before [] h = absurd (omega arith)
repeats_there before (s ∷ l) h = go (among s before) refl h (repeats_there (s ∷ before) l)
  where
    i : ℕ
    i = repeat_after (s ∷ before) l

    later : EarlierToo l i → EarlierToo (s ∷ l) (suc i)
    later e = record { at = suc e.at; before = omega (arith, e.before); same = e.same }

    go : (b : Bool) → among s before ≡ b → pick b 0 (suc i) < suc (length l) → (i < length l → (among (get_or l i 0) (s ∷ before) ≡ true) ⊎ EarlierToo l i)
        → (among (get_or (s ∷ l) (pick b 0 (suc i)) 0) before ≡ true) ⊎ EarlierToo (s ∷ l) (pick b 0 (suc i))
    go true e h ih = inl e
    go false e h ih = ⊎_elim
        (λ a. ⊎_elim (λ (q : s ≡ get_or l i 0). inr (record { at = 0; before = omega arith; same = q })) (λ a. inl a) (among_either (get_or l i 0) s before a))
        (λ e. inr (later e))
        (ih (omega arith))

new-before : (before l : List ℕ) (j : ℕ) → j < repeat_after before l → (among (get_or l j 0) before ≡ false) × (EarlierToo l j → ⊥)
unfolding repeat_after
new-before before [] j h = absurd (omega arith)
new-before before (s ∷ l) j h = go (among s before) refl j h (new-before (s ∷ before) l)
  where
    i : ℕ
    i = repeat_after (s ∷ before) l

    at_first : EarlierToo (s ∷ l) 0 → ⊥
    at_first e = omega (arith, e.before)

    at_next : (j : ℕ) → (s ≡ get_or l j 0 → ⊥) → (EarlierToo l j → ⊥) → EarlierToo (s ∷ l) (suc j) → ⊥
    at_next j n m e = go e.at e.before e.same
      where
        go : (k : ℕ) → k < suc j → get_or (s ∷ l) k 0 ≡ get_or l j 0 → ⊥
        go zero h q = n q
        go (suc k) h q = m (record { at = k; before = omega arith; same = q })

    go : (b : Bool) → among s before ≡ b → (j : ℕ) → j < pick b 0 (suc i) → ((j : ℕ) → j < i → (among (get_or l j 0) (s ∷ before) ≡ false) × (EarlierToo l j → ⊥))
        → (among (get_or (s ∷ l) j 0) before ≡ false) × (EarlierToo (s ∷ l) j → ⊥)
    go true e j h ih = absurd (omega arith)
    go false e zero h ih = (e, at_first)
    go false e (suc j) h ih =
        let w = ih j (omega arith) in
        let n = among_neither (get_or l j 0) s before w.0 in
        (n.1, at_next j n.0 w.1)

pub first-repeat : (l : List ℕ) → distinct l ≡ false → First (EarlierToo l) (length l) (first_repeat l)
unfolding among stands
first-repeat l e =
    let w : first_repeat l < length l = ltb-true _ _ (repeat_tells l ∙ ap not e) in
    record {
      within = w;
      bad-there = ⊎_elim (λ a. clash false a refl) (λ e. e) (repeats_there [] l w);
      none_before = λ j h. (new-before [] l j h).1;
    }

pub none_twice : (l : List ℕ) → distinct l ≡ true → None (EarlierToo l) (length l)
none_twice l e j h b = distinct_apart l b.at j e b.before h b.same
