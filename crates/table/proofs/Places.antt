-- Laws of the search: what it may skip, what it finds, and what stands at the place that it finds.
use Prim.Native.Nat.{ℕ, zero, suc, ◌+◌, ◌≤◌, ◌<◌, min}
use mathlib.Core.Path.{◌≡◌, refl, sym, ap, ◌∙◌}
use mathlib.Core.List.{List, [], ◌∷◌, map}
use mathlib.Core.Bool.{Bool, true, false}
use mathlib.Core.Option.{Option, none, some}
use native.Mathlib.Omega.{arith}
use lib.Dec.{eqb, leb, ltb}
use lib.ListN.{length, take, get_or, set, drop, drop_of_length-le}
use lib.Seq.{drop-cons, take_all, get_or-take, length-take-le}
use native.Mathlib.Numerals.{add-one}
use borrow.Author.Tests.{ltb-true, ltb-false, le-leb, lt-leb, eq-eqb, ne_eqb}
use Rattle.table.specs.Keyed.{pick, seek, put}
use Rattle.table.specs.Inner.Keyed.{Rising}
use Rattle.table.specs.Inner.Places.{shorter, found_from, found, Finds}
use Rattle.table.specs.declared.found.Found.TheVariants.{At, Absent}
use Rattle.table.proofs.Keyed.{rising_strict}
use Rattle.table.proofs.Opening.{insert_at}

-- ---- the count of places in use
pub shorter-min : (n m : ℕ) → shorter n m ≡ min n m
shorter-min n m = go (ltb n m) refl
  where
    go : (b : Bool) → ltb n m ≡ b → pick b n m ≡ min n m
    go true e = omega (arith, ltb-true n m e)
    go false e = omega (arith, ltb-false n m e)

pub shorter-within : (n m : ℕ) → shorter n m ≤ m
shorter-within n m = omega (arith, shorter-min n m)

pub shorter_below : (n m : ℕ) → shorter n m ≤ n
shorter_below n m = omega (arith, shorter-min n m)

pub shorter-same : (n m : ℕ) → n ≤ m → shorter n m ≡ n
shorter-same n m h = omega (arith, shorter-min n m)

-- a count beyond the length takes the whole list
pub take-shorter : (n : ℕ) (l : List ℕ) → take (shorter n (length l)) l ≡ take n l
take-shorter n l = go (ltb n (length l)) refl
  where
    go : (b : Bool) → ltb n (length l) ≡ b → take (pick b n (length l)) l ≡ take n l
    go true e = refl
    go false e =
        let h = ltb-false n (length l) e in
        take_all (length l) l (omega arith) ∙ sym (take_all n l (omega (arith, h)))

-- a count of places in use that a list bounds
module _ {r : ℕ} (n : ℕ) (l : List ℕ) (e : r ≡ shorter n (length l)) where
  pub used_within : r ≤ length l
  used_within = omega (arith, e, shorter-within n (length l))

  pub used_same : take r l ≡ take n l
  used_same = ap (λ k. take k l) e ∙ take-shorter n l

-- and leaves nothing after it
pub drop-shorter : {A : Type 0} (n : ℕ) (l : List A) → drop (shorter n (length l)) l ≡ drop n l
drop-shorter n l = go (ltb n (length l)) refl
  where
    go : (b : Bool) → ltb n (length l) ≡ b → drop (pick b n (length l)) l ≡ drop n l
    go true e = refl
    go false e =
        let h = ltb-false n (length l) e in
        let s : length l ≤ length l = omega arith in
        drop_of_length-le l s ∙ sym (drop_of_length-le l h)

-- ---- what a search finds
skips : (l : List ℕ) (k i s : ℕ) → ((j : ℕ) → j < i → get_or l j 0 < s) → i ≤ length l → found_from k s l ≡ found_from (k + i) s (drop i l)
skips l k zero s b h = let q : k ≡ k + 0 = omega arith in ap (λ m. found_from m s l) q
skips [] k (suc i) s b h = absurd (omega arith)
skips (x ∷ l) k (suc i) s b h =
    let t = b 0 (omega arith) in
    let q : k + 1 + i ≡ k + suc i = omega arith in
    simp (lt-leb s x t) (skips l (k + 1) i s (λ j g. b (suc j) (omega arith)) (omega arith) ∙ ap (λ m. found_from m s (drop i l)) q)

-- where every key before place i is below s
module _ (l : List ℕ) (s i : ℕ) (b : (j : ℕ) → j < i → get_or l j 0 < s) where
  next : i < length l → found s l ≡ found_from i s (get_or l i 0 ∷ drop (i + 1) l)
  next h =
      let q : 0 + i ≡ i = omega arith in
      skips l 0 i s b (omega arith) ∙ ap (λ m. found_from m s (drop i l)) q ∙ ap (found_from i s) (drop-cons l i 0 h ∙ ap (λ m. get_or l i 0 ∷ drop m l) (sym (add-one i)))

  pub found_at : i < length l → get_or l i 0 ≡ s → found s l ≡ At i
  found_at h q =
      let g : s ≤ get_or l i 0 = omega arith in
      next h ∙ simp (le-leb _ _ g, eq-eqb _ _ q)

  pub found_not : i < length l → s ≤ get_or l i 0 → (get_or l i 0 ≡ s → ⊥) → found s l ≡ Absent i
  found_not h g q = next h ∙ simp (le-leb _ _ g, ne_eqb _ _ q)

  pub found-end : i ≡ length l → found s l ≡ Absent i
  found-end h =
      let q : 0 + i ≡ i = omega arith in
      let e : length l ≤ i = omega arith in
      skips l 0 i s b (omega arith) ∙ ap (λ m. found_from m s (drop i l)) q ∙ rw drop_of_length-le

-- ---- what a search of keys may answer
module _ (keys : List ℕ) (key i : ℕ) where
  pub finds_at : i < length keys → (Rising keys → get_or keys i 0 ≡ key) → Finds key keys (At i)
  finds_at h e = record {
    within = h;
    settled = λ r. sym (found_at keys key i (λ j g. omega (arith, rising_strict keys j i r g h, e r)) h (e r));
  }

  between : i ≤ length keys → (b : (j : ℕ) → j < i → get_or keys j 0 < key) → ((j : ℕ) → i ≤ j → j < length keys → key < get_or keys j 0) → found key keys ≡ Absent i
  between h b a = go (ltb i (length keys)) refl
    where
      go : (x : Bool) → ltb i (length keys) ≡ x → found key keys ≡ Absent i
      go true e =
          let l = ltb-true i (length keys) e in
          let g = a i (omega arith) l in
          found_not keys key i b l (omega arith) (λ q. omega arith)
      go false e = found-end keys key i b (omega (arith, ltb-false i (length keys) e))

  pub finds_between : i ≤ length keys → (Rising keys → ((j : ℕ) → j < i → get_or keys j 0 < key) × ((j : ℕ) → i ≤ j → j < length keys → key < get_or keys j 0)) → Finds key keys (Absent i)
  finds_between h b = record { within = h; settled = λ r. let s = b r in sym (between h s.0 s.1) }

-- a key that rises stands at one place only
pub finds_there : (keys : List ℕ) (n : ℕ) → n ≤ length keys → (key i : ℕ) → i < n → get_or keys i 0 ≡ key → Finds key (take n keys) (At i)
finds_there keys n room key i h e = finds_at (take n keys) key i (omega (arith, length-take-le n keys room)) (λ r. get_or-take n keys i 0 h ∙ e)

-- ---- the place that is found is where an element is put: it stands there, or is missing there
pub record Stands {A : Type 0} (d : A) (k i : ℕ) (p : A) (l out : List A) (o : Option A) : Type 0 where
  pub j : ℕ
  pub from : i ≡ k + j
  pub below : j < length l
  pub same : out ≡ set l j p
  pub got : o ≡ some (get_or l j d)

pub record Lacks {A : Type 0} (k i : ℕ) (p : A) (l out : List A) (o : Option A) : Type 0 where
  pub j : ℕ
  pub from : i ≡ k + j
  pub below : j ≤ length l
  pub same : out ≡ insert_at j p l
  pub got : o ≡ none

module _ {A : Type 0} (key : A → ℕ) (d p : A) where
  stands_cons : (b e : Bool) (k i : ℕ) (q : A) (qs : List A) → (found_from (k + 1) (key p) (map key qs) ≡ At i → Stands d (k + 1) i p qs (put key p qs) (seek key (key p) qs))
      → pick b (pick e (At k) (Absent k)) (found_from (k + 1) (key p) (map key qs)) ≡ At i
      → Stands d k i p (q ∷ qs) (pick b (pick e (p ∷ qs) (p ∷ (q ∷ qs))) (q ∷ put key p qs)) (pick b (pick e (some q) none) (seek key (key p) qs))
  stands_cons true true k i q qs ih h =
      let z : k ≡ i = cc in
      record { j = 0; from = omega arith; below = omega arith; same = refl; got = refl }
  stands_cons true false k i q qs ih h = let z : ◌≡◌ {A = ℕ} 0 1 = cc in absurd (omega arith)
  stands_cons false e k i q qs ih h =
      let s = ih h in
      record { j = suc s.j; from = omega (arith, s.from); below = omega (arith, s.below); same = ap (λ (l : List A). q ∷ l) s.same; got = s.got }

  pub stands : (l : List A) (k i : ℕ) → found_from k (key p) (map key l) ≡ At i → Stands d k i p l (put key p l) (seek key (key p) l)
  stands [] k i h = let z : ◌≡◌ {A = ℕ} 0 1 = cc in absurd (omega arith)
  stands (q ∷ qs) k i h = stands_cons (leb (key p) (key q)) (eqb (key q) (key p)) k i q qs (stands qs (k + 1) i) h

  lacks_cons : (b e : Bool) (k i : ℕ) (q : A) (qs : List A) → (found_from (k + 1) (key p) (map key qs) ≡ Absent i → Lacks (k + 1) i p qs (put key p qs) (seek key (key p) qs))
      → pick b (pick e (At k) (Absent k)) (found_from (k + 1) (key p) (map key qs)) ≡ Absent i
      → Lacks k i p (q ∷ qs) (pick b (pick e (p ∷ qs) (p ∷ (q ∷ qs))) (q ∷ put key p qs)) (pick b (pick e (some q) none) (seek key (key p) qs))
  lacks_cons true true k i q qs ih h = let z : ◌≡◌ {A = ℕ} 0 1 = cc in absurd (omega arith)
  lacks_cons true false k i q qs ih h =
      let z : k ≡ i = cc in
      record { j = 0; from = omega arith; below = omega arith; same = refl; got = refl }
  lacks_cons false e k i q qs ih h =
      let s = ih h in
      record { j = suc s.j; from = omega (arith, s.from); below = omega (arith, s.below); same = ap (λ (l : List A). q ∷ l) s.same; got = s.got }

  pub lacks : (l : List A) (k i : ℕ) → found_from k (key p) (map key l) ≡ Absent i → Lacks k i p l (put key p l) (seek key (key p) l)
  lacks [] k i h = let z : k ≡ i = cc in record { j = 0; from = omega arith; below = omega arith; same = refl; got = refl }
  lacks (q ∷ qs) k i h = lacks_cons (leb (key p) (key q)) (eqb (key q) (key p)) k i q qs (lacks qs (k + 1) i) h
