-- Laws of the price that a list gives: it is that of the place found, 0 where the symbol is not listed, else at least 1.
use Prim.Native.Nat.{ℕ, suc, ◌+◌, ◌≤◌, ◌<◌}
use mathlib.Core.Path.{◌≡◌, refl, sym, ap, ◌∙◌}
use mathlib.Core.List.{List, [], ◌∷◌}
use mathlib.Core.Bool.{Bool, true, false}
use native.Mathlib.Omega.{arith}
use lib.Dec.{leb, eqb}
use lib.IntN.{ℤ, pos}
use lib.Signed.{le_z}
use lib.ListN.{length, take, get_or, get_or-eq_default}
use lib.Seq.{take_all}
use mir.Syntax.{w64}
use mir.Val.{SFits}
use borrow.Author.Tests.{leb-true, leb-false, eqb-true, eqb-false}
use Rattle.table.specs.Keyed.{pick}
use Rattle.table.specs.Inner.Keyed.{Rising}
use Rattle.table.specs.Inner.Places.{found_from, found, Finds}
use Rattle.table.specs.declared.found.Found.{Found}
use Rattle.table.specs.declared.found.Found.TheVariants.{At, Absent}
use Rattle.table.proofs.Keyed.{both_true}
use Rattle.call_lists.specs.Lists.{among, all_priced, price_of}
use Rattle.call_lists.specs.Inner.Quotes.{quoted}
use Rattle.call_lists.proofs.Lists.{below_first, below_not_among}

-- ---- what a symbol is priced at
pub price_of_unlisted : (s : ℕ) (ks : List ℕ) (ps : List ℤ) → among s ks ≡ false → price_of ks ps s ≡ pos 0
unfolding among price_of
price_of_unlisted s [] ps e = refl
price_of_unlisted s (k ∷ ks) [] e = refl
price_of_unlisted s (k ∷ ks) (p ∷ ps) e = go (eqb k s) e (price_of_unlisted s ks ps)
  where
    go : (b : Bool) → pick b true (among s ks) ≡ false → (among s ks ≡ false → price_of ks ps s ≡ pos 0) → pick b p (price_of ks ps s) ≡ pos 0
    go true h ih = let z : ◌≡◌ {A = ℕ} 0 1 = cc in absurd (omega arith)
    go false h ih = ih h

pub price_of_listed : (s : ℕ) (ks : List ℕ) (ps : List ℤ) → length ks ≡ length ps → all_priced ps ≡ true → among s ks ≡ true → le_z (pos 1) (price_of ks ps s) ≡ true
unfolding among all_priced price_of
price_of_listed s [] ps l a e = let z : ◌≡◌ {A = ℕ} 0 1 = cc in absurd (omega arith)
price_of_listed s (k ∷ ks) [] l a e = absurd (omega arith)
price_of_listed s (k ∷ ks) (p ∷ ps) l a e =
    let each = both_true (le_z (pos 1) p) (all_priced ps) a in
    go (eqb k s) e each.0 (price_of_listed s ks ps (omega arith) each.1)
  where
    go : (b : Bool) → pick b true (among s ks) ≡ true → le_z (pos 1) p ≡ true → (among s ks ≡ true → le_z (pos 1) (price_of ks ps s) ≡ true) → le_z (pos 1) (pick b p (price_of ks ps s)) ≡ true
    go true h g ih = g
    go false h g ih = ih h

-- what holds of every price and of 0 holds of it
pub price-fits : (s : ℕ) (ks : List ℕ) (ps : List ℤ) → ((i : ℕ) → SFits w64 (get_or ps i (pos 0))) → SFits w64 (price_of ks ps s)
unfolding price_of
price-fits s [] ps f = let h : length ps ≤ length ps = omega arith in rw (get_or-eq_default ps (pos 0) h) at (f (length ps))
price-fits s (k ∷ ks) [] f = f 0
price-fits s (k ∷ ks) (p ∷ ps) f = go (eqb k s) (price-fits s ks ps (λ i. f (suc i)))
  where
    go : (b : Bool) → SFits w64 (price_of ks ps s) → SFits w64 (pick b p (price_of ks ps s))
    go true ih = f 0
    go false ih = ih

-- ---- the place found
pub record Priced (ps : List ℤ) (k i : ℕ) (x : ℤ) : Type 0 where
  pub j : ℕ
  pub from : i ≡ k + j
  pub price : x ≡ get_or ps j (pos 0)

priced_past : (p : ℤ) (ps : List ℤ) (k i : ℕ) (x : ℤ) → Priced ps (k + 1) i x → Priced (p ∷ ps) k i x
priced_past p ps k i x h = record { j = suc h.j; from = omega (arith, h.from); price = h.price }

priced-none : (k i j : ℕ) → i ≡ k + j → Priced [] k i (pos 0)
priced-none k i j e = record { j = j; from = e; price = refl }

pub price_at_found : (s : ℕ) (ks : List ℕ) (ps : List ℤ) (k i : ℕ) → found_from k s ks ≡ At i → Priced ps k i (price_of ks ps s)
unfolding price_of
price_at_found s [] ps k i e = let z : ◌≡◌ {A = ℕ} 0 1 = cc in absurd (omega arith)
price_at_found s (x ∷ ks) [] k i e = go (leb s x) (eqb x s) e (price_at_found s ks [] (k + 1) i)
  where
    go : (a b : Bool) → pick a (pick b (At k) (Absent k)) (found_from (k + 1) s ks) ≡ At i → (found_from (k + 1) s ks ≡ At i → Priced [] (k + 1) i (price_of ks [] s)) → Priced [] k i (pos 0)
    go true true h ih = let q : k ≡ i = cc in priced-none k i 0 (omega arith)
    go true false h ih = let z : ◌≡◌ {A = ℕ} 0 1 = cc in absurd (omega arith)
    go false b h ih = let r = ih h in priced-none k i (suc r.j) (omega (arith, r.from))
price_at_found s (x ∷ ks) (p ∷ ps) k i e = go (leb s x) (eqb x s) refl refl e (price_at_found s ks ps (k + 1) i)
  where
    go : (a b : Bool) → leb s x ≡ a → eqb x s ≡ b → pick a (pick b (At k) (Absent k)) (found_from (k + 1) s ks) ≡ At i
        → (found_from (k + 1) s ks ≡ At i → Priced ps (k + 1) i (price_of ks ps s)) → Priced (p ∷ ps) k i (pick b p (price_of ks ps s))
    go true true q r h ih = let e : k ≡ i = cc in record { j = 0; from = omega arith; price = refl }
    go true false q r h ih = let z : ◌≡◌ {A = ℕ} 0 1 = cc in absurd (omega arith)
    go false false q r h ih = priced_past p ps k i (price_of ks ps s) (ih h)
    go false true q r h ih = absurd (omega (arith, leb-false s x q, eqb-true x s r))

-- a search that ends at a greater symbol, or at the end, leaves nothing behind it where the symbols ascend
pub absent_not_among : (s : ℕ) (ks : List ℕ) (k i : ℕ) → Rising ks → found_from k s ks ≡ Absent i → among s ks ≡ false
unfolding among
absent_not_among s [] k i r e = refl
absent_not_among s (x ∷ ks) k i r e = go (leb s x) (eqb x s) refl refl e (absent_not_among s ks (k + 1) i r.1)
  where
    less : s ≤ x → (x ≡ s → ⊥) → s < x
    less h g = omega (arith, h, g)

    go : (a b : Bool) → leb s x ≡ a → eqb x s ≡ b → pick a (pick b (At k) (Absent k)) (found_from (k + 1) s ks) ≡ Absent i
        → (found_from (k + 1) s ks ≡ Absent i → among s ks ≡ false) → pick b true (among s ks) ≡ false
    go true true q t h ih = let z : ◌≡◌ {A = ℕ} 0 1 = cc in absurd (omega arith)
    go true false q t h ih = below_not_among s ks (below_first s x ks (less (leb-true s x q) (eqb-false x s t)) r.0) r.1
    go false false q t h ih = ih h
    go false true q t h ih = absurd (omega (arith, leb-false s x q, eqb-true x s t))

-- ---- a lookup, from what the search promises
module _ (ks : List ℕ) (ps : List ℤ) (s : ℕ) (f : Found) (h : Finds s (take (length ks) ks) f) (i : ℕ) where
  whole : take (length ks) ks ≡ ks
  whole = take_all (length ks) ks (omega arith)

  settled : Rising ks → f ≡ found s ks
  settled r = rw whole at (h.settled (rw whole r))

  pub found_within : f ≡ At i → i < length ks
  found_within e = rw whole at (rw e at h.within)

  pub quote_at : f ≡ At i → Rising ks → record { price = get_or ps i (pos 0); next = i + 1 } ≡ quoted ks ps s
  quote_at e r =
      let g : found s ks ≡ At i = sym (settled r) ∙ e in
      let q = price_at_found s ks ps 0 i g in
      let j : q.j ≡ i = omega (arith, q.from) in
      let p : price_of ks ps s ≡ get_or ps i (pos 0) = q.price ∙ ap (λ k. get_or ps k (pos 0)) j in
      simp (p, g)

  pub quote_absent : f ≡ Absent i → Rising ks → record { price = pos 0; next = i } ≡ quoted ks ps s
  quote_absent e r =
      let g : found s ks ≡ Absent i = sym (settled r) ∙ e in
      let p : price_of ks ps s ≡ pos 0 = price_of_unlisted s ks ps (absent_not_among s ks 0 i r g) in
      simp (p, g)
