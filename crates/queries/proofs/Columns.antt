-- Weights put into two columns one after another.
use Prim.Native.Nat.{ℕ, suc, ◌+◌, ◌-◌, ◌≤◌, ◌<◌}
use mathlib.Core.Path.{◌≡◌, refl, sym, ap, ◌∙◌}
use mathlib.Core.Bool.{Bool, true, false}
use mathlib.Core.List.{List, [], ◌∷◌, ◌++◌, map, append_assoc, append-nil, map-append}
use native.Mathlib.Omega.{arith}
use native.Mathlib.Numerals.{add-one}
use lib.ListN.{length, take, get_or, set, replicate, length-append, length-map}
use lib.Seq.{take-suc, set-append_seam, length-take-le}
use lib.IntN.{ℤ, pos}
use lib.Ieee.{Float, fin}
use Rattle.doubles.specs.Doubles.{of_i64}
use Rattle.position.specs.declared.position.Position.{Position}
use Rattle.position.specs.Rows.{fresh, key_of}
use Rattle.table.specs.Keyed.{pick}
use Rattle.table.specs.Rows.{is_zero, padded_column}
use Rattle.queries.specs.declared.answered.Weighed.{Weighed}
use Rattle.queries.specs.Queries.{Weight, open_ones, weight_of, weigh}
use Rattle.queries.specs.Answers.{weighed}
use Rattle.queries.specs.Inner.Places.{PositionPrices, weight_columns, added_weight}

-- ---- a column
module _ {A : Type 0} (z x : A) (l : List A) (h : length l < 64) where
  more : (k : ℕ) → 64 - length l ≡ suc k → set (padded_column 64 z l) (length l) x ≡ padded_column 64 z (l ++ (x ∷ []))
  more k e =
      let f : 64 - length (l ++ (x ∷ [])) ≡ k = omega (arith, length-append l (x ∷ [])) in
      rw (e, f) (set-append_seam l z (replicate k z) x ∙ sym (append_assoc l (x ∷ []) (replicate k z)))

  pub next_place : set (padded_column 64 z l) (length l) x ≡ padded_column 64 z (l ++ (x ∷ []))
  next_place = more (63 - length l) (omega arith)

column-more : {A : Type 0} (f : Weight → A) (z : A) (l : List Weight) (w : Weight) → length l < 64 → set (padded_column 64 z (map f l)) (length l) (f w) ≡ padded_column 64 z (map f (l ++ (w ∷ [])))
column-more f z l w h =
    let n : length (map f l) ≡ length l = length-map l f in
    ap (λ k. set (padded_column 64 z (map f l)) k (f w)) (sym n) ∙ next_place z (f w) (map f l) (omega arith) ∙ ap (padded_column 64 z) (sym (map-append f l (w ∷ [])))

-- one weight more
weighed-more : (l : List Weight) (w : Weight) → length l < 64
    → weight_columns ((weighed l).count + 1) (set (weighed l).symbol (weighed l).count w.symbol) (set (weighed l).weight (weighed l).count w.weight) ≡ weighed (l ++ (w ∷ []))
unfolding weighed
weighed-more l w h =
    simp (column-more (λ v. v.symbol) 0 l w h, column-more (λ v. v.weight) (fin false 0 (pos 0)) l w h, length-append)

-- ---- the open ones of a list
open_append : (ps qs : List Position) → open_ones (ps ++ qs) ≡ open_ones ps ++ open_ones qs
unfolding open_ones
open_append [] qs = refl
open_append (p ∷ ps) qs = go (is_zero p.quantity.0) (open_append ps qs)
  where
    go : (z : Bool) → open_ones (ps ++ qs) ≡ open_ones ps ++ open_ones qs → pick z (open_ones (ps ++ qs)) (p ∷ open_ones (ps ++ qs)) ≡ pick z (open_ones ps) (p ∷ open_ones ps) ++ open_ones qs
    go true e = e
    go false e = ap (λ l. p ∷ l) e

open_most : (ps : List Position) → length (open_ones ps) ≤ length ps
unfolding open_ones
open_most [] = omega arith
open_most (p ∷ ps) = go (is_zero p.quantity.0) (open_most ps)
  where
    go : (z : Bool) → length (open_ones ps) ≤ length ps → length (pick z (open_ones ps) (p ∷ open_ones ps)) ≤ suc (length ps)
    go true h = omega arith
    go false h = omega arith

module _ (price : ℕ → ℤ) (equity : ℤ) where
  weigh-append : (ps qs : List Position) → weigh price equity (ps ++ qs) ≡ weigh price equity ps ++ weigh price equity qs
  unfolding weigh
  weigh-append [] qs = refl
  weigh-append (p ∷ ps) qs = ap (λ l. weight_of price equity p ∷ l) (weigh-append ps qs)

  weigh-length : (ps : List Position) → length (weigh price equity ps) ≡ length ps
  unfolding weigh
  weigh-length [] = refl
  weigh-length (p ∷ ps) = ap suc (weigh-length ps)

  abbrev weights : List Position → List Weight
  weights ps = weigh price equity (open_ones ps)

  added-last : (ps : List Position) (p : Position) → length ps < 64 → (z : Bool) → is_zero p.quantity.0 ≡ z
      → added_weight p (price (key_of p)) (of_i64 equity) (weighed (weights ps)) ≡ weighed (weights (ps ++ (p ∷ [])))
  unfolding added_weight weight_of open_ones weigh weighed
  added-last ps p h true e =
      let o : open_ones (ps ++ (p ∷ [])) ≡ open_ones ps ++ [] = open_append ps (p ∷ []) ∙ rw e in
      rw e (sym (ap (λ l. weighed (weigh price equity l)) (o ∙ append-nil (open_ones ps))))
  added-last ps p h false e =
      let s : length (weights ps) < 64 = omega (arith, weigh-length (open_ones ps), open_most ps) in
      let o : open_ones (ps ++ (p ∷ [])) ≡ open_ones ps ++ (p ∷ []) = open_append ps (p ∷ []) ∙ rw e in
      rw e (weighed-more (weights ps) (weight_of price equity p) s ∙ sym (ap weighed (ap (weigh price equity) o ∙ weigh-append (open_ones ps) (p ∷ []))))

-- the weight of the position at place i
pub added_at : (price : ℕ → ℤ) (equity : ℤ) (ps : List Position) (i : ℕ) → i < length ps → i < 64 → let p = get_or ps i (fresh 0) in
    added_weight p (price (key_of p)) (of_i64 equity) (weighed (weigh price equity (open_ones (take i ps)))) ≡ weighed (weigh price equity (open_ones (take (i + 1) ps)))
added_at price equity ps i h k =
    let l : length (take i ps) < 64 = omega (arith, length-take-le i ps (omega arith)) in
    added-last price equity (take i ps) (get_or ps i (fresh 0)) l _ refl
    ∙ sym (ap (λ qs. weighed (weigh price equity (open_ones qs))) (rw (add-one, take-suc ps i (fresh 0))))

-- the same, as the walk finds the position p and its price
pub added_on : (price : ℕ → ℤ) (equity : ℤ) (ps : List Position) (ls : List ℤ) (i : ℕ) → i < length ps → i < 64 → (p : Position) → p ≡ get_or ps i (fresh 0) → PositionPrices price ps ls
    → (c : Weighed) → c ≡ weighed (weigh price equity (open_ones (take i ps))) → added_weight p (get_or ls i (pos 0)) (of_i64 equity) c ≡ weighed (weigh price equity (open_ones (take (i + 1) ps)))
added_on price equity ps ls i h k p e listed c l = rw (l, e, listed i h) (added_at price equity ps i h k)

-- each position adds one at most
pub added-most : (p : Position) (price : ℤ) (equity : Float) (c : Weighed) → (added_weight p price equity c).count ≤ c.count + 1
unfolding added_weight
added-most p price equity c = go (is_zero p.quantity.0) _ refl
  where
    go : (z : Bool) (d : Weighed) → d.count ≡ c.count + 1 → (pick z c d).count ≤ c.count + 1
    go true d e = omega arith
    go false d e = omega arith
