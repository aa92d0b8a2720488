-- A loop over the first m places of two columns side by side: at which place a turn stands, and how many turns there were.
use Rattle.std.proofs.Common.{◌≡◌, ℕ, ◌+◌, ◌<◌, ◌≤◌, min, List, [], ◌∷◌, map, length, take, get_or, Bor, Option, Some, None, refl, sym, ap, ◌∙◌, arith}
use mathlib.Core.Path.{subst}
use lib.ListN.{length-map}
use Rattle.std.proofs.Math.Seq.{get_or-take, length-take-le}
use Rattle.std.specs.declared.iter.Zip.{Zip}
use Rattle.std.specs.Iterator.{Yields}
use Rattle.std.specs.declared.iter.Enumerate.{Enumerate}
use Rattle.std.specs.Iterator.Adapters.{zip_first, zip_second, enumerate_source, enumerate_count, enumerate_steps}
use Rattle.std.specs.Slice.Iter.{iter_rest}
use Rattle.std.proofs.Common.{Iter}
use Rattle.std.proofs.iter.Yields.{fronts}
use Rattle.std.proofs.lemmas.Iterator.{zips}
use Rattle.std.proofs.lemmas.Slice.Zip.{zip_turn, zip_end}

pub record Turn {A B : Type 0} (m : ℕ) (ks : List A) (vs : List B) (i : ℕ) (p : Bor A × Bor B) : Type 0 where
  pub below : i < m
  pub left : (d : A) → p.0.now ≡ get_or ks i d
  pub right : (d : B) → p.1.now ≡ get_or vs i d

-- a turn over the first m places is one at the same place of all
pub turn_among : {A B : Type 0} (m : ℕ) (ks : List A) (vs : List B) (i : ℕ) (p : Bor A × Bor B) → m ≤ length ks → Turn (min (length (take m ks)) (length (take m vs))) (take m ks) (take m vs) i p → Turn m ks vs i p
turn_among m ks vs i p hk t =
    let l : i < m = omega (arith, t.below, length-take-le m ks hk) in
    record {
      below = l;
      left = λ d. t.left d ∙ get_or-take m ks i d l;
      right = λ d. t.right d ∙ get_or-take m vs i d l;
    }

module _ {A B : Type 0} (m : ℕ) (ks : List A) (vs : List B) (xs : List (Bor A × Bor B)) (s t u : Zip (Iter A) (Iter B)) (r : Option (Bor A × Bor B))
    (hk : m ≤ length ks) (hv : m ≤ length vs) (first : iter_rest (zip_first s) ≡ take m ks) (second : iter_rest (zip_second s) ≡ take m vs) (y : Yields (zips fronts fronts) s xs t) where
  pub pair_turn : (p : Bor A × Bor B) → r ≡ Some p → zips fronts fronts t r u → Turn m ks vs (length xs) p
  pair_turn p e h =
      let z = zip_turn (take m ks) (take m vs) xs s t u r first second y p e h in
      turn_among m ks vs (length xs) p hk (record { below = omega (arith, z.0, z.1); left = z.2; right = z.3 })

  pub pair_end : r ≡ None → zips fronts fronts t r u → length xs ≡ m
  pair_end e h =
      let z = zip_end (take m ks) (take m vs) xs s t u r first second y e h in
      omega (arith, z, length-take-le m ks hk, length-take-le m vs hv)

-- ---- the same with the place beside the pair
module _ {S A : Type 0} (steps : S → Option A → S → Type 0) where
  numbered : (xs : List (ℕ × A)) (s t : Enumerate S) → Yields (enumerate_steps steps) s xs t
      → Yields steps (enumerate_source s) (map (λ p. p.1) xs) (enumerate_source t) × (enumerate_count t ≡ enumerate_count s + length xs)
  numbered [] s t y = (ap enumerate_source y, omega (arith, ap enumerate_count y))
  numbered (x ∷ xs) s t y =
      let rest = numbered xs y.0 t y.2 in
      ((enumerate_source y.0, y.1.0, rest.0), omega (arith, rest.1, y.1.2))

module _ {A B : Type 0} (ks : List A) (vs : List B) (xs : List (ℕ × (Bor A × Bor B))) (s t u : Enumerate (Zip (Iter A) (Iter B))) (r : Option (ℕ × (Bor A × Bor B)))
    (first : iter_rest (zip_first (enumerate_source s)) ≡ ks) (second : iter_rest (zip_second (enumerate_source s)) ≡ vs) (count : enumerate_count s ≡ 0) (y : Yields (enumerate_steps (zips fronts fronts)) s xs t) where
  pub numbered_turn : (p : ℕ × (Bor A × Bor B)) → r ≡ Some p → enumerate_steps (zips fronts fronts) t r u
      → (p.0 ≡ length xs) × Turn (min (length ks) (length vs)) ks vs (length xs) p.1
  numbered_turn p e h =
      let n = numbered (zips fronts fronts) xs s t y in
      let g = subst (λ o. enumerate_steps (zips fronts fronts) t o u) e h in
      let l : length (map (λ (q : ℕ × (Bor A × Bor B)). q.1) xs) ≡ length xs = length-map xs (λ q. q.1) in
      let z = zip_turn ks vs (map (λ q. q.1) xs) (enumerate_source s) (enumerate_source t) (enumerate_source u) (Some p.1) first second n.0 p.1 refl g.0 in
      let w = rw l at z in
      (omega (arith, g.1, n.1, count), record { below = omega (arith, w.0, w.1); left = w.2; right = w.3 })

  pub numbered_end : r ≡ None → enumerate_steps (zips fronts fronts) t r u → length xs ≡ min (length ks) (length vs)
  numbered_end e h =
      let n = numbered (zips fronts fronts) xs s t y in
      let g = subst (λ o. enumerate_steps (zips fronts fronts) t o u) e h in
      let l : length (map (λ (q : ℕ × (Bor A × Bor B)). q.1) xs) ≡ length xs = length-map xs (λ q. q.1) in
      sym l ∙ zip_end ks vs (map (λ q. q.1) xs) (enumerate_source s) (enumerate_source t) (enumerate_source u) None first second n.0 refl g.0
