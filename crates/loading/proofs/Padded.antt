-- A column that was zeros, with a list from its first place on.
use mathlib.Core.Path.{◌≡◌, refl, ◌∙◌, ap}
use Prim.Native.Nat.{ℕ, zero, suc, ◌+◌, ◌-◌, ◌≤◌}
use native.Mathlib.Omega.{arith}
use mathlib.Core.List.{List, [], ◌∷◌, ◌++◌}
use lib.ListN.{length, get_or, drop, replicate, length-replicate}
use lib.Seq.{sets, sets-eq}
use Rattle.table.specs.Rows.{padded_column}

module _ {A : Type 0} where
  drop-same : (n w : ℕ) (z : A) → drop n (replicate w z) ≡ replicate (w - n) z
  drop-same zero w z = let e : w - 0 ≡ w = omega arith in simp e
  drop-same (suc n) zero z = let e : 0 - suc n ≡ 0 = omega arith in simp e
  drop-same (suc n) (suc w) z = let e : suc w - suc n ≡ w - n = omega arith in simp e (drop-same n w z)

  pub sets_padded : (w : ℕ) (z : A) (l : List A) → length l ≤ w → sets (replicate w z) 0 l ≡ padded_column w z l
  sets_padded w z l h =
      let e : 0 + length l ≡ length l = omega arith in
      sets-eq l (replicate w z) 0 (simp length-replicate (omega arith)) ∙ ap (λ k. l ++ drop k (replicate w z)) e ∙ ap (λ k. l ++ k) (drop-same (length l) w z)

  -- what stands at a place: 0 behind the list too
  zero_at : (n i : ℕ) (z : A) → get_or (replicate n z) i z ≡ z
  zero_at zero i z = refl
  zero_at (suc n) zero z = refl
  zero_at (suc n) (suc i) z = zero_at n i z

  padded_at : (l : List A) (n i : ℕ) (z : A) → get_or (l ++ replicate n z) i z ≡ get_or l i z
  padded_at [] n i z = zero_at n i z
  padded_at (x ∷ l) n zero z = refl
  padded_at (x ∷ l) n (suc i) z = padded_at l n i z

  pub sets_at : (w : ℕ) (z : A) (l : List A) (i : ℕ) → length l ≤ w → get_or (sets (replicate w z) 0 l) i z ≡ get_or l i z
  sets_at w z l i h = ap (λ k. get_or k i z) (sets_padded w z l h) ∙ padded_at l (w - length l) i z
