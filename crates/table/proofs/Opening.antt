-- Laws of columns: a place opened in one, and several side by side.
use Prim.Native.Nat.{ℕ, zero, suc, ◌+◌, ◌-◌, ◌≤◌, ◌<◌}
use mathlib.Core.Path.{◌≡◌, refl, sym, ap, ◌∙◌}
use mathlib.Core.List.{List, [], ◌∷◌}
use native.Mathlib.Omega.{arith}
use native.Mathlib.Numerals.{add-one}
use lib.ListN.{length, take, drop, get_or, set}
use borrow.Author.Tests.{lt-ltb, le-ltb, le-leb, lt-leb}
use Rattle.table.specs.Rows.{zip2}
use Rattle.table.specs.Inner.Rows.{pushed, opened, opened_at}
use Rattle.table.proofs.Keyed.{both_false}

-- ---- opening a place, one step of the loop
module _ {A : Type 0} where
  pub opened_on : (j m : ℕ) (v d : A) (l : List A) → opened (suc j) m (get_or l j d) (set l j v) ≡ opened j (suc m) v l
  opened_on zero m v d [] = refl
  opened_on zero m v d (x ∷ l) = refl
  opened_on (suc j) m v d [] = refl
  opened_on (suc j) m v d (x ∷ l) = ap (λ t. x ∷ t) (opened_on j m v d l)

  pub opened-last : (j : ℕ) (v : A) (l : List A) → set l j v ≡ opened j 0 v l
  opened-last zero v [] = refl
  opened-last zero v (x ∷ l) = refl
  opened-last (suc j) v [] = refl
  opened-last (suc j) v (x ∷ l) = ap (λ t. x ∷ t) (opened-last j v l)

  -- the loop at place j of a column with room: what is carried, put there with the rest moved up, gives the column asked for
  pub record Opening (room n : ℕ) (asked : List A) (j : ℕ) (carry : A) (l : List A) : Type 0 where
    pub within : j ≤ n
    pub below : n < room
    pub same : opened j (n - j) carry l ≡ asked

  module _ (room n : ℕ) (asked : List A) where
    pub opening_on : (j : ℕ) (carry d : A) (l : List A) → Opening room n asked j carry l → j < n → Opening room n asked (j + 1) (get_or l j d) (set l j carry)
    opening_on j carry d l o h =
        let e : n - j ≡ suc (n - (j + 1)) = omega arith in
        record { within = omega arith; below = o.below; same = rw add-one (opened_on j _ carry d l) ∙ rw e at o.same }

    pub opening-last : (j : ℕ) (carry : A) (l : List A) → Opening room n asked j carry l → n ≤ j → set l n carry ≡ asked
    opening-last j carry l o h =
        let e : j ≡ n = omega arith in
        let z : n - n ≡ 0 = omega arith in
        opened-last n carry l ∙ rw (e, z) at o.same

  module _ (i n : ℕ) (v : A) (l₀ : List A) where
    pub opened_in : n < 64 → i ≤ n → opened_at i n v l₀ ≡ opened i (n - i) v l₀
    unfolding opened_at
    opened_in h g = simp (lt-ltb _ _ h, le-leb _ _ g)

    pub opened_past : n < i → opened_at i n v l₀ ≡ l₀
    unfolding opened_at
    opened_past h = simp (lt-leb _ _ h, both_false)

    pub opened-full : 64 ≤ n → opened_at i n v l₀ ≡ l₀
    unfolding opened_at
    opened-full h = simp (le-ltb _ _ h)

    pub opening-first : n < 64 → i ≤ n → Opening 64 n (opened_at i n v l₀) i v l₀
    opening-first h g = record { within = g; below = h; same = sym (opened_in h g) }

  length-pushed : (m : ℕ) (v : A) (l : List A) → length (pushed m v l) ≡ length l
  length-pushed m v [] = refl
  length-pushed zero v (x ∷ l) = refl
  length-pushed (suc m) v (x ∷ l) = ap suc (length-pushed m x l)

  pub length-opened : (i m : ℕ) (v : A) (l : List A) → length (opened i m v l) ≡ length l
  length-opened zero m v l = length-pushed m v l
  length-opened (suc i) m v [] = refl
  length-opened (suc i) m v (x ∷ l) = ap suc (length-opened i m v l)

  -- the part in use: v is inserted; the rest stays
  take-pushed : (m : ℕ) (v : A) (l : List A) → m < length l → take (suc m) (pushed m v l) ≡ v ∷ take m l
  take-pushed m v [] h = absurd (omega arith)
  take-pushed zero v (x ∷ l) h = refl
  take-pushed (suc m) v (x ∷ l) h = ap (λ t. v ∷ t) (take-pushed m x l (omega arith))

  drop-pushed : (m : ℕ) (v : A) (l : List A) → drop (suc m) (pushed m v l) ≡ drop (suc m) l
  drop-pushed m v [] = refl
  drop-pushed zero v (x ∷ l) = refl
  drop-pushed (suc m) v (x ∷ l) = drop-pushed m x l

  abbrev pub insert_at : ℕ → A → List A → List A
  insert_at zero v l = v ∷ l
  insert_at (suc i) v [] = v ∷ []
  insert_at (suc i) v (x ∷ l) = x ∷ insert_at i v l

  pub take-opened : (i m n : ℕ) (v : A) (l : List A) → n ≡ i + m → n < length l → take (suc n) (opened i m v l) ≡ insert_at i v (take n l)
  take-opened zero m n v l e h = let q : n ≡ m = omega arith in rw q (take-pushed m v l (omega arith))
  take-opened (suc i) m n v [] e h = absurd (omega arith)
  take-opened (suc i) m zero v (x ∷ l) e h = absurd (omega arith)
  take-opened (suc i) m (suc n) v (x ∷ l) e h = ap (λ t. x ∷ t) (take-opened i m n v l (omega arith) (omega arith))

  pub drop-opened : (i m n : ℕ) (v : A) (l : List A) → n ≡ i + m → drop (suc n) (opened i m v l) ≡ drop (suc n) l
  drop-opened zero m n v l e = let q : n ≡ m = omega arith in rw q (drop-pushed m v l)
  drop-opened (suc i) m n v [] e = refl
  drop-opened (suc i) m zero v (x ∷ l) e = absurd (omega arith)
  drop-opened (suc i) m (suc n) v (x ∷ l) e = drop-opened i m n v l (omega arith)

-- ---- columns side by side
module _ {A B C : Type 0} (f : A → B → C) where
  pub zip_set : (xs : List A) (ys : List B) (i : ℕ) (x : A) (y : B) → zip2 f (set xs i x) (set ys i y) ≡ set (zip2 f xs ys) i (f x y)
  zip_set [] ys i x y = refl
  zip_set (a ∷ xs) [] zero x y = refl
  zip_set (a ∷ xs) [] (suc i) x y = refl
  zip_set (a ∷ xs) (b ∷ ys) zero x y = refl
  zip_set (a ∷ xs) (b ∷ ys) (suc i) x y = ap (λ t. f a b ∷ t) (zip_set xs ys i x y)

  zip_pushed : (m : ℕ) (x : A) (y : B) (xs : List A) (ys : List B) → zip2 f (pushed m x xs) (pushed m y ys) ≡ pushed m (f x y) (zip2 f xs ys)
  zip_pushed m x y [] ys = refl
  zip_pushed zero x y (a ∷ xs) [] = refl
  zip_pushed (suc m) x y (a ∷ xs) [] = refl
  zip_pushed zero x y (a ∷ xs) (b ∷ ys) = refl
  zip_pushed (suc m) x y (a ∷ xs) (b ∷ ys) = ap (λ t. f x y ∷ t) (zip_pushed m a b xs ys)

  pub zip_opened : (i m : ℕ) (x : A) (y : B) (xs : List A) (ys : List B) → zip2 f (opened i m x xs) (opened i m y ys) ≡ opened i m (f x y) (zip2 f xs ys)
  zip_opened zero m x y xs ys = zip_pushed m x y xs ys
  zip_opened (suc i) m x y [] ys = refl
  zip_opened (suc i) m x y (a ∷ xs) [] = refl
  zip_opened (suc i) m x y (a ∷ xs) (b ∷ ys) = ap (λ t. f a b ∷ t) (zip_opened i m x y xs ys)

  pub zip_length : (n : ℕ) (xs : List A) (ys : List B) → length xs ≡ n → length ys ≡ n → length (zip2 f xs ys) ≡ n
  zip_length n [] ys h g = h
  zip_length n (a ∷ xs) [] h g = g
  zip_length zero (a ∷ xs) (b ∷ ys) h g = absurd (omega arith)
  zip_length (suc n) (a ∷ xs) (b ∷ ys) h g = ap suc (zip_length n xs ys (omega arith) (omega arith))

  pub zip_get_d : (xs : List A) (ys : List B) (i : ℕ) (d : A) (e : B) → length xs ≡ length ys → get_or (zip2 f xs ys) i (f d e) ≡ f (get_or xs i d) (get_or ys i e)
  zip_get_d [] [] i d e h = refl
  zip_get_d [] (b ∷ ys) i d e h = absurd (omega arith)
  zip_get_d (a ∷ xs) [] i d e h = absurd (omega arith)
  zip_get_d (a ∷ xs) (b ∷ ys) zero d e h = refl
  zip_get_d (a ∷ xs) (b ∷ ys) (suc i) d e h = zip_get_d xs ys i d e (omega arith)
