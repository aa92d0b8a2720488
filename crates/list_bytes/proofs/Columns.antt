-- A column that is filled place by place, in the order of the places, holds what was put, and what is left of it is as it was.
use Prim.Native.Nat.{ℕ, zero, suc, ◌+◌, ◌-◌, ◌/◌, ◌%◌, ◌≤◌, ◌<◌}
use mathlib.Core.Path.{◌≡◌, refl, sym, ap, ◌∙◌}
use mathlib.Core.Bool.{Bool, true, false}
use mathlib.Core.List.{List, [], ◌∷◌, ◌++◌, append_assoc}
use native.Mathlib.Omega.{arith}
use native.Mathlib.Numerals.{add-one}
use lib.Dec.{eqb, leb}
use lib.ListN.{length, take, drop, get_or, set, replicate, length-append}
use lib.Seq.{set_at, take_at, drop-cons}
use borrow.Author.Tests.{leb-true}
use Rattle.table.specs.Keyed.{pick}
use Rattle.table.specs.Rows.{padded_column}
use Rattle.table.proofs.Keyed.{both_true}
use Rattle.fills.specs.Records.{fronted}
use Rattle.list_bytes.specs.Entries.{is_whole, at_places_of}
use Rattle.list_bytes.specs.Inner.Entries.{count_of}

-- ---- how many are read
counted : (most n : ℕ) (b : Bool) → is_whole most n ≡ b → pick b (n / 16) 0 ≤ most
counted most n true e = leb-true (n / 16) most (both_true (eqb (n % 16) 0) (leb (n / 16) most) e).1
counted most n false e = omega arith

pub count_small : (most n : ℕ) → count_of most n ≤ most
count_small most n = counted most n (is_whole most n) refl

-- ---- a column

module _ {A : Type 0} where
  pub places-long : (n : ℕ) (f : ℕ → A) → length (at_places_of n f) ≡ n
  unfolding at_places_of
  places-long zero f = refl
  places-long (suc n) f = simp length-append (omega (arith, places-long n f))

  pub places_same : (n : ℕ) (f g : ℕ → A) → ((i : ℕ) → f i ≡ g i) → at_places_of n f ≡ at_places_of n g
  unfolding at_places_of
  places_same zero f g e = refl
  places_same (suc n) f g e = ap (λ k. k ++ (f n ∷ [])) (places_same n f g e) ∙ ap (λ k. at_places_of n g ++ (k ∷ [])) (e n)

  -- the next place of a column that holds a list first
  put_next : (n : ℕ) (f : ℕ → A) (s : List A) → n < length s → set (fronted (at_places_of n f) s) n (f n) ≡ fronted (at_places_of (suc n) f) s
  unfolding at_places_of
  put_next n f s h =
      let e : length (at_places_of n f) ≡ n = places-long n f in
      let m : length (at_places_of n f ++ (f n ∷ [])) ≡ suc n = simp length-append (omega arith) in
      simp (e, m, drop-cons s n (f n) h) (set_at (at_places_of n f) (get_or s n (f n)) (drop (suc n) s) (f n) n e ∙ sym (append_assoc (at_places_of n f) (f n ∷ []) (drop (suc n) s)))

  -- the same for code, whose next place is n + 1
  pub put_on : (n : ℕ) (f : ℕ → A) (s : List A) {l : List A} {v : A} → l ≡ fronted (at_places_of n f) s → v ≡ f n → n < length s → set l n v ≡ fronted (at_places_of (n + 1) f) s
  put_on n f s {l} {v} e g h =
      ap (λ k. set k n v) e ∙ ap (set (fronted (at_places_of n f) s) n) g ∙ put_next n f s h ∙ ap (λ k. fronted (at_places_of k f) s) (sym (add-one n))

  -- as many as are read: all of a whole list, or none
  read : (n : ℕ) (f : ℕ → A) (b : Bool) → at_places_of (pick b (n / 16) 0) f ≡ pick b (at_places_of (n / 16) f) []
  unfolding at_places_of
  read n f true = refl
  read n f false = refl

  pub read_all : (most n m : ℕ) (f : ℕ → A) (s : List A) {l : List A} → l ≡ fronted (at_places_of m f) s → m ≡ count_of most n → l ≡ fronted (pick (is_whole most n) (at_places_of (n / 16) f) []) s
  read_all most n m f s e g = e ∙ ap (λ k. fronted (at_places_of k f) s) g ∙ ap (λ k. fronted k s) (read n f (is_whole most n))

  -- a column that was zeros
  drop-same : (n w : ℕ) (z : A) → drop n (replicate w z) ≡ replicate (w - n) z
  drop-same zero w z = let e : w - 0 ≡ w = omega arith in simp e
  drop-same (suc n) zero z = let e : 0 - suc n ≡ 0 = omega arith in simp e
  drop-same (suc n) (suc w) z = let e : suc w - suc n ≡ w - n = omega arith in simp e (drop-same n w z)

  pub padded_is : (w : ℕ) (z : A) (l : List A) → fronted l (replicate w z) ≡ padded_column w z l
  padded_is w z l = ap (λ k. l ++ k) (drop-same (length l) w z)

  listed : (n : ℕ) (f : ℕ → A) (b : Bool) → length (pick b (at_places_of (n / 16) f) []) ≡ pick b (n / 16) 0
  listed n f true = places-long (n / 16) f
  listed n f false = refl

  -- as many places of a column are lent as are read, whatever is after them
  pub front_room : (most n : ℕ) (f : ℕ → A) (r : List A) → count_of most n ≤ length (pick (is_whole most n) (at_places_of (n / 16) f) [] ++ r)
  front_room most n f r = simp length-append (omega (arith, listed n f (is_whole most n)))

  pub front_long : (most n : ℕ) (f : ℕ → A) (r : List A) → length (take (count_of most n) (pick (is_whole most n) (at_places_of (n / 16) f) [] ++ r)) ≡ count_of most n
  front_long most n f r =
      let l = pick (is_whole most n) (at_places_of (n / 16) f) [] in
      let e : length l ≡ count_of most n = listed n f (is_whole most n) in
      ap length (take_at l r (count_of most n) e) ∙ e

  -- what a caller lends of a column is the whole list
  pub front_all : (most n : ℕ) (f : ℕ → A) (r : List A) → is_whole most n ≡ true → take (count_of most n) (pick (is_whole most n) (at_places_of (n / 16) f) [] ++ r) ≡ at_places_of (n / 16) f
  front_all most n f r e = simp e (take_at (at_places_of (n / 16) f) r (n / 16) (places-long (n / 16) f))
