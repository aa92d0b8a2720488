-- Columns that hold sound positions: the walk over their places, and what their soundness tells.
use Prim.Native.Nat.{ℕ, zero, suc, ◌+◌, ◌≤◌, ◌<◌}
use mathlib.Core.Path.{◌≡◌, refl, sym, ap, ◌∙◌}
use mathlib.Core.List.{List, [], ◌∷◌, ◌++◌}
use mathlib.Core.Bool.{Bool, true, false}
use native.Mathlib.Omega.{arith}
use native.Mathlib.Numerals.{add-one}
use lib.Dec.{leb, ltb}
use lib.ListN.{length, take, get_or}
use lib.Seq.{take-suc, get_or-take, length-take-le}
use borrow.Author.Tests.{lt-ltb, ltb-true, ltb-false, leb-true}
use Rattle.position.specs.Rows.{fresh}
use Rattle.position.specs.Fills.{sound}
use Rattle.position.specs.declared.position.Position.{Position}
use Rattle.table.specs.Keyed.{both, all}
use Rattle.table.specs.Rows.{zipped, rows, row_at, Full, ordered}
use Rattle.table.specs.declared.table.Columns.{Columns}
use Rattle.table.specs.Inner.Rows.{held_at, Ordered}
use Rattle.table.specs.declared.found.Found.TheVariants.{At}
use Rattle.table.proofs.Keyed.{both_true, both_false}
use Rattle.table.proofs.Zipped.{zipped-length, zipped_at}
use Rattle.table.proofs.Ordering.{test_orders, ordered_tests}
use Rattle.account.specs.Account.{sound_places, sound_columns}

-- ---- a walk over the first n places
pub held-row : (i s : ℕ) (c : Columns) → i < 64 → held_at (At i) s c ≡ row_at i c
held-row i s c h = simp (lt-ltb _ _ h)

module _ (i : ℕ) (c : Columns) (h : i < 64) where
  pub sound_on : sound_places i c ≡ true → sound (held_at (At i) 0 c) ≡ true → sound_places (i + 1) c ≡ true
  unfolding sound_places
  sound_on e g = rw add-one (simp (e, sym (ap sound (held-row i 0 c h)) ∙ g))

  not_here : (n : ℕ) → sound (held_at (At i) 0 c) ≡ false → (i < n → sound_places n c ≡ false) → i < suc n → (b : Bool) → ltb i n ≡ b → both (sound_places n c) (sound (row_at n c)) ≡ false
  not_here n g before l true e = simp (before (ltb-true i n e))
  not_here n g before l false e =
      let q : n ≡ i = omega (arith, ltb-false i n e) in
      let t : sound (row_at n c) ≡ false = rw q (sym (ap sound (held-row i 0 c h)) ∙ g) in
      rw t (both_false (sound_places n c))

  pub sound_not : sound (held_at (At i) 0 c) ≡ false → (n : ℕ) → i < n → sound_places n c ≡ false
  unfolding sound_places
  sound_not g zero l = absurd (omega arith)
  sound_not g (suc n) l = not_here n g (sound_not g n) l (ltb i n) refl

-- ---- the places as a list
abbrev pub all_sound : List Position → Bool
all_sound ps = all sound ps

pub both_unit : (b : Bool) → both b true ≡ b
both_unit true = refl
both_unit false = refl

both_assoc : (a b c : Bool) → both a (both b c) ≡ both (both a b) c
both_assoc true b c = refl
both_assoc false b c = refl

all_snoc : (ps : List Position) (p : Position) → all_sound (ps ++ (p ∷ [])) ≡ both (all_sound ps) (sound p)
all_snoc [] p = both_unit (sound p)
all_snoc (q ∷ ps) p = ap (both (sound q)) (all_snoc ps p) ∙ both_assoc (sound q) (all_sound ps) (sound p)

all_below : (ps : List Position) → all_sound ps ≡ true → (i : ℕ) → i < length ps → sound (get_or ps i (fresh 0)) ≡ true
all_below [] e i h = absurd (omega arith)
all_below (p ∷ ps) e zero h = (both_true (sound p) _ e).0
all_below (p ∷ ps) e (suc i) h = all_below ps (both_true (sound p) _ e).1 i (omega arith)

module _ (c : Columns) (f : Full c) where
  pub rows-length : (n : ℕ) → n ≤ 64 → length (rows n c) ≡ n
  rows-length n h = length-take-le n (zipped c) (omega (arith, zipped-length c f))

  pub row_of : (n i : ℕ) → i < n → get_or (rows n c) i (fresh 0) ≡ row_at i c
  row_of n i h = get_or-take n (zipped c) i (fresh 0) h ∙ zipped_at c i f

  pub places-rows : (n : ℕ) → n ≤ 64 → sound_places n c ≡ all_sound (rows n c)
  unfolding sound_places
  places-rows zero h = refl
  places-rows (suc n) h =
      let l : n < length (zipped c) = omega (arith, zipped-length c f) in
      let m : n ≤ 64 = omega arith in
      sym (ap all_sound (take-suc (zipped c) n (fresh 0) l) ∙ all_snoc (take n (zipped c)) _ ∙ rw (zipped_at c n f, sym (places-rows n m)))

-- ---- what callers cite
pub ordered-small : (n : ℕ) (c : Columns) → ordered n c ≡ true → n ≤ 64
unfolding ordered
ordered-small n c e = leb-true n 64 (both_true (leb n 64) _ e).0

module _ (n : ℕ) (c : Columns) (f : Full c) where
  pub sound-orders : sound_columns n c ≡ true → Ordered n c
  unfolding sound_columns
  sound-orders e = test_orders n c f (both_true (ordered n c) _ e).0

  pub sound-rows : sound_columns n c ≡ true → all_sound (rows n c) ≡ true
  unfolding sound_columns
  sound-rows e =
      let p = both_true (ordered n c) _ e in
      sym (places-rows c f n (ordered-small n c p.0)) ∙ p.1

  -- each of the positions in use is sound
  pub sound_at : sound_columns n c ≡ true → (i : ℕ) → i < n → sound (row_at i c) ≡ true
  sound_at e i h =
      let o = sound-orders e in
      let l : i < length (rows n c) = omega (arith, rows-length c f n o.small) in
      sym (ap sound (row_of c f n i h)) ∙ all_below (rows n c) (sound-rows e) i l

pub orders-sound : (n : ℕ) (c : Columns) → Ordered n c → all_sound (rows n c) ≡ true → sound_columns n c ≡ true
unfolding sound_columns
orders-sound n c o e = simp (ordered_tests n c o, places-rows c o.full n o.small, e)
