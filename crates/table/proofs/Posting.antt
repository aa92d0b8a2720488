-- What replacing and inserting in all five columns does to the list of positions.
use Prim.Native.Nat.{ℕ, suc, ◌+◌, ◌-◌, ◌≤◌, ◌<◌}
use mathlib.Core.Path.{◌≡◌, refl, sym, ap, subst, ◌∙◌}
use mathlib.Core.List.{List, map}
use mathlib.Core.Bool.{Bool, true, false}
use mathlib.Core.Option.{some}
use native.Mathlib.Omega.{arith}
use native.Mathlib.Numerals.{add-one}
use lib.Dec.{leb, ltb}
use lib.ListN.{length, take, drop, get_or, set, replicate, length-set}
use lib.Seq.{drop-cons, get_or-take, length-take-le, take-set-lt, drop-set-lt}
use borrow.Author.Tests.{le-leb, lt-ltb, le-ltb, ltb-true, ltb-false}
use Rattle.position.specs.Rows.{fresh, key_of}
use Rattle.position.specs.declared.position.Position.{Position}
use Rattle.table.specs.Keyed.{pick, both, seek, put, put64}
use Rattle.table.specs.Inner.Keyed.{Rising}
use Rattle.table.specs.Inner.Places.{found}
use Rattle.table.specs.Rows.{zipped, rows, Full, holding, row_at}
use Rattle.table.specs.declared.table.Columns.{Columns}
use Rattle.table.specs.Inner.Rows.{Ordered, Puts, CountedCols, counted_cols, opened, set_all, open_all, held_at, posted}
use Rattle.table.specs.declared.found.Found.{Found}
use Rattle.table.specs.declared.found.Found.TheVariants.{At, Absent}
use Rattle.table.proofs.Keyed.{put64_rises}
use Rattle.table.proofs.Places.{Stands, Lacks, stands, lacks}
use Rattle.table.proofs.Opening.{insert_at, length-opened, take-opened, drop-opened}
use Rattle.table.proofs.Zipped.{zipped-set, zipped_open, zipped-length, zipped_at, keys_of}

full-set : (i : ℕ) (p : Position) (c : Columns) → Full c → Full (set_all i p c)
full-set i p c f = record { symbol = simp length-set f.symbol; quantity = simp length-set f.quantity; average = simp length-set f.average; realized = simp length-set f.realized; total = simp length-set f.total }

full_open : (i m : ℕ) (p : Position) (c : Columns) → Full c → Full (open_all i m p c)
full_open i m p c f = record { symbol = simp length-opened f.symbol; quantity = simp length-opened f.quantity; average = simp length-opened f.average; realized = simp length-opened f.realized; total = simp length-opened f.total }

rest_on : (n : ℕ) (l : List Position) (m : ℕ) → n < length l → drop n l ≡ replicate (suc m) (fresh 0) → drop (suc n) l ≡ replicate m (fresh 0)
rest_on n l m h e = let k = drop-cons l n (fresh 0) h in cc

rising_of : (p : Position) (n : ℕ) (c : Columns) (r : ℕ) (d : Columns) → Full c → Rising (take n c.symbol) → Full d → rows r d ≡ put64 key_of p (rows n c) → Rising (take r d.symbol)
rising_of p n c r d f h g e =
    let u : Rising (map key_of (rows n c)) = subst (λ l. Rising l) (sym (keys_of n c f)) h in
    subst (λ l. Rising l) (sym (ap (map key_of) e) ∙ keys_of r d g) (put64_rises key_of p (rows n c) u)

-- ---- the place that was found
module _ (n i : ℕ) (p : Position) (c : Columns) (s : Ordered n c) where
  used : length (rows n c) ≡ n
  used = length-take-le _ _ (omega (arith, zipped-length c s.full, s.small))

  at_place : found (key_of p) (take n c.symbol) ≡ At i → Stands (fresh 0) 0 i p (rows n c) (put key_of p (rows n c)) (seek key_of (key_of p) (rows n c))
  at_place h = stands key_of (fresh 0) p (rows n c) 0 i (ap (found (key_of p)) (keys_of n c s.full) ∙ h)

  at_gap : found (key_of p) (take n c.symbol) ≡ Absent i → Lacks 0 i p (rows n c) (put key_of p (rows n c)) (seek key_of (key_of p) (rows n c))
  at_gap h = lacks key_of (fresh 0) p (rows n c) 0 i (ap (found (key_of p)) (keys_of n c s.full) ∙ h)

  place_below : found (key_of p) (take n c.symbol) ≡ At i → i < n
  place_below h = let g = at_place h in omega (arith, used, g.from, g.below)

  gap_below : found (key_of p) (take n c.symbol) ≡ Absent i → i ≤ n
  gap_below h = let g = at_gap h in omega (arith, used, g.from, g.below)

  seek_at : found (key_of p) (take n c.symbol) ≡ At i → seek key_of (key_of p) (rows n c) ≡ some (row_at i c)
  seek_at h =
      let g = at_place h in
      let q : g.j ≡ i = omega (arith, g.from) in
      g.got ∙ ap some (ap (λ k. get_or (rows n c) k (fresh 0)) q ∙ get_or-take n (zipped c) i (fresh 0) (place_below h) ∙ zipped_at c i s.full)

  set_puts : found (key_of p) (take n c.symbol) ≡ At i → Puts p n c n (set_all i p c)
  set_puts h =
      let g = at_place h in
      let b = place_below h in
      let q : g.j ≡ i = omega (arith, g.from) in
      let w : put64 key_of p (rows n c) ≡ set (rows n c) g.j p = simp (g.got, g.same) in
      let e : rows n (set_all i p c) ≡ put64 key_of p (rows n c) = ap (take n) (zipped-set i p c) ∙ take-set-lt n (zipped c) i p b ∙ sym (w ∙ ap (λ k. set (rows n c) k p) q) in
      let f = full-set i p c s.full in
      record {
        ordered = record {
          small = s.small;
          full = f;
          rising = rising_of p n c n (set_all i p c) s.full s.rising f e;
          rest = ap (drop n) (zipped-set i p c) ∙ drop-set-lt n (zipped c) i p b ∙ s.rest;
        };
        same = e;
      }

  open_puts : found (key_of p) (take n c.symbol) ≡ Absent i → n < 64 → Puts p n c (n + 1) (open_all i (n - i) p c)
  open_puts h r =
      let g = at_gap h in
      let b = gap_below h in
      let q : g.j ≡ i = omega (arith, g.from) in
      let e : n ≡ i + (n - i) = omega arith in
      let z = zipped-length c s.full in
      let l : length (rows n c) < 64 = omega (arith, used) in
      let w : n < length (zipped c) = omega arith in
      let m : 64 - n ≡ suc (64 - (n + 1)) = omega arith in
      let t : put64 key_of p (rows n c) ≡ insert_at g.j p (rows n c) = simp (g.got, lt-ltb _ _ l, g.same) in
      let u : drop (n + 1) (opened i (n - i) p (zipped c)) ≡ drop (suc n) (zipped c) = rw add-one (drop-opened i (n - i) n p (zipped c) e) in
      let v : take (n + 1) (opened i (n - i) p (zipped c)) ≡ insert_at i p (rows n c) = rw add-one (take-opened i (n - i) n p (zipped c) e w) in
      let x : rows (n + 1) (open_all i (n - i) p c) ≡ put64 key_of p (rows n c) = ap (take (n + 1)) (zipped_open i (n - i) p c) ∙ v ∙ sym (t ∙ ap (λ k. insert_at k p (rows n c)) q) in
      let f = full_open i (n - i) p c s.full in
      record {
        ordered = record {
          small = omega arith;
          full = f;
          rising = rising_of p n c (n + 1) (open_all i (n - i) p c) s.full s.rising f x;
          rest = ap (drop (n + 1)) (zipped_open i (n - i) p c) ∙ u ∙ rest_on n (zipped c) (64 - (n + 1)) w (s.rest ∙ ap (λ k. replicate k (fresh 0)) m);
        };
        same = x;
      }

  full_puts : found (key_of p) (take n c.symbol) ≡ Absent i → 64 ≤ n → Puts p n c n c
  full_puts h r =
      let g = at_gap h in
      let l : 64 ≤ length (rows n c) = omega (arith, used) in
      record { ordered = s; same = sym (simp (g.got, le-ltb _ _ l)) }

-- ---- what callers cite
-- the position read at the place that was found is the one of the list
pub held_is_holding : (n s : ℕ) (c : Columns) (f : Found) → Ordered n c → f ≡ found s (take n c.symbol) → held_at f s c ≡ holding s (rows n c)
held_is_holding n s c (At i) o e =
    let b = place_below n i (fresh s) c o (sym e) in
    let l : i < 64 = omega (arith, o.small) in
    simp (lt-ltb _ _ l, seek_at n i (fresh s) c o (sym e))
held_is_holding n s c (Absent i) o e = simp (at_gap n i (fresh s) c o (sym e)).got

abbrev PutsTo : Position → ℕ → Columns → CountedCols → Type 0
PutsTo p n c t = Puts p n c t.count t.columns

-- posting at the place that was found puts the position into the list
pub posted_puts : (n : ℕ) (c : Columns) (f : Found) (p : Position) → Ordered n c → f ≡ found (key_of p) (take n c.symbol) → PutsTo p n c (posted f p (counted_cols n c))
posted_puts n c (At i) p o e =
    let b = place_below n i p c o (sym e) in
    let l : i < 64 = omega (arith, o.small) in
    simp (lt-ltb _ _ l) (set_puts n i p c o (sym e))
posted_puts n c (Absent i) p o e = go (ltb n 64) refl
  where
    b : leb i n ≡ true
    b = le-leb _ _ (gap_below n i p c o (sym e))

    go : (r : Bool) → ltb n 64 ≡ r → PutsTo p n c (pick (both r (leb i n)) (counted_cols (n + 1) (open_all i (n - i) p c)) (counted_cols n c))
    go true h = simp b (open_puts n i p c o (sym e) (ltb-true _ _ h))
    go false h = full_puts n i p c o (sym e) (ltb-false _ _ h)
