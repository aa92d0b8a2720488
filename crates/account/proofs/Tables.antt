-- A table as a list of positions, and back.
use Prim.Native.Nat.{ℕ, zero, suc, ◌-◌, ◌≤◌}
use mathlib.Core.Path.{◌≡◌, refl, sym, ap, ◌∙◌}
use mathlib.Core.List.{List, [], ◌∷◌, ◌++◌, map}
use mathlib.Core.Bool.{true}
use native.Mathlib.Omega.{arith}
use lib.IntN.{pos}
use lib.ListN.{length, take, drop, replicate, length-append, length-map, length-replicate, take-append-drop}
use lib.Seq.{take_at, drop_at}
use Rattle.position.specs.Rows.{row, fresh, key_of, held, avg, realized, total}
use Rattle.position.specs.declared.position.Position.{Position}
use Rattle.table.specs.Keyed.{ascending}
use Rattle.table.specs.Rows.{zip2, padded_column, columns_of, zipped, rows, Full}
use Rattle.table.specs.declared.table.Columns.{Columns}
use Rattle.table.specs.Inner.Rows.{Ordered}
use Rattle.table.specs.declared.table.Table.{Table}
use Rattle.table.proofs.Keyed.{ascending_rises}
use Rattle.table.proofs.Zipped.{map-take, symbols_of_lem, quantities_of, averages_of, realized_of, totals_of}
use Rattle.account.specs.Account.{sound_table, held_in, table_of}
use Rattle.account.specs.Inner.Account.{table_with}
use Rattle.account.proofs.Columns.{all_sound, rows-length, sound-orders, orders-sound}

-- ---- lists
module _ {A B : Type 0} (g : A → B) where
  map-drop : (n : ℕ) (l : List A) → map g (drop n l) ≡ drop n (map g l)
  map-drop zero l = refl
  map-drop (suc n) [] = refl
  map-drop (suc n) (x ∷ l) = map-drop n l

  map-replicate : (n : ℕ) (a : A) → map g (replicate n a) ≡ replicate n (g a)
  map-replicate zero a = refl
  map-replicate (suc n) a = ap (λ l. g a ∷ l) (map-replicate n a)

-- two columns of one list, with as many places after them
zip_padded : {A B C P : Type 0} (f : A → B → C) (g : P → A) (h : P → B) (k : ℕ) (a : A) (b : B) (ps : List P) → zip2 f (map g ps ++ replicate k a) (map h ps ++ replicate k b) ≡ map (λ p. f (g p) (h p)) ps ++ replicate k (f a b)
zip_padded f g h zero a b [] = refl
zip_padded f g h (suc k) a b [] = ap (λ l. f a b ∷ l) (zip_padded f g h k a b [])
zip_padded f g h k a b (p ∷ ps) = ap (λ l. f (g p) (h p) ∷ l) (zip_padded f g h k a b ps)

map_same : (ps : List Position) → map (λ p. row (key_of p) (held p) (avg p) (realized p) (total p)) ps ≡ ps
map_same [] = refl
map_same (p ∷ ps) = ap (λ l. p ∷ l) (map_same ps)

-- ---- from columns to a list and back
-- "Unused places are zero, so equal views are equal accounts"
module _ (n : ℕ) (c : Columns) (o : Ordered n c) where
  column : {A : Type 0} (g : Position → A) (l : List A) → map g (zipped c) ≡ l → padded_column 64 (g (fresh 0)) (map g (rows n c)) ≡ l
  column g l e =
      let used : length (map g (rows n c)) ≡ n = length-map (rows n c) g ∙ rows-length c o.full n o.small in
      let front : map g (rows n c) ≡ take n l = map-take g n (zipped c) ∙ ap (take n) e in
      let rest : replicate (64 - n) (g (fresh 0)) ≡ drop n l = sym (map-replicate g (64 - n) (fresh 0)) ∙ sym (ap (map g) o.rest) ∙ map-drop g n (zipped c) ∙ ap (drop n) e in
      ap (λ k. map g (rows n c) ++ replicate (64 - k) (g (fresh 0))) used ∙ rw (front, rest) (take-append-drop n l)

  pub ordered-table : table_of (rows n c) ≡ table_with n c
  unfolding table_of
  ordered-table = simp (
    rows-length c o.full n o.small,
    column key_of c.symbol (symbols_of_lem c o.full),
    column held c.quantity (quantities_of c o.full),
    column avg c.average (averages_of c o.full),
    column realized c.realized (realized_of c o.full),
    column total c.total (totals_of c o.full),
  )

pub held-table : (t : Table) → Full (columns_of t) → sound_table t ≡ true → table_of (held_in t) ≡ t
held-table t f e = ordered-table t.count (columns_of t) (sound-orders t.count (columns_of t) f e)

pub equal_tables : (t u : Table) → Full (columns_of t) → Full (columns_of u) → sound_table t ≡ true → sound_table u ≡ true → held_in t ≡ held_in u → t ≡ u
equal_tables t u f g a b e = sym (held-table t f a) ∙ ap table_of e ∙ held-table u g b

-- ---- from a list to columns and back
padded-length : {A P : Type 0} (z : A) (g : P → A) (ps : List P) → length ps ≤ 64 → length (padded_column 64 z (map g ps)) ≡ 64
padded-length z g ps h = simp (length-append, length-replicate, length-map) (omega arith)

module _ (ps : List Position) (h : length ps ≤ 64) where
  table-zipped : zipped (columns_of (table_of ps)) ≡ ps ++ replicate (64 - length ps) (fresh 0)
  unfolding table_of zipped
  table-zipped = simp (length-map, zip_padded, map_same)

  table-full : Full (columns_of (table_of ps))
  unfolding table_of
  table-full = record {
    symbol = padded-length 0 key_of ps h;
    quantity = padded-length (pos 0) held ps h;
    average = padded-length (pos 0) avg ps h;
    realized = padded-length (pos 0) realized ps h;
    total = padded-length (pos 0) total ps h;
  }

  pub table-held : held_in (table_of ps) ≡ ps
  unfolding table_of
  table-held = ap (take (length ps)) table-zipped ∙ take_at ps _ (length ps) refl

  pub table-ordered : ascending (map key_of ps) ≡ true → Ordered (table_of ps).count (columns_of (table_of ps))
  unfolding table_of
  table-ordered e = record {
    small = h;
    full = table-full;
    rising = rw (take_at (map key_of ps) (replicate (64 - length (map key_of ps)) 0) (length ps) (length-map ps key_of)) (ascending_rises (map key_of ps) e);
    rest = ap (drop (length ps)) table-zipped ∙ drop_at ps _ (length ps) refl;
  }

  pub table-sound : ascending (map key_of ps) ≡ true → all_sound ps ≡ true → sound_table (table_of ps) ≡ true
  table-sound e s = orders-sound (table_of ps).count (columns_of (table_of ps)) (table-ordered e) (ap all_sound table-held ∙ s)
