-- Laws of the five columns read as one list of positions.
use Prim.Native.Nat.{ℕ, zero, suc}
use mathlib.Core.Path.{◌≡◌, refl, sym, ap, ◌∙◌}
use mathlib.Core.List.{List, [], ◌∷◌, map}
use lib.IntN.{ℤ, pos}
use lib.ListN.{length, take, get_or, set, length-map, get_or-map}
use lib.Seq.{ext_get_or}
use Rattle.position.specs.Rows.{row, fresh, key_of}
use Rattle.position.specs.declared.position.Position.{Position}
use Rattle.table.specs.Rows.{zip2, give, zipped, rows, Full, row_at}
use Rattle.table.specs.declared.table.Columns.{Columns}
use Rattle.table.specs.Inner.Rows.{opened, set_all, open_all}
use Rattle.table.proofs.Opening.{zip_set, zip_opened, zip_length, zip_get_d}

-- ---- the five columns as one list
pub zipped-set : (i : ℕ) (p : Position) (c : Columns) → zipped (set_all i p c) ≡ set (zipped c) i p
unfolding zipped
zipped-set i p c = simp zip_set

pub zipped_open : (i m : ℕ) (p : Position) (c : Columns) → zipped (open_all i m p c) ≡ opened i m p (zipped c)
unfolding zipped
zipped_open i m p c = simp zip_opened

abbrev z1 : Columns → List (ℤ → ℤ → ℤ → Position)
z1 c = zip2 row c.symbol c.quantity

abbrev z2 : Columns → List (ℤ → ℤ → Position)
z2 c = zip2 give (z1 c) c.average

abbrev z3 : Columns → List (ℤ → Position)
z3 c = zip2 give (z2 c) c.realized

l1 : (c : Columns) → Full c → length (z1 c) ≡ 64
l1 c f = zip_length row 64 c.symbol c.quantity f.symbol f.quantity

l2 : (c : Columns) → Full c → length (z2 c) ≡ 64
l2 c f = zip_length give 64 (z1 c) c.average (l1 c f) f.average

l3 : (c : Columns) → Full c → length (z3 c) ≡ 64
l3 c f = zip_length give 64 (z2 c) c.realized (l2 c f) f.realized

pub zipped-length : (c : Columns) → Full c → length (zipped c) ≡ 64
unfolding zipped
zipped-length c f = zip_length give 64 (z3 c) c.total (l3 c f) f.total

-- what stands at a place
pub zipped_at : (c : Columns) (i : ℕ) → Full c → get_or (zipped c) i (fresh 0) ≡ row (get_or c.symbol i 0) (get_or c.quantity i (pos 0)) (get_or c.average i (pos 0)) (get_or c.realized i (pos 0)) (get_or c.total i (pos 0))
unfolding zipped
zipped_at c i f =
    let e1 : get_or (z1 c) i (row 0 (pos 0)) ≡ row (get_or c.symbol i 0) (get_or c.quantity i (pos 0)) = zip_get_d row c.symbol c.quantity i 0 (pos 0) (f.symbol ∙ sym f.quantity) in
    let e2 : get_or (z2 c) i (row 0 (pos 0) (pos 0)) ≡ get_or (z1 c) i (row 0 (pos 0)) (get_or c.average i (pos 0)) = zip_get_d give (z1 c) c.average i (row 0 (pos 0)) (pos 0) (l1 c f ∙ sym f.average) in
    let e3 : get_or (z3 c) i (row 0 (pos 0) (pos 0) (pos 0)) ≡ get_or (z2 c) i (row 0 (pos 0) (pos 0)) (get_or c.realized i (pos 0)) = zip_get_d give (z2 c) c.realized i (row 0 (pos 0) (pos 0)) (pos 0) (l2 c f ∙ sym f.realized) in
    zip_get_d give (z3 c) c.total i (row 0 (pos 0) (pos 0) (pos 0)) (pos 0) (l3 c f ∙ sym f.total)
    ∙ ap (λ g. g (get_or c.total i (pos 0))) (e3 ∙ ap (λ g. g (get_or c.realized i (pos 0))) (e2 ∙ ap (λ g. g (get_or c.average i (pos 0))) e1))

-- a field of every position is its column
module _ (c : Columns) (f : Full c) where
  column_of : {A : Type 0} (g : Position → A) (l : List A) → length l ≡ 64 → ((i : ℕ) → g (row_at i c) ≡ get_or l i (g (fresh 0))) → map g (zipped c) ≡ l
  column_of g l h e =
      let n : length (map g (zipped c)) ≡ 64 = length-map (zipped c) g ∙ zipped-length c f in
      ext_get_or (g (fresh 0)) _ _ (n ∙ sym h) (λ i b. get_or-map g (zipped c) i (fresh 0) ∙ ap g (zipped_at c i f) ∙ e i)

  pub symbols_of_lem : map key_of (zipped c) ≡ c.symbol
  symbols_of_lem = column_of key_of c.symbol f.symbol (λ i. refl)

  pub quantities_of : map (λ p. p.quantity.0) (zipped c) ≡ c.quantity
  quantities_of = column_of (λ p. p.quantity.0) c.quantity f.quantity (λ i. refl)

  pub averages_of : map (λ p. p.avg_entry_price) (zipped c) ≡ c.average
  averages_of = column_of (λ p. p.avg_entry_price) c.average f.average (λ i. refl)

  pub realized_of : map (λ p. p.realized_pnl) (zipped c) ≡ c.realized
  realized_of = column_of (λ p. p.realized_pnl) c.realized f.realized (λ i. refl)

  pub totals_of : map (λ p. p.total_cost) (zipped c) ≡ c.total
  totals_of = column_of (λ p. p.total_cost) c.total f.total (λ i. refl)

pub map-take : {A B : Type 0} (g : A → B) (n : ℕ) (l : List A) → map g (take n l) ≡ take n (map g l)
map-take g zero l = refl
map-take g (suc n) [] = refl
map-take g (suc n) (x ∷ l) = ap (λ t. g x ∷ t) (map-take g n l)

pub keys_of : (n : ℕ) (c : Columns) → Full c → map key_of (rows n c) ≡ take n c.symbol
keys_of n c f = map-take key_of n (zipped c) ∙ ap (take n) (symbols_of_lem c f)
