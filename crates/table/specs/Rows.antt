-- Five columns and a count as a list of positions.
use Rattle.std.specs.Prelude.{ℕ, ◌-◌, ◌≡◌, List, [], ◌∷◌, ◌++◌, Bool, length, take, drop, get_or, replicate, leb, ℤ, pos}
use Rattle.position.specs.Rows.{row, fresh, key_of}
unfoldable pub use Rattle.position.specs.Shares.{is_zero}
pub use Rattle.position.specs.Symbols.{zeros}
use Rattle.position.specs.declared.position.Position.{Position}
use Rattle.table.specs.Keyed.{both, all, or_else, seek, ascending}
use Rattle.table.specs.declared.table.Table.{Table}
use Rattle.table.specs.declared.table.Columns.{Columns}

-- ---- columns side by side
abbrev pub zip2 : {A B C : Type 0} → (A → B → C) → List A → List B → List C
zip2 f [] ys = []
zip2 f (x ∷ xs) [] = []
zip2 f (x ∷ xs) (y ∷ ys) = f x y ∷ zip2 f xs ys

abbrev pub give : {A B : Type 0} → (A → B) → A → B
give f x = f x

-- a column of w places that holds a list first, and z after it
abbrev pub padded_column : {A : Type 0} → ℕ → A → List A → List A
padded_column w z l = l ++ replicate (w - length l) z

abbrev pub cols : List ℕ → List ℤ → List ℤ → List ℤ → List ℤ → Columns
cols k q a r t = record { symbol = k; quantity = q; average = a; realized = r; total = t }

unfoldable pub zipped : Columns → List Position
zipped c = zip2 give (zip2 give (zip2 give (zip2 row c.symbol c.quantity) c.average) c.realized) c.total

-- the positions of the places in use
abbrev pub rows : ℕ → Columns → List Position
rows n c = take n (zipped c)

pub record Full (c : Columns) : Type 0 where
  pub symbol : length c.symbol ≡ 64
  pub quantity : length c.quantity ≡ 64
  pub average : length c.average ≡ 64
  pub realized : length c.realized ≡ 64
  pub total : length c.total ≡ 64

-- ---- "positions .. strictly ascending, unused places zero"
abbrev pub zeros_z : List ℤ → Bool
zeros_z l = all is_zero l

unfoldable pub unused : ℕ → Columns → Bool
unused n c =
    both (zeros (drop n c.symbol))
    (both (zeros_z (drop n c.quantity))
    (both (zeros_z (drop n c.average))
    (both (zeros_z (drop n c.realized))
    (zeros_z (drop n c.total)))))

unfoldable pub ordered : ℕ → Columns → Bool
ordered n c = both (leb n 64) (both (ascending (take n c.symbol)) (unused n c))

-- ---- the table as a list
-- the position of a symbol, flat where there is none
abbrev pub holding : ℕ → List Position → Position
holding s ps = or_else (fresh s) (seek key_of s ps)

-- the position at a place
abbrev pub row_at : ℕ → Columns → Position
row_at i c = row (get_or c.symbol i 0) (get_or c.quantity i (pos 0)) (get_or c.average i (pos 0)) (get_or c.realized i (pos 0)) (get_or c.total i (pos 0))

-- ---- the table by value
abbrev pub columns_of : Table → Columns
columns_of t = t.columns

abbrev pub empty_columns : Columns
empty_columns = cols (replicate 64 0) (replicate 64 (pos 0)) (replicate 64 (pos 0)) (replicate 64 (pos 0)) (replicate 64 (pos 0))

abbrev pub empty_table : Table
empty_table = record { count = 0; columns = empty_columns }
