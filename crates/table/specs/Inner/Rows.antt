-- Columns that stand in order, and what the functions on columns do, whatever the columns hold.
use Rattle.std.specs.Prelude.{ℕ, zero, suc, ◌+◌, ◌-◌, ◌≤◌, ◌≡◌, List, [], ◌∷◌, take, drop, set, replicate, leb, ltb}
use Rattle.position.specs.Rows.{fresh, key_of}
use Rattle.position.specs.declared.position.Position.{Position}
use Rattle.table.specs.Keyed.{pick, both, put64}
use Rattle.table.specs.Inner.Keyed.{Rising}
use Rattle.table.specs.declared.found.Found.{Found}
use Rattle.table.specs.declared.found.Found.TheVariants.{At, Absent}
use Rattle.table.specs.Rows.{cols, zipped, rows, Full, row_at}
use Rattle.table.specs.declared.table.Columns.{Columns}

-- "positions .. strictly ascending, unused places zero", as a fact
pub record Ordered (n : ℕ) (c : Columns) : Type 0 where
  pub small : n ≤ 64
  pub full : Full c
  pub rising : Rising (take n c.symbol)
  pub rest : drop n (zipped c) ≡ replicate (64 - n) (fresh 0)

-- (n, c) to (r, d): p is put into the list, and the columns stay ordered
pub record Puts (p : Position) (n : ℕ) (c : Columns) (r : ℕ) (d : Columns) : Type 0 where
  pub ordered : Ordered r d
  pub same : rows r d ≡ put64 key_of p (rows n c)

-- ---- what the functions on columns do, whatever the columns hold
pub record CountedCols : Type 0 where
  pub count : ℕ
  pub columns : Columns

abbrev pub counted_cols : ℕ → Columns → CountedCols
counted_cols n c = record { count = n; columns = c }

-- v goes to i, m elements move up by one, and the next one is lost
abbrev pub pushed : {A : Type 0} → ℕ → A → List A → List A
pushed m v [] = []
pushed zero v (x ∷ l) = v ∷ l
pushed (suc m) v (x ∷ l) = v ∷ pushed m x l

abbrev pub opened : {A : Type 0} → ℕ → ℕ → A → List A → List A
opened zero m v l = pushed m v l
opened (suc i) m v [] = []
opened (suc i) m v (x ∷ l) = x ∷ opened i m v l

-- the same among the first n of 64; a full column, or a place past the count, leaves the column as it is
unfoldable pub opened_at : {A : Type 0} → ℕ → ℕ → A → List A → List A
opened_at i n v l = pick (both (ltb n 64) (leb i n)) (opened i (n - i) v l) l

abbrev pub set_all : ℕ → Position → Columns → Columns
set_all i p c = cols (set c.symbol i p.symbol.0) (set c.quantity i p.quantity.0) (set c.average i p.avg_entry_price) (set c.realized i p.realized_pnl) (set c.total i p.total_cost)

abbrev pub open_all : ℕ → ℕ → Position → Columns → Columns
open_all i m p c = cols (opened i m p.symbol.0 c.symbol) (opened i m p.quantity.0 c.quantity) (opened i m p.avg_entry_price c.average) (opened i m p.realized_pnl c.realized) (opened i m p.total_cost c.total)

abbrev pub held_at : Found → ℕ → Columns → Position
held_at (At i) s c = pick (ltb i 64) (row_at i c) (fresh s)
held_at (Absent i) s c = fresh s

abbrev pub posted : Found → Position → CountedCols → CountedCols
posted (At i) p t = pick (ltb i 64) (counted_cols t.count (set_all i p t.columns)) t
posted (Absent i) p t = pick (both (ltb t.count 64) (leb i t.count)) (counted_cols (t.count + 1) (open_all i (t.count - i) p t.columns)) t
