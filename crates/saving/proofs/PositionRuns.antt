-- Positions, one after the other.
use mathlib.Core.Path.{◌≡◌, sym, ◌∙◌, ap}
use Prim.Native.Nat.{ℕ, suc, ◌+◌, ◌*◌, ◌<◌, ◌≤◌}
use native.Mathlib.Omega.{arith}
use mathlib.Core.List.{List, [], ◌++◌, map}
use lib.ListN.{length, get_or, drop, length-append, drop_of_length-le}
use lib.Seq.{drop-cons}
use Rattle.position.specs.declared.position.Position.{Position}
use Rattle.position.specs.Rows.{fresh, key_of, numbers_of}
use Rattle.table.specs.Rows.{rows, Full}
use Rattle.table.specs.declared.table.Columns.{Columns}
use Rattle.table.specs.Inner.Rows.{held_at}
use Rattle.table.specs.declared.found.Found.TheVariants.{At}
use Rattle.account.proofs.Columns.{held-row, rows-length, row_of}
use Rattle.seven_bit.specs.Signed.{folded}
use Rattle.saved_form.specs.declared.field.Field.{Field}
use Rattle.saved_form.specs.Fields.{newest, position_fields}
use Rattle.saved_form.specs.Texts.{symbol_file}
use Rattle.saved_form.proofs.Fields.{position_fields_lem}
use Rattle.saved_form.specs.Writing.{fields_file, position_file, positions_file}
use Rattle.saving.specs.Inner.Putting.{Put}
use Rattle.saving.proofs.Putting.{put_same, put_then, Left, left-all, left-put, left-none}
use Rattle.saving.proofs.Texts.{symbol-short}
use Rattle.saving.proofs.FieldRuns.{fields_short, fields_left}

-- the fields after those before the positions
pub position-short : (p : Position) → length (position_file p) ≤ 58
unfolding position_file
position-short p = omega (arith, length-append (symbol_file (key_of p)) (fields_file newest position_fields 0 (map folded (numbers_of p))), symbol-short (key_of p), fields_short newest position_fields 0 (map folded (numbers_of p)))

-- ---- one position: its symbol, then its numbers
pub position-put : {l : List ℕ} {place : ℕ} {l' : List ℕ} {q : ℕ} {l'' : List ℕ} {r : ℕ} (p : Position) (vs : List ℕ) → vs ≡ map folded (numbers_of p) → Put l place (symbol_file (key_of p)) l' q → Put l' q (fields_left 23 0 vs) l'' r
    → Put l place (position_file p) l'' r
unfolding position_file
position-put p vs e s f =
    let g = ap (fields_left 23 0) e ∙ ap (λ (fs : List Field). fields_file newest fs 0 (map folded (numbers_of p))) position_fields_lem in
    put_then s (put_same f g)

-- ---- the positions left
pub positions_next : (ps : List Position) (i : ℕ) (p : Position) → i < length ps → p ≡ get_or ps i (fresh 0) → positions_file (drop i ps) ≡ position_file p ++ positions_file (drop (i + 1) ps)
unfolding positions_file
positions_next ps i p h e = let a : i + 1 ≡ suc i = omega arith in ap positions_file (drop-cons ps i (fresh 0) h) ∙ simp (a, e)

pub positions_none : (ps : List Position) (i : ℕ) → length ps ≤ i → positions_file (drop i ps) ≡ []
unfolding positions_file
positions_none ps i h = ap positions_file (drop_of_length-le ps h)

-- ---- writing: each took 58 bytes at most
pub record Writing (l : List ℕ) (place n : ℕ) (c : Columns) (now : List ℕ) (at i : ℕ) : Type 0 where
  pub within : i ≤ n
  pub few : at ≤ place + 58 * i
  pub left : Left l place (positions_file (rows n c)) now at (positions_file (drop i (rows n c)))

pub write-from : (l : List ℕ) (place n : ℕ) (c : Columns) → Writing l place n c l place 0
write-from l place n c = record { within = omega arith; few = omega arith; left = left-all l place (positions_file (rows n c)) }

module _ {l : List ℕ} {place n : ℕ} {c : Columns} {now : List ℕ} {at i : ℕ} (h : Writing l place n c now at i) (full : Full c) (small : n ≤ 64) where
  pub write-next : {now' : List ℕ} {at' : ℕ} (p : Position) → i < n → p ≡ held_at (At i) 0 c → Put now at (position_file p) now' at' → Writing l place n c now' at' (i + 1)
  write-next p k e w =
      let k' : i < length (rows n c) = omega (arith, rows-length c full n small) in
      record {
        within = omega arith;
        few = omega (arith, h.few, w.next, position-short p);
        left = left-put h.left _ _ _ _ (positions_next (rows n c) i p k' (e ∙ held-row i 0 c (omega arith) ∙ sym (row_of c full n i k))) w;
      }

  pub write_done : n ≤ i → Put l place (positions_file (rows n c)) now at
  write_done k = left-none h.left (positions_none (rows n c) i (omega (arith, rows-length c full n small)))
