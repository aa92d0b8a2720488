-- The steps of the code that reads positions: one from its symbol and numbers, one after the other into five columns, and the table of columns that were zeros.
use Rattle.std.specs.Prelude.{Result, Ok, Err}
use Prim.Native.Nat.{ℕ, min, zero, suc, ◌+◌, ◌-◌, ◌<◌, ◌≤◌}
use mathlib.Core.Path.{◌≡◌, refl, sym, ap, ◌∙◌}
use mathlib.Core.Bool.{true, false}
use mathlib.Core.List.{List, [], ◌∷◌, map}
use native.Mathlib.Omega.{arith}
use native.Mathlib.Numerals.{add-one}
use lib.IntN.{ℤ, pos}
use lib.ListN.{length, get_or, replicate, length-map}
use lib.Seq.{sets}
use borrow.Author.Tests.{lt-ltb}
use Rattle.answer.specs.Numbers.{is_done}
use Rattle.answer.specs.declared.Answer.{Answer}
use Rattle.answer.specs.declared.Answer.TheVariants.{Done}
use Rattle.answer.proofs.Choice.{by_test}
use Rattle.position.specs.declared.position.Position.{Position}
use Rattle.position.specs.declared.shares.Shares.{Shares}
use Rattle.position.specs.Rows as R
use Rattle.position.specs.Rows.{shares, row, fresh, key_of, held, avg, realized, total}
use Rattle.table.specs.declared.found.Found.TheVariants.{At}
use Rattle.table.specs.Rows.{cols, padded_column, empty_table}
use Rattle.table.specs.declared.table.Columns.{Columns}
use Rattle.table.specs.declared.table.Table.{Table}
use Rattle.table.specs.Inner.Rows.{CountedCols, counted_cols, set_all, posted}
use Rattle.account.specs.Account.{table_of}
use Rattle.seven_bit.specs.declared.read.Fault.{Fault}
use Rattle.seven_bit.specs.declared.read.Number.{Number}
use Rattle.seven_bit.specs.Placed.{ToldNumber, or_fault, number_or_fault}
use Rattle.seven_bit.proofs.Faults.{ok_of, err_of, to_ok, err_through}
use Rattle.seven_bit.specs.Signed.{unfolded}
use Rattle.saved_form.proofs.Fields.{position_fields_lem}
use Rattle.saved_form.specs.declared.field.Field.{Field}
use Rattle.loading.specs.declared.entry.Entry.{Entry}
use Rattle.loading.specs.declared.positions.Filed.{Filed}
use Rattle.loading.specs.Reading.{Run, fields_read_of, symbol_read, ToldEntry, no_entry, signed_in, entry_of, entry_after, entry_or_fault, position_read, Rows, no_rows, with_row, then_rows, positions_read, filed, up_to64, table_read, positions_or_fault}
use Rattle.loading.specs.Inner.Reading.{reached, filed_as, set_rows}
use Rattle.loading.proofs.Numbers.{run_from, few-read}
use Rattle.loading.proofs.Padded.{sets_padded, sets_at}

-- ---- one position
module _ (s : ℕ) (r : Run) where
  numbers_read : is_done r.answer ≡ true → record { answer = Done; next = r.next; position = row s (signed_in r 0) (signed_in r 1) (signed_in r 2) (signed_in r 3) } ≡ entry_of s r
  unfolding entry_of
  numbers_read d = simp d

  numbers_refused : is_done r.answer ≡ false → no_entry r.answer r.next ≡ entry_of s r
  unfolding entry_of
  numbers_refused d = simp d

-- the run of the numbers of a position
abbrev pub number_run : List ℕ → ℕ → ℕ → Run
number_run l form at = run_from l form 23 4 0 at

module _ (l : List ℕ) (form place : ℕ) where
  abbrev told : ToldNumber
  told = symbol_read l place

  abbrev symbol_or_fault : Result Number Fault
  symbol_or_fault = number_or_fault told

  pub no_symbol : (f : Fault) → Err f ≡ symbol_or_fault → Err f ≡ entry_or_fault (position_read l form place)
  unfolding position_read entry_after
  no_symbol f e =
      let d = (err_of told.answer told.next (record { value = told.value; next = told.next }) f e).0 in
      let p : no_entry told.answer told.next ≡ position_read l form place = simp d in
      err_through told.answer told.next (record { value = told.value; next = told.next }) (record { next = told.next; position = fresh 0 }) f e ∙ ap entry_or_fault p

  module _ (symbol : Number) (e : Ok symbol ≡ symbol_or_fault) where
    goes_on : entry_of symbol.value (number_run l form symbol.next) ≡ position_read l form place
    unfolding position_read entry_after
    goes_on =
        let o = ok_of told.answer told.next (record { value = told.value; next = told.next }) symbol e in
        rw o.1 (simp o.0 (ap (λ (fs : List Field). entry_of told.value (fields_read_of l form fs 0 told.next)) position_fields_lem))

    pub no_numbers : (f : Fault) → Err f ≡ reached (number_run l form symbol.next) → Err f ≡ entry_or_fault (position_read l form place)
    no_numbers f h =
        let run = number_run l form symbol.next in
        let d = (err_of run.answer run.next run.next f h).0 in
        err_through run.answer run.next run.next (record { next = run.next; position = fresh 0 }) f h ∙ ap entry_or_fault (numbers_refused symbol.value run d ∙ goes_on)

    module _ (next : ℕ) (v : List ℕ) (h : Ok next ≡ reached (number_run l form symbol.next)) (f : v ≡ sets (replicate 4 0) 0 (number_run l form symbol.next).values) where
      number : (i : ℕ) → get_or v i 0 ≡ get_or (number_run l form symbol.next).values i 0
      number i = ap (λ (x : List ℕ). get_or x i 0) f ∙ sets_at 4 0 (number_run l form symbol.next).values i (few-read l form 23 4 0 symbol.next)

      module _ (x : Shares) (a g t : ℤ) (hx : x ≡ shares (unfolded (get_or v 0 0))) (ha : a ≡ unfolded (get_or v 1 0)) (hg : g ≡ unfolded (get_or v 2 0)) (ht : t ≡ unfolded (get_or v 3 0)) where
        pub read : Ok (record { next = next; position = record { symbol = R.symbol symbol.value; quantity = x; avg_entry_price = a; realized_pnl = g; total_cost = t } }) ≡ entry_or_fault (position_read l form place)
        read =
            let run = number_run l form symbol.next in
            let o = ok_of run.answer run.next run.next next h in
            simp (o.1, hx, ha, hg, ht, number) (ap entry_or_fault (numbers_read symbol.value run o.0 ∙ goes_on))

-- ---- positions in a row
module _ (l : List ℕ) (form : ℕ) where
  module _ (at : ℕ) (e : ToldEntry) (f : e ≡ position_read l form at) where
    read_next : (k m : ℕ) → k ≡ m + 1 → is_done e.answer ≡ true → with_row e.position (positions_read m l form e.next) ≡ positions_read k l form at
    unfolding positions_read then_rows
    read_next zero m h d = absurd (omega arith)
    read_next (suc k) m h d =
        let g : m ≡ k = omega arith in
        let w : is_done (position_read l form at).answer ≡ true = rw f at d in
        simp (g, w) (ap (λ (x : ToldEntry). with_row x.position (positions_read k l form x.next)) f)

    read_none : (k : ℕ) → 0 < k → is_done e.answer ≡ false → no_rows e.answer e.next ≡ positions_read k l form at
    unfolding positions_read then_rows
    read_none zero h d = absurd (omega arith)
    read_none (suc k) h d =
        let w : is_done (position_read l form at).answer ≡ false = rw f at d in
        simp w (ap (λ (x : ToldEntry). no_rows x.answer x.next) f)

  read_all : (at k : ℕ) → k ≡ 0 → no_rows Done at ≡ positions_read k l form at
  unfolding positions_read
  read_all at zero h = refl
  read_all at (suc k) h = absurd (omega arith)

  -- as many as are told, at most
  pub few-rows : (k at : ℕ) → length (positions_read k l form at).rows ≤ k
  unfolding positions_read then_rows
  few-rows zero at = omega arith
  few-rows (suc k) at =
      let e = position_read l form at in
      let h = few-rows k e.next in
      by_test (λ (r : Rows). length r.rows ≤ suc k) (is_done e.answer) (with_row e.position (positions_read k l form e.next)) (no_rows e.answer e.next) (λ b. omega arith) (λ b. omega arith)

-- ---- the loop: what is left, read from here on and put from place i on, makes what the whole run makes
abbrev filed_from : ℕ → Rows → Filed
filed_from i r = record { count = i + length r.rows; next = or_fault r.answer r.next r.next }

pub record Filing (l : List ℕ) (form place count : ℕ) (c d : Columns) (i at : ℕ) : Type 0 where
  pub within : i ≤ count
  pub told : filed_from i (positions_read (count - i) l form at) ≡ filed_as (positions_read count l form place)
  pub columns : set_rows i (positions_read (count - i) l form at).rows d ≡ set_rows 0 (positions_read count l form place).rows c

pub begin : (l : List ℕ) (form place count : ℕ) (c : Columns) → Filing l form place count c c 0 place
begin l form place count c =
    let e : count - 0 ≡ count = omega arith in
    let n : 0 + length (positions_read count l form place).rows ≡ length (positions_read count l form place).rows = omega arith in
    record { within = omega arith; told = simp (e, n); columns = simp e }

-- a position that is put at a place, whatever the count
put_at : (i n : ℕ) (p : Position) (c : Columns) → i < 64 → posted (At i) p (counted_cols n c) ≡ counted_cols n (set_all i p c)
put_at i n p c h = simp (lt-ltb i 64 h)

module _ {l : List ℕ} {form place count : ℕ} {c d : Columns} {i at : ℕ} (h : Filing l form place count c d i at) where
  abbrev here : ToldEntry
  here = position_read l form at

  pub next : (e : Entry) → Ok e ≡ entry_or_fault here → i < count → i < 64 → (n : ℕ) (d' : Columns) → counted_cols n d' ≡ posted (At i) e.position (counted_cols i d) → Filing l form place count c d' (i + 1) e.next
  unfolding set_rows
  next e f p room n d' s =
      let t = here in
      let o = ok_of t.answer t.next (record { next = t.next; position = t.position }) e f in
      let put = ap (λ (t : CountedCols). t.columns) (rw o.1 at s ∙ put_at i i t.position d room) in
      let rest = positions_read (count - (i + 1)) l form t.next in
      let r = read_next l form at t refl (count - i) (count - (i + 1)) (omega arith) o.0 in
      let one : i + 1 + length rest.rows ≡ i + suc (length rest.rows) = omega arith in
      rw o.1 (record {
        within = omega arith;
        told = simp one (ap (filed_from i) r ∙ h.told);
        columns =
            ap (set_rows (i + 1) rest.rows) put
            ∙ ap (λ (k : ℕ). set_rows k rest.rows (set_all i t.position d)) (add-one i)
            ∙ ap (λ (x : Rows). set_rows i x.rows d) r
            ∙ h.columns;
      })

  abbrev Ends : Filed → Type 0
  Ends f = (f ≡ filed_as (positions_read count l form place)) × (d ≡ set_rows 0 (positions_read count l form place).rows c)

  ends_with : (w : Answer) (to : ℕ) → no_rows w to ≡ positions_read (count - i) l form at → Ends (record { count = i; next = or_fault w to to })
  unfolding set_rows
  ends_with w to r =
      let n : i ≡ i + 0 = omega arith in
      (ap (λ (k : ℕ). record { count = k; next = or_fault w to to }) n ∙ ap (filed_from i) r ∙ h.told, ap (λ (x : Rows). set_rows i x.rows d) r ∙ h.columns)

  pub stops : (f : Fault) → Err f ≡ entry_or_fault here → i < count → Ends (record { count = i; next = Err f })
  stops f e p =
      let t = here in
      let d = err_of t.answer t.next (record { next = t.next; position = t.position }) f e in
      let w = ends_with t.answer t.next (read_none l form at t refl (count - i) (omega arith) d.0) in
      (ap (λ (n : Result ℕ Fault). record { count = i; next = n }) (err_through t.answer t.next (record { next = t.next; position = t.position }) t.next f e) ∙ w.0, w.1)

  pub ends : count ≤ i → Ends (record { count = count; next = Ok at })
  ends p =
      let n : count ≡ i = omega (arith, h.within) in
      let w = ends_with Done at (read_all l form at (count - i) (omega arith)) in
      (ap (λ (k : ℕ). record { count = k; next = Ok at }) n ∙ w.0, w.1)

-- ---- columns that were zeros
columns-set : (i : ℕ) (ps : List Position) (c : Columns) → set_rows i ps c ≡ cols (sets c.symbol i (map key_of ps)) (sets c.quantity i (map held ps)) (sets c.average i (map avg ps)) (sets c.realized i (map realized ps)) (sets c.total i (map total ps))
unfolding set_rows
columns-set i [] c = refl
columns-set i (p ∷ ps) c = columns-set (suc i) ps (set_all i p c)

-- ---- the table
module _ (ps : List Position) (few : length ps ≤ 64) where
  column : {A : Type 0} (f : Position → A) (z : A) → sets (replicate 64 z) 0 (map f ps) ≡ padded_column 64 z (map f ps)
  column f z = sets_padded 64 z (map f ps) (simp length-map few)

abbrev zeros : Columns
zeros = cols (replicate 64 0) (replicate 64 (pos 0)) (replicate 64 (pos 0)) (replicate 64 (pos 0)) (replicate 64 (pos 0))

-- at most 64 are told, and their count is that of the table
module _ (l : List ℕ) (form count place m : ℕ) (most : m ≡ min count 64) where
  abbrev rows_read : Rows
  rows_read = positions_read m l form place

  same_most : m ≡ up_to64 count
  same_most = most ∙ grind arith

  pub few_at : m ≤ 64
  few_at = omega arith

  at_most : table_read l form count place ≡ filed rows_read
  unfolding table_read
  at_most = ap (λ (k : ℕ). filed (positions_read k l form place)) (sym same_most)

  module _ (d : Columns) (t : Table) (empty : t ≡ empty_table) (from-empty : d ≡ set_rows 0 rows_read.rows t.columns) where
    abbrev table : Table
    table = record { count = length rows_read.rows; columns = d }

    table_is : table ≡ (filed rows_read).table
    unfolding filed table_of
    table_is =
        let ps = rows_read.rows in
        let few : length ps ≤ 64 = omega (arith, few-rows l form m place) in
        let e = from-empty ∙ ap (λ (t : Table). set_rows 0 ps t.columns) empty ∙ columns-set 0 ps zeros in
        rw e (simp (column ps few key_of 0, column ps few held (pos 0), column ps few avg (pos 0), column ps few realized (pos 0), column ps few total (pos 0)))

    pub table_held : (f : Filed) → f ≡ filed_as rows_read → (next : ℕ) → Ok next ≡ f.next → Ok (record { next = next; table = record { count = f.count; columns = d } }) ≡ positions_or_fault (table_read l form count place)
    unfolding filed
    table_held f e next h =
        let r = rows_read in
        let o = ok_of r.answer r.next r.next next (h ∙ ap (λ (f : Filed). f.next) e) in
        rw (o.1, ap (λ (f : Filed). f.count) e, table_is) (to_ok r.answer r.next (record { next = r.next; table = (filed r).table }) o.0 ∙ ap positions_or_fault (sym at_most))

  pub table_refused : (g : Filed) → g ≡ filed_as rows_read → (f : Fault) → Err f ≡ g.next → Err f ≡ positions_or_fault (table_read l form count place)
  unfolding filed
  table_refused g e f h =
      let r = rows_read in
      err_through r.answer r.next r.next (record { next = r.next; table = (filed r).table }) f (h ∙ ap (λ (g : Filed). g.next) e) ∙ ap positions_or_fault (sym at_most)
