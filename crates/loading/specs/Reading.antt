-- Document 02, 5: what stands at a place of a file, number by number; a refusal with its place where the bytes do not go on.
use Rattle.std.specs.Prelude.{ℕ, zero, suc, ◌+◌, List, [], ◌∷◌, leb, ltb, length, get_or, take, drop, ℤ, Result}
use Rattle.answer.specs.Choice.{pick}
use Rattle.answer.specs.Numbers.{is_done}
use Rattle.answer.specs.declared.Answer.{Answer}
use Rattle.answer.specs.declared.Answer.TheVariants.{Done, Unsound, EndsEarly}
use Rattle.position.specs.declared.position.Position.{Position}
use Rattle.position.specs.Rows.{row, fresh}
use Rattle.table.specs.declared.table.Table.{Table}
use Rattle.table.specs.Rows.{padded_column}
use Rattle.account.specs.Account.{table_of}
use Rattle.seven_bit.specs.declared.read.Fault.{Fault}
use Rattle.seven_bit.specs.Placed.{ToldNumber, number_at_of, or_fault}
use Rattle.seven_bit.specs.Signed.{unfolded}
use Rattle.saved_form.specs.declared.field.Field.{Field}
use Rattle.saved_form.specs.declared.field.Kind.{Kind}
use Rattle.saved_form.specs.Fields.{head_fields, position_fields, allowed, has_field}
use Rattle.saved_form.specs.Texts.{good_length_of, spelt}
use Rattle.loading.specs.declared.head.Head.{Head}
use Rattle.loading.specs.declared.entry.Entry.{Entry}
use Rattle.loading.specs.declared.positions.Positions.{Positions}

-- no number, and why: a refusal, or none where the form has no number there
abbrev pub no_number_of : Answer → ℕ → ToldNumber
no_number_of w place = record { answer = w; value = 0; next = place }

-- what follows a number that was read, else its refusal
abbrev pub then_number : ToldNumber → (ToldNumber → ToldNumber) → ToldNumber
then_number n more = pick (is_done n.answer) (more n) n

-- "11 for .. a flag or cap mark above 1, a negative zero, over 64 positions ..., as the bytes are met"
unfoldable pub judged : Kind → ℕ → ToldNumber → ToldNumber
judged k place n = then_number n (λ n. pick (allowed k n.value) n (no_number_of Unsound place))

-- "with opening defaults": 0 where the form has no such number
unfoldable pub field_read : List ℕ → ℕ → Field → ℕ → ℕ → ToldNumber
field_read l form f before place = pick (has_field form f before) (judged f.kind place (number_at_of l place)) (no_number_of Done place)

-- ---- numbers in a row: those read whole, and where they ended
pub record Run : Type 0 where
  pub values : List ℕ
  pub answer : Answer
  pub next : ℕ

abbrev pub ended : Answer → ℕ → Run
ended w at = record { values = []; answer = w; next = at }

abbrev pub with_value : ℕ → Run → Run
with_value v r = record { values = v ∷ r.values; answer = r.answer; next = r.next }

abbrev pub then_run : ToldNumber → (ToldNumber → Run) → Run
then_run n more = pick (is_done n.answer) (with_value n.value (more n)) (ended n.answer n.next)

unfoldable pub fields_read_of : List ℕ → ℕ → List Field → ℕ → ℕ → Run
fields_read_of l form [] before place = ended Done place
fields_read_of l form (f ∷ fs) before place = then_run (field_read l form f before place) (λ n. fields_read_of l form fs n.value n.next)

pub record ToldHead : Type 0 where
  pub answer : Answer
  pub next : ℕ
  pub count : ℕ
  pub values : List ℕ

-- the numbers before the positions, 0 for those that were not read; the last is how many positions follow
unfoldable pub head_of : Run → ToldHead
head_of r = record { answer = r.answer; next = r.next; count = get_or r.values 22 0; values = padded_column 23 0 r.values }

unfoldable pub head_read_of : List ℕ → ℕ → ℕ → ToldHead
head_read_of l form place = head_of (fields_read_of l form head_fields 0 place)

abbrev pub head_or_fault : ToldHead → Result Head Fault
head_or_fault h = or_fault h.answer h.next (record { next = h.next; count = h.count; values = h.values })

-- ---- "a symbol is its length and bytes": where they are not all there, 16 tells "the end of the file"
unfoldable pub text_read : List ℕ → ℕ → ℕ → ToldNumber
text_read l n at = pick (leb (at + n) (length l)) (record { answer = Done; value = spelt (take n (drop at l)); next = at + n }) (no_number_of (EndsEarly (length l)) (length l))

-- "11 for .. a symbol length outside 1 to 8, as the bytes are met"
unfoldable pub symbol_read : List ℕ → ℕ → ToldNumber
symbol_read l place = then_number (number_at_of l place) (λ n. pick (good_length_of n.value) (text_read l n.value n.next) (no_number_of Unsound place))

-- ---- "positions .., each in `Position`'s field order"
pub record ToldEntry : Type 0 where
  pub answer : Answer
  pub next : ℕ
  pub position : Position

abbrev pub no_entry : Answer → ℕ → ToldEntry
no_entry w at = record { answer = w; next = at; position = fresh 0 }

abbrev pub signed_in : Run → ℕ → ℤ
signed_in r i = unfolded (get_or r.values i 0)

unfoldable pub entry_of : ℕ → Run → ToldEntry
entry_of s r = pick (is_done r.answer) (record { answer = Done; next = r.next; position = row s (signed_in r 0) (signed_in r 1) (signed_in r 2) (signed_in r 3) }) (no_entry r.answer r.next)

unfoldable pub entry_after : List ℕ → ℕ → ToldNumber → ToldEntry
entry_after l form s = pick (is_done s.answer) (entry_of s.value (fields_read_of l form position_fields 0 s.next)) (no_entry s.answer s.next)

unfoldable pub position_read : List ℕ → ℕ → ℕ → ToldEntry
position_read l form place = entry_after l form (symbol_read l place)

abbrev pub entry_or_fault : ToldEntry → Result Entry Fault
entry_or_fault e = or_fault e.answer e.next (record { next = e.next; position = e.position })

-- those read whole, and where they ended
pub record Rows : Type 0 where
  pub rows : List Position
  pub answer : Answer
  pub next : ℕ

abbrev pub no_rows : Answer → ℕ → Rows
no_rows w at = record { rows = []; answer = w; next = at }

abbrev pub with_row : Position → Rows → Rows
with_row p r = record { rows = p ∷ r.rows; answer = r.answer; next = r.next }

unfoldable pub then_rows : ToldEntry → (ToldEntry → Rows) → Rows
then_rows e more = pick (is_done e.answer) (with_row e.position (more e)) (no_rows e.answer e.next)

unfoldable pub positions_read : ℕ → List ℕ → ℕ → ℕ → Rows
positions_read zero l form place = no_rows Done place
positions_read (suc k) l form place = then_rows (position_read l form place) (λ e. positions_read k l form e.next)

pub record ToldPositions : Type 0 where
  pub answer : Answer
  pub next : ℕ
  pub table : Table

unfoldable pub filed : Rows → ToldPositions
filed r = record { answer = r.answer; next = r.next; table = table_of r.rows }

abbrev pub up_to64 : ℕ → ℕ
up_to64 n = pick (ltb n 64) n 64

-- so many positions, at most 64
unfoldable pub table_read : List ℕ → ℕ → ℕ → ℕ → ToldPositions
table_read l form count place = filed (positions_read (up_to64 count) l form place)

abbrev pub positions_or_fault : ToldPositions → Result Positions Fault
positions_or_fault p = or_fault p.answer p.next (record { next = p.next; table = p.table })

-- ---- the whole file, each part from where the one before it ended
abbrev pub head_in_of : List ℕ → ToldHead
head_in_of l = head_read_of l (number_at_of l 0).value (number_at_of l 0).next

abbrev pub positions_in : List ℕ → ToldPositions
positions_in l = table_read l (number_at_of l 0).value (head_in_of l).count (head_in_of l).next
