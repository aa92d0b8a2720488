-- Where a loop over numbers or positions ended, and what it leaves in the columns that it is lent.
use Rattle.std.specs.Prelude.{List, [], ◌∷◌, ℕ, suc, length, Result}
use Rattle.position.specs.declared.position.Position.{Position}
use Rattle.table.specs.declared.table.Columns.{Columns}
use Rattle.table.specs.Inner.Rows.{set_all}
use Rattle.seven_bit.specs.declared.read.Fault.{Fault}
use Rattle.seven_bit.specs.Placed.{or_fault}
use Rattle.loading.specs.declared.positions.Filed.{Filed}
use Rattle.loading.specs.Reading.{Run, Rows}

abbrev pub reached : Run → Result ℕ Fault
reached r = or_fault r.answer r.next r.next

abbrev pub filed_as : Rows → Filed
filed_as r = record { count = length r.rows; next = or_fault r.answer r.next r.next }

-- five columns with positions from place i on
unfoldable pub set_rows : ℕ → List Position → Columns → Columns
set_rows i [] c = c
set_rows i (p ∷ ps) c = set_rows (suc i) ps (set_all i p c)
