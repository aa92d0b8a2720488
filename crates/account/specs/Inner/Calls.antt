-- What is told of a position that was looked for, and of an opening.
use Rattle.std.specs.Prelude.{Option, Some, None, Result, Ok, Err}
use Rattle.answer.specs.declared.Answer.{Answer}
use Rattle.answer.specs.declared.Answer.TheVariants.{Done}
use Rattle.position.specs.declared.position.Position.{Position}
use Rattle.table.specs.declared.table.Columns.{Columns}
use Rattle.table.specs.Inner.Rows.{held_at}
use Rattle.table.specs.declared.found.Found.{Found}
use Rattle.table.specs.declared.found.Found.TheVariants.{At, Absent}
use Rattle.account.specs.declared.account.Account.{Account}
use Rattle.account.specs.declared.change.Changed.{Changed}
use Rattle.account.specs.declared.holding.Held.{Held}
use Rattle.account.specs.Calls.{absent, present, answered, zero_account}

-- of a search in the symbols of a table
abbrev pub found_in : Found → Columns → Held
found_in (At i) c = present (held_at (At i) 0 c)
found_in (Absent i) c = absent Done

abbrev pub held_of : Result (Option Position) Answer → Held
held_of (Ok (Some p)) = present p
held_of (Ok None) = absent Done
held_of (Err w) = absent w

-- "all zeros from a refused opening"
abbrev pub opened_or_zero : Result Account Answer → Changed
opened_or_zero (Ok a) = answered Done a
opened_or_zero (Err w) = answered w zero_account
