-- The columns of every table that the code holds have 64 places, and so have those of an account.
use mathlib.Core.List.{List}
use mir.Val.{Val}
use denote.Laws.{Is}
use denote.Struct.Declared.{row}
use borrow.Author.Rules.{rules}
use Rattle.table.specs.declared.table.Table.{Table}
use Rattle.table.specs.Rows.{columns_of, Full}
use Rattle.table.specs.contracts.table.Table as table
use Rattle.account.specs.declared.account.Account.{Account}
use Rattle.account.specs.contracts.account.Account as account

pub table-full : (t : Table) (vs : List Val) → Is (row table.the_type) t vs → Full (columns_of t)
table-full t vs g = record { symbol = search rules; quantity = search rules; average = search rules; realized = search rules; total = search rules }

-- the path to the fifth field is the same whatever settings and counters hold
pub account-full : (a : Account) (vs : List Val) → Is (row account.the_type) a vs → Full (columns_of a.positions)
account-full a vs g = table-full a.positions _ g.1.1.1.1.1.1.0
