-- An account taken apart: a ledger, and the columns of the positions.
use Rattle.std.specs.Prelude.{ℕ}
use Rattle.table.specs.declared.table.Table.{Table}
use Rattle.table.specs.declared.table.Columns.{Columns}
use Rattle.account.specs.declared.account.Account.{Account}
use Rattle.account.specs.declared.account.Ledger.{Ledger}

-- the table of a count and five columns
abbrev pub table_with : ℕ → Columns → Table
table_with n c = record { count = n; columns = c }

-- the account of a ledger and the columns of its positions
abbrev pub account_with : Ledger → Columns → Account
account_with h c = record { cash = h.cash; settings = h.settings; counters = h.counters; series = h.series; positions = table_with h.count c }

abbrev pub ledger_of : Account → Ledger
ledger_of a = record { cash = a.cash; settings = a.settings; counters = a.counters; series = a.series; count = a.positions.count }
