-- Column after column, each where the one before it ends.
use borrow.Author.Rules.{rules}
use Rattle.table.specs.Rows.{Full, cols}
use Rattle.account_bytes.proofs.Writing.{columns-put}
use Rattle.account_bytes.proofs.columns.put_columns.Goals as goal

pub returns : goal.returns
returns c =
    let s = c.args in
    let f : Full s.columns.now =
    record { symbol = search rules; quantity = search rules; average = search rules; realized = search rules; total = search rules } in
    (f, columns-put s.columns.now f _ _ _ _ _ _ c.put_column.ensures c.put_column-2.ensures c.put_column-3.ensures c.put_column-4.ensures c.put_column-5.ensures)
