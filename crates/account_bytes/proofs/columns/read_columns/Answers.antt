-- Each column from its own words.
use borrow.Author.Tests.{eq-eqb, ne_eqb}
use Rattle.account_bytes.specs.Account.{table_from, account_of, read_columns}
use Rattle.account_bytes.proofs.columns.read_columns.Goals as goal

pub returns-then-bytes-ne-ACCOUNT_BYTES : goal.returns-then-bytes-ne-ACCOUNT_BYTES
unfolding read_columns
returns-then-bytes-ne-ACCOUNT_BYTES c = simp (ne_eqb _ _ c.if-bytes-ne-ACCOUNT_BYTES.true)

pub returns : goal.returns
unfolding read_columns account_of table_from
returns c =
    simp (
      eq-eqb _ _ c.if-bytes-ne-ACCOUNT_BYTES.false,
      c.read_column.ensures,
      c.read_column-2.ensures,
      c.read_column-3.ensures,
      c.read_column-4.ensures,
      c.read_column-5.ensures,
    )
