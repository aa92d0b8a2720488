-- When an account is sound, and the table that holds a list of positions.
use Rattle.std.specs.Prelude.{ℕ, zero, suc, Bool, true, List, map, length, ℤ, pos}
use Rattle.position.specs.declared.position.Position.{Position}
use Rattle.position.specs.Rows.{key_of, held, avg, realized, total}
use Rattle.position.specs.Fills.{sound}
use Rattle.table.specs.declared.table.Table.{Table}
use Rattle.table.specs.Keyed.{both}
use Rattle.table.specs.Rows.{cols, columns_of, rows, row_at, ordered, padded_column}
use Rattle.table.specs.declared.table.Columns.{Columns}
use Rattle.account.specs.declared.settings.Settings.{Settings}
use Rattle.account.specs.declared.account.Account.{Account}
use Rattle.account.specs.declared.account.Series.{Series}
use Rattle.account.specs.Settings.{is_at_least, good_settings}

-- each of the positions at the first n places is sound
unfoldable pub sound_places : ℕ → Columns → Bool
sound_places zero c = true
sound_places (suc n) c = both (sound_places n c) (sound (row_at n c))

-- "positions with good symbols, strictly ascending, unused places zero"
unfoldable pub sound_columns : ℕ → Columns → Bool
sound_columns n c = both (ordered n c) (sound_places n c)

-- the positions of a table, in symbol order
abbrev pub held_in : Table → List Position
held_in t = rows t.count (columns_of t)

abbrev pub sound_table : Table → Bool
sound_table t = sound_columns t.count (columns_of t)

-- "good settings, cash at least 0"
unfoldable pub sound_scalars : ℤ → Settings → Bool
sound_scalars cash s = both (is_at_least 0 cash) (good_settings s)

-- "A sound account has good settings, cash at least 0, positions [..]"
unfoldable pub sound_account : Account → Bool
sound_account a = both (sound_scalars a.cash a.settings) (sound_table a.positions)

-- ---- the table that holds a list of positions, "unused places zero"
unfoldable pub table_of : List Position → Table
table_of ps = record {
  count = length ps;
  columns =
      cols
      (padded_column 64 0 (map key_of ps))
      (padded_column 64 (pos 0) (map held ps))
      (padded_column 64 (pos 0) (map avg ps))
      (padded_column 64 (pos 0) (map realized ps))
      (padded_column 64 (pos 0) (map total ps));
}

-- ---- one field changed
abbrev pub with_settings : Settings → Account → Account
with_settings s a = record { cash = a.cash; settings = s; counters = a.counters; series = a.series; positions = a.positions }

abbrev pub with_series : Series → Account → Account
with_series s a = record { cash = a.cash; settings = a.settings; counters = a.counters; series = s; positions = a.positions }
