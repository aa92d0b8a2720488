-- How many entries are read.
use Rattle.std.specs.Prelude.{ℕ, ◌/◌}
use Rattle.table.specs.Keyed.{pick}
use Rattle.list_bytes.specs.Entries.{is_whole}

-- bytes that are no whole number of entries, and a list "over its bound", are not read
abbrev pub count_of : ℕ → ℕ → ℕ
count_of most n = pick (is_whole most n) (n / 16) 0
