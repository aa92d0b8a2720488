-- A signed number as an unsigned one. Definitions only.
-- Document 02, request 5: "A signed n is stored as 2n, or as -2n-1 when negative."
use Rattle.std.specs.Prelude.{ℕ, ◌+◌, ◌*◌, ◌/◌, ◌%◌, eqb, ℤ, pos, negsuc}
use Rattle.answer.specs.Choice.{pick}

-- `negsuc k` is -(k + 1), and -2n-1 of it 2k + 1.
unfoldable pub folded : ℤ → ℕ
folded (pos k) = 2 * k
folded (negsuc k) = 2 * k + 1

unfoldable pub unfolded : ℕ → ℤ
unfolded w = pick (eqb (w % 2) 0) (pos (w / 2)) (negsuc (w / 2))
