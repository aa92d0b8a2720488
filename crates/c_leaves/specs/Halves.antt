-- A number of two words, a word at a time: a C function takes and gives single numbers.
use Rattle.std.specs.Prelude.{ℕ}
use Rattle.sums.specs.Wide.{value_of, wide}

abbrev pub upper : ℕ → ℕ
upper n = (wide n).hi

abbrev pub lower : ℕ → ℕ
lower n = (wide n).lo

abbrev pub joined : ℕ → ℕ → ℕ
joined high low = value_of (record { hi = high; lo = low })
