-- Numbers in groups of seven bits: written, and read from the front of a run of bytes. Definitions only.
-- Document 02, request 5: "Every number is stored in groups of seven bits, lowest first, the top bit set on all but the last group, shortest form only, at most
-- ten groups, the tenth at most 1."
use Rattle.std.specs.Prelude.{ℕ, zero, suc, ◌+◌, ◌-◌, ◌*◌, ◌/◌, ◌%◌, List, [], ◌∷◌, ltb}
use Rattle.answer.specs.Choice.{pick}

-- What a run of bytes starts with: it ends before a number does; "number not shortest or too large"; or a number, and how many bytes it takes.
pub data Out : Type 0 where
  ends : Out
  bad : Out
  got : ℕ → ℕ → Out

-- A group with its top bit set stands before the others, and is lower than they are.
unfoldable pub onto : ℕ → Out → Out
onto b ends = ends
onto b bad = bad
onto b (got v n) = got ((b - 128) + 128 * v) (suc n)

-- A number of at most k groups after this one. The last group is at least `least`: 0 for the first group, and 1 for any later one, since a number in its shortest
-- form ends in no group of 0. "The tenth at most 1".
unfoldable pub read : ℕ → ℕ → List ℕ → Out
read least k [] = ends
read least zero (b ∷ l) = pick (ltb b least) bad (pick (ltb 1 b) bad (got b 1))
read least (suc k) (b ∷ l) = pick (ltb b 128) (pick (ltb b least) bad (got b 1)) (onto b (read 1 k l))

abbrev pub number : List ℕ → Out
number l = read 0 9 l

-- The groups of a number, at most k after the first.
unfoldable pub write : ℕ → ℕ → List ℕ
write zero n = n ∷ []
write (suc k) n = pick (ltb n 128) (n ∷ []) ((128 + n % 128) ∷ write k (n / 128))

abbrev pub groups : ℕ → List ℕ
groups n = write 9 n
