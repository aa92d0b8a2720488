-- Sums by their low words: each number as its word, and what the words add up to modulo 2 ^ 64. Definitions only.
use Rattle.std.specs.Prelude.{◌≡◌, ℕ, ◌+◌, ◌-◌, ◌%◌, ◌^◌, ◌<◌, cond, List, length, ℤ, pos, nat_lt, slice_index, FitsSigned}
use Rattle.std.specs.Int.{w64, cast_unsigned}
use Rattle.house.specs.Group.{Ends, Group, of_both, first_of}
use Rattle.house.specs.Places.{column}
use Rattle.house.specs.Inner.Raised.{half, lowered, sum_n}
use Rattle.house.specs.declared.low.LowPart.{LowPart}

-- 2 ^ 55
abbrev pub reach : ℕ
reach = 36028797018963968

-- how far a word is from 0, as a number below 2 ^ 56 where the number is at least -2 ^ 55 and below 2 ^ 55
unfoldable pub away : ℕ → ℕ
away w = (w + reach) % 2 ^ 64

-- what leads from a word to another
unfoldable pub step : ℕ → ℕ → ℕ
step from to = (to + (2 ^ 64 - from)) % 2 ^ 64

-- the equity at the end, of an account that counts
abbrev pub last_of : Ends → ℤ
last_of e = of_both (λ f l. l) e.first e.last

abbrev pub first_word : Ends → ℕ
first_word e = cast_unsigned w64 (first_of e)

abbrev pub last_word : Ends → ℕ
last_word e = cast_unsigned w64 (last_of e)

abbrev pub step_word : Ends → ℕ
step_word e = step (first_word e) (last_word e)

-- the low word of a sum of words, raised
abbrev pub low_sum : ℕ → (ℕ → ℕ) → ℕ
low_sum n f = (half + sum_n n f) % 2 ^ 64

-- both ends are numbers of an i64
pub record Known (e : Ends) : Type 0 where
  pub first : FitsSigned w64 (first_of e)
  pub last : FitsSigned w64 (last_of e)

-- below 2 ^ 56 where both ends are
abbrev pub BothWithin : ℕ → Ends → Type 0
BothWithin bound e = (away (first_word e) < bound) × (away (last_word e) < bound)

pub record LowAdded (n p : ℕ) (g : Group) (r : LowPart) (lo₀ lo : List ℕ) : Type 0 where
  pub first : r.first ≡ low_sum n (λ a. first_word (g p a))
  pub gain : r.gain ≡ low_sum n (λ a. step_word (g p a))
  pub near : (bound a : ℕ) → r.spread < bound → a < n → BothWithin bound (g p a)
  pub known : (a : ℕ) → a < n → Known (g p a)
  pub long : length lo ≡ 32
  pub totals : (i : ℕ) → i < 32 → slice_index lo i ≡ (slice_index lo₀ i + cond (nat_lt i n) (step_word (g p i)) 0) % 2 ^ 64

pub record LowSummed (n m : ℕ) (g : Group) (spread : ℕ) (fs gs cs : List ℤ) : Type 0 where
  pub near : (bound p a : ℕ) → spread < bound → p < m → a < n → BothWithin bound (g p a)
  pub known : (p a : ℕ) → p < m → a < n → Known (g p a)
  pub firsts : fs ≡ column 64 (pos 0) m (λ p. lowered (low_sum n (λ a. first_word (g p a))))
  pub gains : gs ≡ column 64 (pos 0) m (λ p. lowered (low_sum n (λ a. step_word (g p a))))
  pub changes : cs ≡ column 32 (pos 0) n (λ a. lowered (low_sum m (λ p. step_word (g p a))))
