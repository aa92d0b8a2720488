-- Document 02, 2, "House return over a group of accounts": what each part, each account and the group come to. Definitions only.
use Rattle.std.specs.Prelude.{ℕ, zero, suc, Bool, true, ◌&&◌, ℤ, pos, negsuc, ◌+ℤ◌, ◌-ℤ◌, int_le, int_lt, Float}
use Rattle.std.specs.Float.{binary64}
use Rattle.std.specs.Float.Ieee.{sub, div}
use Rattle.doubles.specs.Doubles.{of_i64}
use Rattle.metrics.specs.Double.{one}
use Rattle.metrics.specs.Curve.{compounded}

-- "every account's equity at both ends, or a mark for absent"
pub data Equity : Type 0 where
  given : ℤ → Equity
  absent : Equity

-- both ends of one account in one part
pub record Ends : Type 0 where
  pub first : Equity
  pub last : Equity

-- The ends by part and account. How many accounts and how many parts there are is said beside it, `n` and `m` below.
abbrev pub Group : Type 0
Group = ℕ → ℕ → Ends

-- "An account missing at either end is left out of that part": it adds 0.
abbrev pub of_both : (ℤ → ℤ → ℤ) → Equity → Equity → ℤ
of_both of (given f) (given l) = of f l
of_both of (given f) absent = pos 0
of_both of absent l = pos 0

-- what an account adds to its part's first sum, and its change in that part
abbrev pub first_of : Ends → ℤ
first_of e = of_both (λ f l. f) e.first e.last

abbrev pub change_of : Ends → ℤ
change_of e = of_both (λ f l. l -ℤ f) e.first e.last

-- The exact sum of the first n numbers, and whether a test holds of each of them.
unfoldable pub sum_to : ℕ → (ℕ → ℤ) → ℤ
sum_to zero f = pos 0
sum_to (suc n) f = sum_to n f +ℤ f n

unfoldable pub every : ℕ → (ℕ → Bool) → Bool
every zero t = true
every (suc n) t = every n t && t n

-- ---- a part
abbrev pub first_sum : ℕ → Group → ℕ → ℤ
first_sum n g p = sum_to n (λ a. first_of (g p a))

abbrev pub summed_change : ℕ → Group → ℕ → ℤ
summed_change n g p = sum_to n (λ a. change_of (g p a))

-- "A part's growth is its summed change over its first sum": each rounded once.
abbrev pub growth_of : ℤ → ℤ → Float
growth_of change first = div binary64 (of_i64 change) (of_i64 first)

abbrev pub growth : ℕ → Group → ℕ → Float
growth n g p = growth_of (summed_change n g p) (first_sum n g p)

-- ---- the figure
-- "1 plus each growth is multiplied in part order, in binary64"
unfoldable pub product_to : ℕ → (ℕ → Float) → Float
product_to zero g = one
product_to (suc m) g = compounded (product_to m g) (g m)

-- "the figure is the product less 1"
abbrev pub figure : ℕ → ℕ → Group → Float
figure n m g = sub binary64 (product_to m (growth n g)) one

-- ---- changes over the whole period
-- "each account's change, defined over its own parts alone"
abbrev pub account_change : ℕ → Group → ℕ → ℤ
account_change m g a = sum_to m (λ p. change_of (g p a))

abbrev pub group_change : ℕ → ℕ → Group → ℤ
group_change n m g = sum_to m (summed_change n g)

-- ---- what is asked of them
abbrev pub in_i64 : ℤ → Bool
in_i64 z = int_le (negsuc 9223372036854775807) z && int_le z (pos 9223372036854775807)

-- "a change or a finished sum (not a partial one) leaves i64": those of a part, then those of the period
abbrev pub part_in_i64 : ℕ → Group → ℕ → Bool
part_in_i64 n g p = every n (λ a. in_i64 (change_of (g p a))) && (in_i64 (first_sum n g p) && in_i64 (summed_change n g p))

abbrev pub all_in_i64 : ℕ → ℕ → Group → Bool
all_in_i64 n m g = every m (part_in_i64 n g) && (every n (λ a. in_i64 (account_change m g a)) && in_i64 (group_change n m g))

-- "a part's first sum is not positive", of no part
abbrev pub all_positive : ℕ → ℕ → Group → Bool
all_positive n m g = every m (λ p. int_lt (pos 0) (first_sum n g p))
