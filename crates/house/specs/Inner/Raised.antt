-- Signed sums in two unsigned words: each number is raised by 2 ^ 63, which makes it a word. Definitions only.
use Rattle.std.specs.Prelude.{ℕ, zero, suc, ◌+◌, ◌-◌, ◌*◌, ◌/◌, ◌%◌, ◌^◌, cond, Option, Some, None, ℤ, pos, negsuc, ◌==◌, nat_lt}
use Rattle.house.specs.Group.{in_i64}

-- 2 ^ 63, which stands for 0
abbrev pub half : ℕ
half = 9223372036854775808

unfoldable pub raised : ℤ → ℕ
raised (pos n) = half + n
raised (negsuc n) = half - suc n

unfoldable pub lowered : ℕ → ℤ
lowered w = cond (nat_lt w half) (negsuc (half - suc w)) (pos (w - half))

-- ---- sums of words
unfoldable pub sum_n : ℕ → (ℕ → ℕ) → ℕ
sum_n zero f = 0
sum_n (suc n) f = sum_n n f + f n

-- What a sum of n raised numbers starts from, so that in the end it is the number itself, raised by n * 2 ^ 64 + 2 ^ 63: the upper word then is n where the number is in i64,
-- and the lower one is the number, raised.
abbrev pub begun : ℕ → ℕ
begun n = (n + 1) * half

abbrev pub summed : ℕ → (ℕ → ℕ) → ℕ
summed n f = begun n + sum_n n f

unfoldable pub ended : ℕ → ℕ → Option ℤ
ended n s = cond (s / 2 ^ 64 == n) (Some (lowered (s % 2 ^ 64))) None

-- a number where it is in i64
abbrev pub fitting : ℤ → Option ℤ
fitting z = cond (in_i64 z) (Some z) None
