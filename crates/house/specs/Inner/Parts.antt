-- What the loops over parts and accounts leave, in the paper's terms. Definitions only.
use Rattle.std.specs.Prelude.{◌≡◌, ℕ, ◌+◌, ◌/◌, ◌%◌, ◌^◌, ◌<◌, Bool, true, cond, ◌&&◌, Option, Some, None, List, length, ℤ, Float, pos, ◌==◌, int_lt, nat_lt, slice_index_or}
use Rattle.std.specs.Float.{binary64}
use Rattle.std.specs.Float.Ieee.{sub}
use Rattle.sums.specs.declared.Wide.{Wide}
use Rattle.sums.specs.Wide.{value_of}
use Rattle.metrics.specs.Double.{zero, one}
use Rattle.house.specs.Group.{Ends, Group, first_of, change_of, in_i64, every, growth_of, product_to, first_sum, summed_change, account_change, part_in_i64}
use Rattle.house.specs.Places.{column}
use Rattle.house.specs.Inner.Raised.{raised, lowered}
use Rattle.house.specs.declared.entry.Entry.{Entry}
use Rattle.house.specs.declared.part.Part.{Part}

-- one account in one part, where its change is in i64
abbrev pub entered : Ends → Option Entry
entered e = cond (in_i64 (change_of e)) (Some (record { first = first_of e; change = change_of e })) None

-- what a total in a column has come to
abbrev pub total_at : List Wide → ℕ → ℕ
total_at totals i = value_of (slice_index_or totals i (record { hi = 0; lo = 0 }))

-- a column of totals, with room for more in each sum
pub record SumsWithRoom (totals : List Wide) : Type 0 where
  pub long : length totals ≡ 32
  pub low : (i : ℕ) → i < 32 → total_at totals i < 2 ^ 96

-- the part p of a group of n accounts, and each account's total before and after it
pub record Added (n p : ℕ) (g : Group) (r : Part) (before after : List Wide) : Type 0 where
  pub fits : part_in_i64 n g p ≡ true
  pub first : r.first ≡ first_sum n g p
  pub gain : r.gain ≡ summed_change n g p
  pub long : length after ≡ 32
  pub totals : (i : ℕ) → i < 32 → total_at after i ≡ total_at before i + cond (nat_lt i n) (raised (change_of (g p i))) 0

-- what is asked of parts and accounts
abbrev pub in_range : ℕ → ℕ → Group → Bool
in_range n m g = every m (part_in_i64 n g) && every n (λ a. in_i64 (account_change m g a))

pub record Summed (n m : ℕ) (g : Group) (fs gs cs : List ℤ) : Type 0 where
  pub fits : in_range n m g ≡ true
  pub firsts : fs ≡ column 64 (pos 0) m (first_sum n g)
  pub gains : gs ≡ column 64 (pos 0) m (summed_change n g)
  pub changes : cs ≡ column 32 (pos 0) n (account_change m g)

-- the total of an account over m parts as it ends
abbrev pub total_fits : ℕ → List Wide → ℕ → Bool
total_fits m totals a = total_at totals a / 2 ^ 64 == m

pub record Totalled (n m : ℕ) (totals : List Wide) (r : List ℤ) : Type 0 where
  pub fits : every n (total_fits m totals) ≡ true
  pub changes : r ≡ column 32 (pos 0) n (λ a. lowered (total_at totals a % 2 ^ 64))

abbrev pub is_positive : List ℤ → ℕ → Bool
is_positive firsts p = int_lt (pos 0) (slice_index_or firsts p (pos 0))

pub record Grown (m : ℕ) (firsts gains : List ℤ) (f : Float) (r : List Float) : Type 0 where
  pub positive : every m (is_positive firsts) ≡ true
  pub figure : f ≡ sub binary64 (product_to m (λ p. growth_of (slice_index_or gains p (pos 0)) (slice_index_or firsts p (pos 0)))) one
  pub growths : r ≡ column 64 zero m (λ p. growth_of (slice_index_or gains p (pos 0)) (slice_index_or firsts p (pos 0)))
