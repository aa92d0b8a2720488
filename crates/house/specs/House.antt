-- The answer to a group, and the report: document 02, 2. Definitions only.
use Rattle.std.specs.Prelude.{ℕ, ◌*◌, Bool, ◌&&◌, List, length, replicate, ℤ, pos, ◌==◌, nat_le, nat_lt}
use Rattle.answer.specs.Choice.{pick}
use Rattle.answer.specs.Numbers.{is_done, unless}
use Rattle.answer.specs.declared.Answer.{Answer}
use Rattle.answer.specs.declared.Answer.TheVariants.{Done, BadSetting, TooLong, BadGroup, NoFirstSum, OutOfRange}
use Rattle.metrics.specs.Double.{zero}
use Rattle.house.specs.Group.{Group, first_sum, summed_change, growth, figure, account_change, group_change, all_in_i64, all_positive}
use Rattle.house.specs.Places.{group_in, good_marks, column}
use Rattle.house.specs.declared.House.{House}

-- "up to 32 accounts"
abbrev pub most_accounts : ℕ
most_accounts = 32

-- "parts outside 1 to 64"
abbrev pub most_parts : ℕ
most_parts = 64

abbrev pub within : ℕ → ℕ → Bool
within n most = nat_lt 0 n && nat_le n most

-- a mark and an equity for each end of each account in each part
abbrev pub whole : ℕ → ℕ → List ℕ → List ℤ → Bool
whole n m marks equities = length marks == 2 * (m * n) && length equities == 2 * (m * n)

-- "Refusals: 13 group empty or over 32, 6 parts outside 1 to 64, 15 a change or a finished sum (not a partial one) leaves i64, 14 a part's first sum is not positive; in that
-- order." Lists of another length are 6 too, and a mark above 1 is 1: marks are looked at once the lists are as long as they must be.
abbrev pub early_answer : ℕ → ℕ → List ℕ → List ℤ → Answer
early_answer n m marks equities =
    unless (within n most_accounts) BadGroup (unless (within m most_parts && whole n m marks equities) TooLong (unless (good_marks marks) BadSetting Done))

abbrev pub group_answer : ℕ → ℕ → Group → Answer
group_answer n m g = unless (all_in_i64 n m g) OutOfRange (unless (all_positive n m g) NoFirstSum Done)

-- "The report gives each account's change"; with it stand the group's, and of each part the first sum, the summed change and the growth.
unfoldable pub report : ℕ → ℕ → Group → House
report n m g =
    record {
      answer = Done;
      figure = figure n m g;
      change = group_change n m g;
      changes = column most_accounts (pos 0) n (account_change m g);
      firsts = column most_parts (pos 0) m (first_sum n g);
      gains = column most_parts (pos 0) m (summed_change n g);
      growths = column most_parts zero m (growth n g);
    }

-- "Each refusal returns its number with zero figures"
unfoldable pub refusal : Answer → House
refusal a =
    record {
      answer = a;
      figure = zero;
      change = pos 0;
      changes = replicate most_accounts (pos 0);
      firsts = replicate most_parts (pos 0);
      gains = replicate most_parts (pos 0);
      growths = replicate most_parts zero;
    }

-- the report of an answer of done, and else its refusal
abbrev pub answered : Answer → House → House
answered a r = pick (is_done a) r (refusal a)

unfoldable pub house_of_group : ℕ → ℕ → Group → House
house_of_group n m g = answered (group_answer n m g) (report n m g)

unfoldable pub house_of : ℕ → ℕ → List ℕ → List ℤ → House
house_of n m marks equities =
    answered (early_answer n m marks equities) (house_of_group n m (group_in n marks equities))
