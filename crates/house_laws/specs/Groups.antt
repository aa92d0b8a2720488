-- Groups and reports beside each other: what the laws of the house return compare. Definitions only.
use Rattle.std.specs.Prelude.{ℕ, suc, ◌+◌, ◌*◌, ◌<◌, ◌≡◌, true, cond, List, [], ◌∷◌, ◌⊎◌, ltb, ℤ, pos, length, get_or}
use Rattle.std.specs.Int.Signed.{lt_z}
use Rattle.order.specs.Running.{Perm}
use Rattle.house.specs.declared.House.{House}
use Rattle.house.specs.Group.{absent, Ends, Group, first_of, change_of, first_sum, summed_change, account_change, group_change, in_i64}
use Rattle.house.specs.Places.{each}
use Rattle.house.specs.House.{house_of}

-- "An account missing at either end"
abbrev pub LeftOut : Ends → Type 0
LeftOut e = (e.first ≡ absent) ⊎ (e.last ≡ absent)

-- every index but k: those below it, then those above it
abbrev pub skipping : ℕ → ℕ → ℕ
skipping k i = cond (ltb i k) i (suc i)

-- the group without its account k
abbrev pub without : ℕ → Group → Group
without k g p a = g p (skipping k a)

-- the same n accounts in another order: in each part the account `from a` stands at a, and each stands once
pub record Rearranged (n m : ℕ) (g h : Group) : Type 0 where
  pub from : ℕ → ℕ
  pub each-once : Perm ℕ (each n from) (each n (λ a. a))
  pub same : (p a : ℕ) → p < m → a < n → h p a ≡ g p (from a)

-- every account adds the same to its part's sums
pub record AddSame (n m : ℕ) (g h : Group) : Type 0 where
  pub first : (p a : ℕ) → p < m → a < n → first_of (g p a) ≡ first_of (h p a)
  pub change : (p a : ℕ) → p < m → a < n → change_of (g p a) ≡ change_of (h p a)

-- Lists of equities that agree wherever a number is looked at: at both ends of an account whose two marks are 1.
pub record AgreeIfBoth (marks : List ℕ) (es fs : List ℤ) : Type 0 where
  pub as_long : length es ≡ length fs
  pub at_first : (k : ℕ) → get_or marks (2 * k) 0 ≡ 1 → get_or marks (2 * k + 1) 0 ≡ 1 → get_or es (2 * k) (pos 0) ≡ get_or fs (2 * k) (pos 0)
  pub at_last : (k : ℕ) → get_or marks (2 * k) 0 ≡ 1 → get_or marks (2 * k + 1) 0 ≡ 1 → get_or es (2 * k + 1) (pos 0) ≡ get_or fs (2 * k + 1) (pos 0)

-- the report of one account that is there at both ends of one part
abbrev pub alone : ℤ → ℤ → House
alone previous equity = house_of 1 1 (1 ∷ 1 ∷ []) (previous ∷ equity ∷ [])

-- a report with another column of changes
abbrev pub with_changes : List ℤ → House → House
with_changes changes r =
    record {
      answer = r.answer;
      figure = r.figure;
      change = r.change;
      changes = changes;
      firsts = r.firsts;
      gains = r.gains;
      growths = r.growths;
    }

-- what 15 and 14 ask, each change and each finished sum by its name
pub record GroupHolds (n m : ℕ) (g : Group) : Type 0 where
  pub change_in_part : (p a : ℕ) → p < m → a < n → in_i64 (change_of (g p a)) ≡ true
  pub first-sum : (p : ℕ) → p < m → in_i64 (first_sum n g p) ≡ true
  pub summed-change : (p : ℕ) → p < m → in_i64 (summed_change n g p) ≡ true
  pub account-change : (a : ℕ) → a < n → in_i64 (account_change m g a) ≡ true
  pub group_change_lem : in_i64 (group_change n m g) ≡ true
  pub positive : (p : ℕ) → p < m → lt_z (pos 0) (first_sum n g p) ≡ true
