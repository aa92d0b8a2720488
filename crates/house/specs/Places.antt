-- How a group stands in lent places, and how what it comes to stands in columns. Definitions only.
use Rattle.std.specs.Prelude.{ℕ, zero, suc, ◌+◌, ◌*◌, Bool, cond, List, [], ◌∷◌, length, ℤ, pos, ◌==◌, nat_le, nat_lt, slice_index, slice_index_or}
use Rattle.house.specs.Group.{Equity, given, absent, Ends, Group, every}

-- An equity is there where its mark is 1; else the number behind the mark does not matter.
abbrev pub marked : ℕ → ℤ → Equity
marked mark equity = cond (mark == 1) (given equity) absent

abbrev pub ends_of : ℕ → ℕ → ℤ → ℤ → Ends
ends_of firstMark lastMark first last = record { first = marked firstMark first; last = marked lastMark last }

-- Both ends of an account stand side by side.
abbrev pub ends_at : List ℕ → List ℤ → ℕ → Ends
ends_at marks equities k = ends_of (slice_index marks (2 * k)) (slice_index marks (2 * k + 1)) (slice_index_or equities (2 * k) (pos 0)) (slice_index_or equities (2 * k + 1) (pos 0))

-- Part by part, and in a part account by account.
abbrev pub group_in : ℕ → List ℕ → List ℤ → Group
group_in n marks equities p a = ends_at marks equities (p * n + a)

-- no mark above 1
abbrev pub good_marks : List ℕ → Bool
good_marks marks = every (length marks) (λ k. nat_le (slice_index marks k) 1)

-- ---- columns: the first n places by a function, the rest of the room the same
unfoldable pub each : {A : Type 0} → ℕ → (ℕ → A) → List A
each zero f = []
each (suc n) f = f 0 ∷ each n (λ i. f (suc i))

abbrev pub column : {A : Type 0} → ℕ → A → ℕ → (ℕ → A) → List A
column room rest n f = each room (λ i. cond (nat_lt i n) (f i) rest)
