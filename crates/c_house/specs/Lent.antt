-- The house return in lent places: rates and amounts as a C caller gets them. Definitions only.
use Rattle.std.specs.Prelude.{ℕ, ◌+◌, Bool, ◌&&◌, List, ◌∷◌, eqb, ℤ, Float, length, take}
use Rattle.answer.specs.Choice.{pick}
use Rattle.answer.specs.Numbers.{number_of, is_done, unless}
use Rattle.answer.specs.declared.Answer.{Answer}
use Rattle.answer.specs.declared.Answer.TheVariants.{TooLong, BadGroup}
use Rattle.house.specs.House.{most_accounts, within, house_of}
use Rattle.house.specs.declared.House.{House}

-- the places to write
pub record Lent : Type 0 where
  pub rates : List Float
  pub changes : List ℤ
  pub firsts : List ℤ
  pub gains : List ℤ

abbrev pub lent : List Float → List ℤ → List ℤ → List ℤ → Lent
lent rates changes firsts gains = record { rates = rates; changes = changes; firsts = firsts; gains = gains }

-- of n accounts over m parts: a rate more than there are parts, and a change more than there are accounts
abbrev pub places : ℕ → ℕ → Lent → Bool
places n m l = eqb (length l.firsts) m && (eqb (length l.gains) m && (eqb (length l.rates) (m + 1) && eqb (length l.changes) (n + 1)))

-- the figure and each part's growth; the group's change and each account's; each part's first sum, and its summed change
abbrev pub report_in : ℕ → ℕ → House → Lent
report_in n m h = lent (h.figure ∷ take m h.growths) (h.change ∷ take n h.changes) (take m h.firsts) (take m h.gains)

-- Places of another count answer 6, which is asked after 13.
unfoldable pub lent_answer : ℕ → ℕ → List ℕ → List ℤ → Lent → Answer
lent_answer n m marks equities l = unless (within n most_accounts) BadGroup (unless (places n m l) TooLong (house_of n m marks equities).answer)

-- an answer's number, and the places after the call
pub record HouseTold : Type 0 where
  pub answer : ℕ
  pub left : Lent

abbrev pub told : ℕ → Lent → HouseTold
told answer left = record { answer = answer; left = left }

-- "Each refusal returns .. every lent place as found."
unfoldable pub house_told : ℕ → ℕ → List ℕ → List ℤ → Lent → HouseTold
house_told n m marks equities l =
    pick (is_done (lent_answer n m marks equities l)) (told 0 (report_in n m (house_of n m marks equities))) (told (number_of (lent_answer n m marks equities l)) l)
