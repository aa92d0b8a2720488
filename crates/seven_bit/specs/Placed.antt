-- A number at a place of a run of bytes, as the code answers it. Definitions only.
use Rattle.std.specs.Prelude.{ℕ, ◌+◌, List, leb, length, drop, Result, Ok, Err}
use Rattle.std.proofs.lemmas.List.Edits.{sets}
use Rattle.answer.specs.Choice.{pick}
use Rattle.answer.specs.Numbers.{is_done}
use Rattle.answer.specs.declared.Answer.{Answer}
use Rattle.answer.specs.declared.Answer.TheVariants.{Done, EndsEarly, BadNumber}
use Rattle.seven_bit.specs.Groups.{Out, ends, bad, got, number, groups}
use Rattle.seven_bit.specs.declared.read.Number.{Number}
use Rattle.seven_bit.specs.declared.read.Fault.{Fault}

-- What is told of a number: the number, and where the next one starts; or a refusal, and its place.
pub record ToldNumber : Type 0 where
  pub answer : Answer
  pub value : ℕ
  pub next : ℕ

-- "16 file ends early, 17 number not shortest or too large"; document 02, request 9: "the byte place for 16, 17 ...: the end of the file, the number's first byte".
-- Else the number, and the place after it.
unfoldable pub told : ℕ → ℕ → Out → ToldNumber
told place end ends = record { answer = EndsEarly end; value = 0; next = end }
told place end bad = record { answer = BadNumber place; value = 0; next = place }
told place end (got v n) = record { answer = Done; value = v; next = place + n }

abbrev pub number_at_of : List ℕ → ℕ → ToldNumber
number_at_of l place = told place (length l) (number (drop place l))

-- What the code answers: what was read, or a refusal and its place as a fault.
abbrev pub or_fault : {A : Type 0} → Answer → ℕ → A → Result A Fault
or_fault answer place read = pick (is_done answer) (Ok read) (Err (record { answer = answer; place = place }))

abbrev pub number_or_fault : ToldNumber → Result Number Fault
number_or_fault n = or_fault n.answer n.next (record { value = n.value; next = n.next })

-- The bytes with a number's groups from a place on, where there is room for all of them; else all as found.
unfoldable pub put_number : List ℕ → ℕ → ℕ → List ℕ
put_number l place n = pick (leb (place + length (groups n)) (length l)) (sets l place (groups n)) l

-- The place after them, where there is room before `end`; else the place itself.
unfoldable pub put_next_of : ℕ → ℕ → ℕ → ℕ
put_next_of end place n = pick (leb (place + length (groups n)) end) (place + length (groups n)) place
