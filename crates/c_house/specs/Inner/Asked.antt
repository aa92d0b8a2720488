-- What is asked of a group and of the places, before its report. Definitions only.
use Rattle.std.specs.Prelude.{ℕ}
use Rattle.answer.specs.Numbers.{unless}
use Rattle.answer.specs.declared.Answer.{Answer}
use Rattle.answer.specs.declared.Answer.TheVariants.{Done, TooLong, BadGroup}
use Rattle.house.specs.House.{most_accounts, within}
use Rattle.c_house.specs.Lent.{Lent, places}

abbrev pub first_answer : ℕ → ℕ → Lent → Answer
first_answer n m l = unless (within n most_accounts) BadGroup (unless (places n m l) TooLong Done)
