-- Document 01, 'Answer numbers', and the refusals of document 02's requests: the number of each answer, given exactly when the table or the request says, and how one check follows another.
use Rattle.std.specs.Prelude.{ℕ, Bool, eqb, Result, Ok, Err}
use Rattle.answer.specs.declared.Answer.{Answer}
use Rattle.answer.specs.declared.Answer.TheVariants.{Done, BadSetting, BadSymbol, Twice, BadPrice, BadWeight, TooLong, TooMany, NoRecordRoom, NotHeld, BufferFull, Unsound, BadSeries, BadGroup, NoFirstSum, OutOfRange, EndsEarly, BadNumber, LeftOver, NoFileRoom}
use Rattle.answer.specs.Choice.{pick}

abbrev pub number_of : Answer → ℕ
-- done
number_of Done = 0
-- a setting or opening cash is bad
number_of BadSetting = 1
-- a symbol is bad
number_of (BadSymbol e) = 2
-- a symbol stands twice in one list
number_of (Twice e) = 3
-- a price is below 1
number_of (BadPrice e) = 4
-- a weight is not finite
number_of BadWeight = 5
-- a list or return series is over its bound
number_of TooLong = 6
-- held symbols (flat ones too) and target symbols together exceed 64
number_of TooMany = 7
-- recording is on and the record buffer has under 64 places
number_of NoRecordRoom = 8
-- a close names an absent or flat position
number_of NotHeld = 9
-- the equity or return buffer has no free place
number_of BufferFull = 10
-- the account is not sound
number_of Unsound = 11
-- a return series is empty or has a non-finite member
number_of BadSeries = 12
-- group empty or over 32
number_of BadGroup = 13
-- a part's first sum is not positive
number_of NoFirstSum = 14
-- a change or a finished sum (not a partial one) leaves i64
number_of OutOfRange = 15
-- file ends early
number_of (EndsEarly at) = 16
-- number not shortest or too large
number_of (BadNumber at) = 17
-- bytes left over
number_of (LeftOver at) = 18
-- output room short
number_of NoFileRoom = 19

-- "0 done"
abbrev pub is_done : Answer → Bool
is_done answer = eqb (number_of answer) 0

-- "Check order where several apply": the later answer where the test holds, else this refusal
abbrev pub unless : Bool → Answer → Answer → Answer
unless ok refusal later = pick ok later refusal

-- the later answer where this one is done
abbrev pub or_later : Answer → Answer → Answer
or_later answer later = pick (is_done answer) later answer

-- an answer that is done as nothing wrong, and any other as the error that a check gives
abbrev pub checked : Answer → Result Unit Answer
checked answer = pick (is_done answer) (Ok tt) (Err answer)
