-- Document 02, request 9: the place that an answer tells, and how one word holds it beside the number.
use Rattle.std.specs.Prelude.{ℕ, ◌+◌, ◌*◌, ◌%◌, ◌^◌}
use Rattle.answer.specs.declared.Entry.{Entry}
use Rattle.answer.specs.declared.Entry.TheVariants.{Target, Price}
use Rattle.answer.specs.declared.Answer.{Answer}
use Rattle.answer.specs.declared.Answer.TheVariants.{Done, BadSetting, BadSymbol, Twice, BadPrice, BadWeight, TooLong, TooMany, NoRecordRoom, NotHeld, BufferFull, Unsound, BadSeries, BadGroup, NoFirstSum, OutOfRange, EndsEarly, BadNumber, LeftOver, NoFileRoom}
use Rattle.answer.specs.Numbers.{number_of}

-- "the list, targets or prices, and the first offending index", as one number
abbrev pub entry_place : Entry → ℕ
entry_place (Target i) = 2 * i
entry_place (Price i) = 2 * i + 1

-- "Calls with one symbol tell index 0": of its prices
abbrev pub alone : Entry
alone = Price 0

-- "2, 3 and 4 ... tell the list ... and the first offending index", "the byte place for 16, 17 and 18"; the others tell no place
abbrev pub place_of : Answer → ℕ
place_of Done = 0
place_of BadSetting = 0
place_of (BadSymbol e) = entry_place e
place_of (Twice e) = entry_place e
place_of (BadPrice e) = entry_place e
place_of BadWeight = 0
place_of TooLong = 0
place_of TooMany = 0
place_of NoRecordRoom = 0
place_of NotHeld = 0
place_of BufferFull = 0
place_of Unsound = 0
place_of BadSeries = 0
place_of BadGroup = 0
place_of NoFirstSum = 0
place_of OutOfRange = 0
place_of (EndsEarly at) = at
place_of (BadNumber at) = at
place_of (LeftOver at) = at
place_of NoFileRoom = 0

-- a place above the lowest byte of a word of 64 bits, which keeps 56 bits of it
abbrev pub above : ℕ → ℕ
above place = 256 * place % 2 ^ 64

-- "numbers unchanged, place added": what C is told
abbrev pub word_of : Answer → ℕ
word_of a = number_of a + above (place_of a)
