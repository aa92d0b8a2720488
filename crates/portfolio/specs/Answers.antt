-- When each call is refused: document 01, 'Answer numbers', in the order 11, 1, 6, 2, 3, 5, 4, 8, 7, 9, 10, 12.
use Rattle.std.specs.Prelude.{ℕ, ◌+◌, ◌/◌, min, Bool, true, not, List, [], ◌∷◌, leb, length, ℤ, pos, Float}
use Rattle.std.specs.Int.Signed.{le_z}
use Rattle.answer.specs.declared.Answer.{Answer}
use Rattle.answer.specs.declared.Answer.TheVariants.{Done, BadSymbol, BadPrice, TooMany, NoRecordRoom, NotHeld, BufferFull, Unsound}
use Rattle.answer.specs.Places.{alone}
use Rattle.position.specs.declared.position.Position.{Position}
use Rattle.position.specs.Rows.{key_of}
use Rattle.position.specs.Symbols.{good_symbol}
use Rattle.table.specs.Keyed.{pick, both, there, seek}
use Rattle.table.specs.Rows.{holding, is_zero}
pub use Rattle.answer.specs.Numbers.{is_done, or_later}
use Rattle.call_lists.specs.Checks.{unless, lists_answer, prices_answer}
use Rattle.account.specs.declared.account.Account.{Account}
use Rattle.account.specs.Account.{sound_account, held_in}

-- the places of a record buffer of four words and eight numbers a record
abbrev pub record_places : ℕ → ℕ → ℕ
record_places words ints = min (words / 4) (ints / 8)

-- "recording is on and the record buffer has under 64 places"; "For closing, 8 asks for one place."
abbrev pub room_for : Bool → ℕ → ℕ → Bool
room_for recording asked room = pick recording (leb asked room) true

unfoldable pub has_room_of : Account → ℕ → ℕ → Bool
has_room_of a asked room = room_for a.settings.recording asked room

-- target symbols that the account does not hold
unfoldable pub not_held : List ℕ → List Position → ℕ
not_held [] held = 0
not_held (s ∷ l) held = pick (there (seek key_of s held)) (not_held l held) (not_held l held + 1)

unfoldable pub rebalance_answer : Account → List ℕ → List Float → List ℕ → List ℤ → ℕ → Answer
rebalance_answer a ts ws ps vs room =
    unless (sound_account a) Unsound
    (or_later (lists_answer ts ws ps vs)
    (unless (has_room_of a 64 room) NoRecordRoom
    (unless (leb (length (held_in a.positions) + not_held ts (held_in a.positions)) 64) TooMany
    Done)))

unfoldable pub close_answer : Account → ℕ → ℤ → ℕ → Answer
close_answer a s price room =
    unless (sound_account a) Unsound
    (unless (good_symbol s) (BadSymbol alone)
    (unless (le_z (pos 1) price) (BadPrice alone)
    (unless (has_room_of a 1 room) NoRecordRoom
    (unless (not (is_zero (holding s (held_in a.positions)).quantity.0)) NotHeld
    Done))))

-- a query with prices
unfoldable pub query_answer : Account → List ℕ → List ℤ → Answer
query_answer a ps vs = unless (sound_account a) Unsound (prices_answer ps vs)

-- "`record_return` gives 10 when either buffer is full, even if no return is due"
unfoldable pub return_answer : Account → List ℕ → List ℤ → ℕ → ℕ → Answer
return_answer a ps vs equities returns =
    unless (sound_account a) Unsound
    (or_later (prices_answer ps vs)
    (unless (both (leb (a.series.equity_count + 1) equities) (leb (a.series.return_count + 1) returns)) BufferFull
    Done))
