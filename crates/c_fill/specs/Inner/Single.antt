-- One fill in the structs of the code.
use Rattle.std.specs.Prelude.{ℕ, List, [], ◌∷◌, ℤ, pos, get_or, Result, Ok, Err}
use Rattle.answer.specs.declared.Answer.{Answer}
use Rattle.answer.specs.Numbers.{is_done}
use Rattle.position.specs.declared.position.Position.{Position}
use Rattle.position.specs.Rows.{numbers_of}
use Rattle.table.specs.declared.found.Found.TheVariants.{Absent}
use Rattle.table.specs.Keyed.{pick}
use Rattle.table.specs.Rows.{holding}
use Rattle.table.specs.declared.table.Columns.{Columns}
use Rattle.table.specs.Inner.Rows.{CountedCols, counted_cols, posted}
use Rattle.fills.specs.declared.terms.Book.{Book}
use Rattle.fills.specs.declared.record.ExecutionRecord.{ExecutionRecord}
use Rattle.fills.specs.Orders.{State}
use Rattle.fills.specs.Inner.Runs.{records_of}
use Rattle.fills.specs.Fill.{fill}
use Rattle.c_fill.specs.declared.Ask.{Ask}
use Rattle.c_fill.specs.declared.Seen.{Seen}
use Rattle.c_fill.specs.Single.{Slots, asked_terms, asked_order, is_none, held_of, position_in, answer_to}

abbrev pub book_of : List ℤ → List ℕ → Book
book_of ms ts = record { cash = get_or ms 0 (pos 0); count = 0; trimmed = get_or ts 0 0; shortfall = get_or ms 1 (pos 0); sequence = get_or ts 1 0; written = 0; hint = 0 }

abbrev pub state_alone : Book → Position → State
state_alone b p = record { cash = b.cash; held = held_of p; trimmed = b.trimmed; shortfall = b.shortfall; sequence = b.sequence; records = [] }

abbrev pub entered_in : Position → Columns → CountedCols
entered_in p c = pick (is_none p) (counted_cols 0 c) (posted (Absent 0) p (counted_cols 0 c))

abbrev pub money_of : Book → Position → List ℤ
money_of b p = b.cash ∷ b.shortfall ∷ numbers_of p

abbrev pub tallies_of : Book → List ℕ
tallies_of b = b.trimmed ∷ b.sequence ∷ []

-- a fill, and the position of its symbol after it
pub record Sight : Type 0 where
  pub money : List ℤ
  pub tallies : List ℕ
  pub records : List ExecutionRecord

abbrev pub seen_by : Seen → Sight
seen_by r = record { money = money_of r.filled.book r.position; tallies = tallies_of r.filled.book; records = records_of r.filled }

abbrev pub seen_in : ℕ → State → Sight
seen_in s x = record { money = x.cash ∷ x.shortfall ∷ numbers_of (holding s x.held); tallies = x.trimmed ∷ x.sequence ∷ []; records = x.records }

abbrev pub seen_after : Ask → Book → Position → Sight
seen_after a b p = seen_in a.symbol (fill (asked_terms a) (asked_order a) (state_alone b p))

-- what is seen of a fill that is asked, or what refuses it
abbrev pub sight_of : Result Seen Answer → Result Sight Answer
sight_of (Ok r) = Ok (seen_by r)
sight_of (Err answer) = Err answer

abbrev pub sighted : Ask → Slots → Result Sight Answer
sighted a l = pick (is_done (answer_to a l)) (Ok (seen_after a (book_of l.money l.tallies) (position_in a.symbol l.money))) (Err (answer_to a l))
