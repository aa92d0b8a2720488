-- One fill on an account of at most one position, in lent places.
use Rattle.std.specs.Prelude.{ℕ, ◌*◌, Bool, true, List, [], ◌∷◌, eqb, leb, ℤ, pos, length, get_or}
use Rattle.std.specs.Int.Signed.{le_z}
use Rattle.answer.specs.declared.Answer.{Answer}
use Rattle.answer.specs.declared.Answer.TheVariants.{Done, BadSetting, BadPrice, NoRecordRoom, Unsound}
use Rattle.answer.specs.Numbers.{is_done}
use Rattle.answer.specs.Places.{alone, word_of}
use Rattle.position.specs.declared.position.Position.{Position}
use Rattle.position.specs.Rows.{row, held, realized, numbers_of}
use Rattle.position.specs.Shares.{is_zero}
use Rattle.position.specs.Fills.{sound}
use Rattle.cost_model.specs.declared.CostModel.{CostModel}
use Rattle.cost_model.specs.Costs.{good_costs}
use Rattle.call_lists.specs.Checks.{unless}
use Rattle.table.specs.Keyed.{pick, both}
use Rattle.table.specs.Rows.{holding}
use Rattle.fills.specs.declared.terms.Order.{Order}
use Rattle.fills.specs.declared.terms.Terms.{Terms}
use Rattle.fills.specs.declared.record.ExecutionRecord.{ExecutionRecord}
use Rattle.fills.specs.Orders.{State, order}
use Rattle.fills.specs.Records.{kind_of, good_kind, all_words, all_ints, fronted}
use Rattle.fills.specs.Fill.{fill}
use Rattle.c_fill.specs.declared.Ask.{Ask}

-- ---- what is asked
abbrev pub ask_of : CostModel → ℤ → ℕ → ℕ → ℕ → ℤ → ℤ → Ask
ask_of m step period kind s q price = record { costs = m; quantity_step = step; period = period; kind = kind; symbol = s; quantity = q; price = price }

-- every fill is recorded
abbrev pub asked_terms : Ask → Terms
asked_terms a = record { costs = a.costs; quantity_step = a.quantity_step; recording = true; period_index = a.period; kind = kind_of a.kind }

abbrev pub asked_order : Ask → Order
asked_order a = order a.symbol a.quantity a.price

-- ---- the lent places: cash, shortfall, and the position's quantity, average, realized profit and total cost; the counts of trimmed fills and of records;
-- and room for records, four words and eight numbers each
pub record Slots : Type 0 where
  pub money : List ℤ
  pub tallies : List ℕ
  pub words : List ℕ
  pub ints : List ℤ

abbrev pub slots : List ℤ → List ℕ → List ℕ → List ℤ → Slots
slots ms ts ws is = record { money = ms; tallies = ts; words = ws; ints = is }

abbrev pub position_in : ℕ → List ℤ → Position
position_in s ms = row s (get_or ms 2 (pos 0)) (get_or ms 3 (pos 0)) (get_or ms 4 (pos 0)) (get_or ms 5 (pos 0))

-- a flat position that realized nothing stands for none
abbrev pub is_none : Position → Bool
is_none p = both (is_zero (held p)) (is_zero (realized p))

abbrev pub held_of : Position → List Position
held_of p = pick (is_none p) [] (p ∷ [])

abbrev pub state_in : Ask → Slots → State
state_in a l = record {
  cash = get_or l.money 0 (pos 0);
  held = held_of (position_in a.symbol l.money);
  trimmed = get_or l.tallies 0 0;
  shortfall = get_or l.money 1 (pos 0);
  sequence = get_or l.tallies 1 0;
  records = [];
}

-- "records fill the first places [..] and the rest are as found"
abbrev pub slots_of : ℕ → State → Slots → Slots
slots_of s x l = slots
    (x.cash ∷ x.shortfall ∷ numbers_of (holding s x.held))
    (x.trimmed ∷ x.sequence ∷ [])
    (fronted (all_words x.records) l.words)
    (fronted (all_ints x.records) l.ints)

-- ---- the answer: "Check order where several apply: 11, 1, 6, 2, 3, 5, 4, 8"
-- "A sound account has .. cash at least 0, positions with good symbols"
abbrev pub sound_alone : ℤ → Position → Bool
sound_alone cash p = both (le_z (pos 0) cash) (sound p)

-- "`quantity_step` at least 1"
abbrev pub good_ask : Ask → Bool
good_ask a = both (good_costs a.costs) (both (le_z (pos 1) a.quantity_step) (good_kind a.kind))

-- room for one record
abbrev pub room_for_one : ℕ → ℕ → Bool
room_for_one words ints = both (leb 4 words) (leb 8 ints)

unfoldable pub refusal_of : Ask → ℤ → Position → ℕ → ℕ → Answer
refusal_of a cash p words ints =
    unless (sound_alone cash p) Unsound
    (unless (good_ask a) BadSetting
    (unless (le_z (pos 1) a.price) (BadPrice alone)
    (unless (room_for_one words ints) NoRecordRoom
    Done)))

-- "Account bytes of the wrong length answer 11": so do numbers and counts of another length.
unfoldable pub answer_to : Ask → Slots → Answer
answer_to a l =
    unless (both (eqb (length l.money) 6) (eqb (length l.tallies) 2)) Unsound
    (refusal_of a (get_or l.money 0 (pos 0)) (position_in a.symbol l.money) (length l.words) (length l.ints))

-- ---- the answer and the places after it: "Each refusal returns its number with .. every lent place as found."
pub record FillTold : Type 0 where
  pub answer : ℕ
  pub places : Slots

abbrev pub fill_told : ℕ → Slots → FillTold
fill_told n l = record { answer = n; places = l }

-- "After 0, records fill the first places, the answer counts them": their count stands above the number, whose eight bits are then 0
abbrev pub counting : List ExecutionRecord → ℕ
counting rs = 256 * length rs

abbrev pub done_in : ℕ → State → Slots → FillTold
done_in s x l = fill_told (counting x.records) (slots_of s x l)

unfoldable pub fill_one : Ask → Slots → FillTold
fill_one a l =
    pick (is_done (answer_to a l))
    (done_in a.symbol (fill (asked_terms a) (asked_order a) (state_in a l)) l)
    (fill_told (word_of (answer_to a l)) l)
