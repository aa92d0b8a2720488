-- "Each refusal returns its number .. and every lent place as found."
use Prim.Native.Nat.{◌%◌}
use mathlib.Core.Bool.{Bool, true, false}
use mathlib.Core.Path.{◌≡◌, refl}
use native.Mathlib.Omega.{arith}
use Rattle.answer.specs.Numbers.{is_done}
use Rattle.answer.specs.Places.{word_of}
use Rattle.table.specs.Keyed.{pick}
use Rattle.fills.specs.Orders.{State}
use Rattle.fills.specs.Fill.{fill}
use Rattle.c_fill.specs.declared.Ask.{Ask}
use Rattle.c_fill.specs.Single.{asked_terms, asked_order, state_in, Slots, FillTold, fill_told, done_in, answer_to, fill_one}

abbrev answered : Bool → State → Ask → Slots → FillTold
answered b x a l = pick b (done_in a.symbol x l) (fill_told (word_of (answer_to a l)) l)

by_test : (b : Bool) (x : State) (a : Ask) (l : Slots) → ((answered b x a l).answer % 256 ≡ 0 → ⊥) → (answered b x a l).places ≡ l
by_test true x a l h = absurd (h (omega arith))
by_test false x a l h = refl

-- The answer's number is what the low eight bits hold.
pub refused-leaves_as_found : (a : Ask) (l : Slots) → ((fill_one a l).answer % 256 ≡ 0 → ⊥) → (fill_one a l).places ≡ l
unfolding fill_one
refused-leaves_as_found a l h = by_test (is_done (answer_to a l)) (fill (asked_terms a) (asked_order a) (state_in a l)) a l h
