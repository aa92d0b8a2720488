-- Room for as many records as a call asks for is all that counts: more room gives the same.
use Prim.Native.Nat.{ℕ, ◌≤◌, min}
use mathlib.Core.Path.{◌≡◌, refl, sym, ◌∙◌}
use mathlib.Core.Bool.{Bool, true, false}
use mathlib.Core.List.{List}
use native.Mathlib.Omega.{arith}
use lib.Dec.{leb}
use lib.IntN.{ℤ}
use lib.Ieee.{Float}
use borrow.Author.Tests.{leb-true, leb-false, le-leb, lt-leb}
use Rattle.fills.specs.declared.record.ExecutionKind.{ExecutionKind}
use Rattle.account.specs.declared.account.Account.{Account}
use Rattle.portfolio.specs.Answers.{has_room_of, rebalance_answer, close_answer}
use Rattle.portfolio.specs.Rebalance.{rebalanced}
use Rattle.portfolio.specs.Close.{position_closed}

enough : (asked most room : ℕ) → asked ≤ most → leb asked (min room most) ≡ leb asked room
enough asked most room h = go (leb asked room) refl
  where
    go : (b : Bool) → leb asked room ≡ b → leb asked (min room most) ≡ leb asked room
    go true e = le-leb asked (min room most) (omega (arith, h, leb-true asked room e)) ∙ sym e
    go false e = lt-leb asked (min room most) (omega (arith, leb-false asked room e)) ∙ sym e

pub room-enough : (a : Account) (asked most room : ℕ) → asked ≤ most → has_room_of a asked (min room most) ≡ has_room_of a asked room
unfolding has_room_of
room-enough a asked most room h = simp (enough asked most room h)

module _ (a : Account) (s : ℕ) (price : ℤ) (period : ℕ) (kind : ExecutionKind) where
  pub close-room : (most room : ℕ) → 1 ≤ most → position_closed a s price period kind (min room most) ≡ position_closed a s price period kind room
  unfolding position_closed close_answer
  close-room most room h = simp (room-enough a 1 most room h)

module _ (a : Account) (ts : List ℕ) (ws : List Float) (ps : List ℕ) (vs : List ℤ) (period : ℕ) (kind : ExecutionKind) where
  pub rebalance-room : (room : ℕ) → rebalanced a ts ws ps vs period kind (min room 64) ≡ rebalanced a ts ws ps vs period kind room
  unfolding rebalanced rebalance_answer
  rebalance-room room = simp (room-enough a 64 64 room (omega arith))
