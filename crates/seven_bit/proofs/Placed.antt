-- Writing a number at a place, where there is room for its groups and where there is not.
use mathlib.Core.Path.{◌≡◌}
use Prim.Native.Nat.{ℕ, ◌+◌, ◌<◌, ◌≤◌}
use mathlib.Core.List.{List}
use lib.ListN.{length}
use lib.Seq.{sets}
use borrow.Author.Tests.{le-leb, lt-leb}
use Rattle.seven_bit.specs.Groups.{groups}
use Rattle.seven_bit.specs.Placed.{put_number, put_next_of}

pub room-put : (l : List ℕ) (place n : ℕ) → place + length (groups n) ≤ length l → put_number l place n ≡ sets l place (groups n)
unfolding put_number
room-put l place n h = simp (le-leb (place + length (groups n)) (length l) h)

pub room_next : (end place n : ℕ) → place + length (groups n) ≤ end → put_next_of end place n ≡ place + length (groups n)
unfolding put_next_of
room_next end place n h = simp (le-leb (place + length (groups n)) end h)

pub full_put : (l : List ℕ) (place n : ℕ) → length l < place + length (groups n) → put_number l place n ≡ l
unfolding put_number
full_put l place n h = simp (lt-leb (place + length (groups n)) (length l) h)

pub full-next : (end place n : ℕ) → end < place + length (groups n) → put_next_of end place n ≡ place
unfolding put_next_of
full-next end place n h = simp (lt-leb (place + length (groups n)) end h)
