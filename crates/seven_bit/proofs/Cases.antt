-- The smallest cases, by computation.
use mathlib.Core.Path.{◌≡◌, refl}
use mathlib.Core.List.{List, [], ◌∷◌, ◌++◌}
use Prim.Native.Nat.{ℕ}
use lib.IntN.{pos, negsuc}
use Rattle.answer.specs.declared.Answer.TheVariants.{Done, EndsEarly, BadNumber}
use Rattle.seven_bit.specs.Groups.{ends, bad, got, onto, read, number, write, groups}
use Rattle.seven_bit.specs.Placed.{told, number_at_of, put_number, put_next_of}
use Rattle.seven_bit.specs.Signed.{folded, unfolded}

-- nine groups of which each goes on
abbrev nine : List ℕ
nine = 255 ∷ 255 ∷ 255 ∷ 255 ∷ 255 ∷ 255 ∷ 255 ∷ 255 ∷ 255 ∷ []

-- ---- written
zero_has_a_group : groups 0 ≡ 0 ∷ []
unfolding write
zero_has_a_group = refl

three_hundred : groups 300 ≡ 172 ∷ 2 ∷ []
unfolding write
three_hundred = refl

greatest : groups 18446744073709551615 ≡ nine ++ 1 ∷ []
unfolding write
greatest = refl

-- ---- read
back : number (172 ∷ 2 ∷ 9 ∷ []) ≡ got 300 2
unfolding read onto
back = refl

zero_is_shortest : number (0 ∷ []) ≡ got 0 1
unfolding read
zero_is_shortest = refl

greatest_back : number (nine ++ 1 ∷ []) ≡ got 18446744073709551615 10
unfolding read onto
greatest_back = refl

none : number [] ≡ ends
unfolding read
none = refl

early : number (172 ∷ []) ≡ ends
unfolding read onto
early = refl

-- nine groups that go on, and then the end, only end early
nine_end : number nine ≡ ends
unfolding read onto
nine_end = refl

not_shortest : number (128 ∷ 0 ∷ []) ≡ bad
unfolding read onto
not_shortest = refl

-- a 1 in two groups, where the form number 1 is meant, is no number
one_not_shortest : number (129 ∷ 0 ∷ []) ≡ bad
unfolding read onto
one_not_shortest = refl

tenth_zero : number (nine ++ 0 ∷ []) ≡ bad
unfolding read onto
tenth_zero = refl

tenth_two : number (nine ++ 2 ∷ []) ≡ bad
unfolding read onto
tenth_two = refl

-- ten groups with their top bits set are too large, though the bytes end there
tenth_goes_on : number (nine ++ 255 ∷ []) ≡ bad
unfolding read onto
tenth_goes_on = refl

-- ---- at a place
placed : number_at_of (7 ∷ 172 ∷ 2 ∷ 9 ∷ []) 1 ≡ record { answer = Done; value = 300; next = 3 }
unfolding told read onto
placed = refl

placed-early : number_at_of (7 ∷ 172 ∷ []) 1 ≡ record { answer = EndsEarly 2; value = 0; next = 2 }
unfolding told read onto
placed-early = refl

-- from past the end on, the place told is the end
placed_past : number_at_of (7 ∷ []) 5 ≡ record { answer = EndsEarly 1; value = 0; next = 1 }
unfolding told read
placed_past = refl

placed-bad : number_at_of (7 ∷ 129 ∷ 0 ∷ []) 1 ≡ record { answer = BadNumber 1; value = 0; next = 1 }
unfolding told read onto
placed-bad = refl

put : put_number (7 ∷ 7 ∷ 7 ∷ 7 ∷ []) 1 300 ≡ 7 ∷ 172 ∷ 2 ∷ 7 ∷ []
unfolding put_number write
put = refl

put_no_room : put_number (7 ∷ 7 ∷ []) 1 300 ≡ 7 ∷ 7 ∷ []
unfolding put_number write
put_no_room = refl

put_next : put_next_of 4 1 300 ≡ 3
unfolding put_next_of write
put_next = refl

put-next_no_room : put_next_of 2 1 300 ≡ 1
unfolding put_next_of write
put-next_no_room = refl

-- ---- signed
minus_one : ◌≡◌ {A = ℕ} (folded (negsuc 0)) 1
unfolding folded
minus_one = refl

plus_one : ◌≡◌ {A = ℕ} (folded (pos 1)) 2
unfolding folded
plus_one = refl

-- -2^63 is written as 2^64 - 1
least_signed : ◌≡◌ {A = ℕ} (folded (negsuc 9223372036854775807)) 18446744073709551615
unfolding folded
least_signed = refl

three_back : unfolded 3 ≡ negsuc 1
unfolding unfolded
three_back = refl

greatest_word_back : unfolded 18446744073709551615 ≡ negsuc 9223372036854775807
unfolding unfolded
greatest_word_back = refl
