-- An answer's number and place tell the answer, so a word that cuts nothing of the place does.
use Prim.Native.Nat.{ℕ, zero, suc, ◌+◌, ◌*◌, ◌/◌, ◌%◌, ◌^◌, ◌<◌}
use mathlib.Core.Path.{◌≡◌, refl, sym, ap, ◌∙◌}
use mathlib.Core.List.{List, [], ◌∷◌}
use native.Mathlib.Omega.{arith}
use lib.Dec.{eqb}
use lib.ListN.{get_or}
use borrow.Author.Tests.{eq-eqb, ne_eqb}
use Rattle.answer.specs.Choice.{pick}
use Rattle.answer.specs.declared.Entry.{Entry}
use Rattle.answer.specs.declared.Entry.TheVariants.{Target, Price}
use Rattle.answer.specs.declared.Answer.{Answer}
use Rattle.answer.specs.declared.Answer.TheVariants.{Done, BadSetting, BadSymbol, Twice, BadPrice, BadWeight, TooLong, TooMany, NoRecordRoom, NotHeld, BufferFull, Unsound, BadSeries, BadGroup, NoFirstSum, OutOfRange, EndsEarly, BadNumber, LeftOver, NoFileRoom}
use Rattle.answer.specs.Numbers.{number_of}
use Rattle.answer.specs.Places.{entry_place, place_of, word_of}
use Rattle.answer.proofs.Places.{word_number, word_place}

-- ---- the way back
entry_at : ℕ → Entry
entry_at p = pick (eqb (p % 2) 0) (Target (p / 2)) (Price (p / 2))

entry_back : (e : Entry) → entry_at (entry_place e) ≡ e
unfolding entry_at
entry_back (Target i) =
    let h : 2 * i / 2 ≡ i = omega arith in
    simp (eq-eqb (2 * i % 2) 0 (omega arith)) (ap Target h)
entry_back (Price i) =
    let h : (2 * i + 1) / 2 ≡ i = omega arith in
    simp (ne_eqb ((2 * i + 1) % 2) 0 (λ z. omega arith)) (ap Price h)

-- the answers in the order of their numbers, each with this place
abbrev table : ℕ → List Answer
table p = Done ∷ BadSetting ∷ BadSymbol (entry_at p) ∷ Twice (entry_at p) ∷ BadPrice (entry_at p) ∷ BadWeight ∷ TooLong ∷ TooMany ∷ NoRecordRoom ∷ NotHeld ∷ BufferFull ∷ Unsound ∷ BadSeries ∷ BadGroup ∷ NoFirstSum ∷ OutOfRange ∷ EndsEarly p ∷ BadNumber p ∷ LeftOver p ∷ NoFileRoom ∷ []

in_its_place : (a : Answer) → get_or (table (place_of a)) (number_of a) Done ≡ a
in_its_place Done = refl
in_its_place BadSetting = refl
in_its_place (BadSymbol e) = ap BadSymbol (entry_back e)
in_its_place (Twice e) = ap Twice (entry_back e)
in_its_place (BadPrice e) = ap BadPrice (entry_back e)
in_its_place BadWeight = refl
in_its_place TooLong = refl
in_its_place TooMany = refl
in_its_place NoRecordRoom = refl
in_its_place NotHeld = refl
in_its_place BufferFull = refl
in_its_place Unsound = refl
in_its_place BadSeries = refl
in_its_place BadGroup = refl
in_its_place NoFirstSum = refl
in_its_place OutOfRange = refl
in_its_place (EndsEarly at) = refl
in_its_place (BadNumber at) = refl
in_its_place (LeftOver at) = refl
in_its_place NoFileRoom = refl

pub number-and_place_tell : (a b : Answer) → number_of a ≡ number_of b → place_of a ≡ place_of b → a ≡ b
number-and_place_tell a b e f = sym (in_its_place a) ∙ ap (λ n. get_or (table (place_of a)) n Done) e ∙ ap (λ p. get_or (table p) (number_of b) Done) f ∙ in_its_place b

-- what C is told tells the answer, of places below 2 ^ 56
pub word_tells : (a b : Answer) → place_of a < 2 ^ 56 → place_of b < 2 ^ 56 → word_of a ≡ word_of b → a ≡ b
word_tells a b h k e =
    number-and_place_tell a b
    (sym (word_number a) ∙ ap (λ w. w % 256) e ∙ word_number b)
    (sym (word_place a h) ∙ ap (λ w. w / 256) e ∙ word_place b k)
