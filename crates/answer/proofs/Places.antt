-- A word holds its number in the lowest byte: the number and the place can be told apart, and 0 is Done's alone.
use Prim.Native.Nat.{ℕ, zero, suc, ◌<◌, ◌/◌, ◌%◌, ◌^◌}
use mathlib.Core.Path.{◌≡◌, refl, sym, ap, ◌∙◌}
use native.Mathlib.Omega.{arith}
use lib.Dec.{eqb}
use borrow.Author.Tests.{eq-eqb, ne_eqb}
use Rattle.answer.specs.declared.Answer.{Answer}
use Rattle.answer.specs.declared.Answer.TheVariants.{Done, BadSetting, BadSymbol, Twice, BadPrice, BadWeight, TooLong, TooMany, NoRecordRoom, NotHeld, BufferFull, Unsound, BadSeries, BadGroup, NoFirstSum, OutOfRange, EndsEarly, BadNumber, LeftOver, NoFileRoom}
use Rattle.answer.specs.Numbers.{number_of, is_done}
use Rattle.answer.specs.Places.{place_of, word_of}
use Rattle.answer.proofs.Answers.{done_is}

pub number_small : (a : Answer) → number_of a < 256
number_small Done = omega arith
number_small BadSetting = omega arith
number_small (BadSymbol e) = omega arith
number_small (Twice e) = omega arith
number_small (BadPrice e) = omega arith
number_small BadWeight = omega arith
number_small TooLong = omega arith
number_small TooMany = omega arith
number_small NoRecordRoom = omega arith
number_small NotHeld = omega arith
number_small BufferFull = omega arith
number_small Unsound = omega arith
number_small BadSeries = omega arith
number_small BadGroup = omega arith
number_small NoFirstSum = omega arith
number_small OutOfRange = omega arith
number_small (EndsEarly at) = omega arith
number_small (BadNumber at) = omega arith
number_small (LeftOver at) = omega arith
number_small NoFileRoom = omega arith

-- the two parts
pub word_number : (a : Answer) → word_of a % 256 ≡ number_of a
word_number a = omega (arith, number_small a)

pub word_place : (a : Answer) → place_of a < 2 ^ 56 → word_of a / 256 ≡ place_of a
word_place a h = omega (arith, number_small a)

-- 0 is the word of Done alone
pub word_done : (a : Answer) → eqb (word_of a) 0 ≡ is_done a
word_done a = go (number_of a) refl
  where
    go : (n : ℕ) → number_of a ≡ n → eqb (word_of a) 0 ≡ eqb n 0
    go zero e = ap (λ w. eqb (word_of w) 0) (done_is a (eq-eqb (number_of a) 0 e))
    go (suc n) e = ne_eqb (word_of a) 0 (λ z. omega (arith, e)) ∙ sym (ne_eqb (suc n) 0 (λ z. omega arith))
