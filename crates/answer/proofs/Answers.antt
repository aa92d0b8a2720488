-- Done alone has the number 0; and what an answer of number 0 tells of the checks before it.
use mathlib.Core.Path.{◌≡◌, refl}
use mathlib.Core.Bool.{Bool, true, false}
use Rattle.answer.specs.declared.Answer.{Answer}
use Rattle.answer.specs.declared.Answer.TheVariants.{Done, BadSetting, BadSymbol, Twice, BadPrice, BadWeight, TooLong, TooMany, NoRecordRoom, NotHeld, BufferFull, Unsound, BadSeries, BadGroup, NoFirstSum, OutOfRange, EndsEarly, BadNumber, LeftOver, NoFileRoom}
use Rattle.answer.specs.Numbers.{is_done, unless, or_later}

-- no other answer has the number 0
pub done_is : (a : Answer) → is_done a ≡ true → a ≡ Done
done_is Done e = refl
done_is BadSetting e = cc
done_is (BadSymbol p) e = cc
done_is (Twice p) e = cc
done_is (BadPrice p) e = cc
done_is BadWeight e = cc
done_is TooLong e = cc
done_is TooMany e = cc
done_is NoRecordRoom e = cc
done_is NotHeld e = cc
done_is BufferFull e = cc
done_is Unsound e = cc
done_is BadSeries e = cc
done_is BadGroup e = cc
done_is NoFirstSum e = cc
done_is OutOfRange e = cc
done_is (EndsEarly p) e = cc
done_is (BadNumber p) e = cc
done_is (LeftOver p) e = cc
done_is NoFileRoom e = cc

-- ---- checks
-- a test that was passed, and the answer after it
pub passed : (ok : Bool) (refusal later : Answer) → is_done refusal ≡ false → is_done (unless ok refusal later) ≡ true → (ok ≡ true) × (is_done later ≡ true)
passed true refusal later n e = (refl, e)
passed false refusal later n e = cc

pub passed_both : (first later : Answer) → is_done (or_later first later) ≡ true → (is_done first ≡ true) × (is_done later ≡ true)
passed_both first later e = go (is_done first) refl
  where
    go : (b : Bool) → is_done first ≡ b → (is_done first ≡ true) × (is_done later ≡ true)
    go true q = (q, rw q at e)
    go false q = let h : is_done first ≡ true = rw q at e in cc
