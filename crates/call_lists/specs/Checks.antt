-- Document 01, 'Answer numbers': what a call's lists are refused for, in the order 6, 2, 3, 5, 4; and document 02, 9: "the answer tells the list, targets or prices, and the first offending index".
use Rattle.std.specs.Prelude.{ℕ, Bool, List, [], eqb, leb, ℤ, length, Float}
use Rattle.doubles.specs.Doubles.{all_finite}
use Rattle.answer.specs.declared.Entry.TheVariants.{Target, Price}
use Rattle.answer.specs.declared.Answer.{Answer}
use Rattle.answer.specs.declared.Answer.TheVariants.{Done, BadSymbol, Twice, BadPrice, BadWeight, TooLong}
pub use Rattle.answer.specs.Numbers.{unless}
use Rattle.table.specs.Keyed.{both}
use Rattle.call_lists.specs.Lists.{all_good, distinct, all_priced, first_bad, first_repeat, first_unpriced}

-- "64 targets, 128 prices"; paired lists have one length
unfoldable pub short_enough : List ℕ → List Float → List ℕ → List ℤ → Bool
short_enough ts ws ps vs =
    both (both (leb (length ts) 64) (eqb (length ts) (length ws))) (both (leb (length ps) 128) (eqb (length ps) (length vs)))

-- targets and their weights, prices' symbols and the prices; "Targets are examined before prices within each number, and the order of numbers stays"
unfoldable pub lists_answer : List ℕ → List Float → List ℕ → List ℤ → Answer
lists_answer ts ws ps vs =
    unless (short_enough ts ws ps vs) TooLong
    (unless (all_good ts) (BadSymbol (Target (first_bad ts)))
    (unless (all_good ps) (BadSymbol (Price (first_bad ps)))
    (unless (distinct ts) (Twice (Target (first_repeat ts)))
    (unless (distinct ps) (Twice (Price (first_repeat ps)))
    (unless (all_finite ws) BadWeight
    (unless (all_priced vs) (BadPrice (Price (first_unpriced vs)))
    Done))))))

-- a call with prices alone
abbrev pub prices_answer : List ℕ → List ℤ → Answer
prices_answer ps vs = lists_answer [] [] ps vs
