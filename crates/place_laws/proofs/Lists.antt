-- What the checks of a call's lists answer says what it should of them.
use Prim.Native.Nat.{ℕ, ◌+◌, ◌*◌, ◌≤◌, ◌<◌}
use mathlib.Core.Path.{◌≡◌, refl, sym, ap, ◌∙◌}
use mathlib.Core.Bool.{Bool, true, false, not}
use mathlib.Core.List.{List}
use native.Mathlib.Omega.{arith}
use lib.IntN.{ℤ, pos}
use lib.Ieee.{Float}
use lib.Signed.{le_z, lt_z}
use lib.ListN.{length, get_or}
use borrow.Author.Tests.{not-true, not-false}
use Rattle.doubles.specs.Doubles.{all_finite}
use Rattle.position.specs.Symbols.{good_symbol}
use Rattle.answer.specs.declared.Entry.TheVariants.{Price}
use Rattle.answer.specs.declared.Answer.{Answer}
use Rattle.answer.specs.declared.Answer.TheVariants.{Done, BadPrice, BadWeight}
use Rattle.answer.specs.Numbers.{unless}
use Rattle.answer.proofs.Choice.{by_test}
use Rattle.call_lists.specs.Lists.{all_good, distinct, all_priced, first_unpriced, first_failing}
use Rattle.call_lists.specs.Checks.{short_enough, lists_answer}
use Rattle.call_lists.proofs.Lists.{below_one}
use Rattle.place_laws.specs.Statement.{BadSymbolAt, BadPriceAt, First, None, GoodSymbols, Once, Says}
use Rattle.place_laws.proofs.Firsts.{first_failing_lem, none_failing, first-repeat, none_twice}

pub first-bad : (l : List ℕ) → all_good l ≡ false → First (BadSymbolAt l) (length l) (first_failing good_symbol l)
unfolding all_good
first-bad l e = first_failing_lem good_symbol 0 l e

none-bad : (l : List ℕ) → all_good l ≡ true → None (BadSymbolAt l) (length l)
unfolding all_good
none-bad l e = none_failing good_symbol 0 l e

-- below 1, as the documents say it
pub is_below : (p : ℤ) → le_z (pos 1) p ≡ false → lt_z p (pos 1) ≡ true
is_below p e = not-false (lt_z p (pos 1)) (sym (below_one p) ∙ e)

not_below : (p : ℤ) → lt_z p (pos 1) ≡ true → le_z (pos 1) p ≡ false
not_below p e = below_one p ∙ ap not e

pub first-unpriced : (l : List ℤ) → all_priced l ≡ false → First (BadPriceAt l) (length l) (first_unpriced l)
unfolding all_priced
first-unpriced l e =
    let f = first_failing_lem (le_z (pos 1)) (pos 1) l e in
    record { within = f.within; bad-there = is_below (get_or l (first_unpriced l) (pos 1)) f.bad-there; none_before = λ j h b. f.none_before j h (not_below (get_or l j (pos 1)) b) }

none-unpriced : (l : List ℤ) → all_priced l ≡ true → None (BadPriceAt l) (length l)
unfolding all_priced
none-unpriced l e j h b = none_failing (le_z (pos 1)) (pos 1) l e j h (not_below (get_or l j (pos 1)) b)

module _ (ts : List ℕ) (ws : List Float) (ps : List ℕ) (vs : List ℤ) where
  Q : Answer → Type 0
  Q = Says ts ws ps vs

  -- from each test on, with what was asked before it
  after-once : Once ts ws ps vs → Q (unless (all_finite ws) BadWeight (unless (all_priced vs) (BadPrice (Price (first_unpriced vs))) Done))
  unfolding Q
  after-once o =
      by_test Q (all_finite ws) (unless (all_priced vs) (BadPrice (Price (first_unpriced vs))) Done) BadWeight
      (λ f. by_test Q (all_priced vs) Done (BadPrice (Price (first_unpriced vs)))
      (λ p. record { once = o; finite = f; prices-good = none-unpriced vs p })
      (λ p. record { once = o; finite = f; first = first-unpriced vs p }))
      (λ f. record { once = o; not_finite = f })

  pub lists_say : Says ts ws ps vs (lists_answer ts ws ps vs)
  unfolding lists_answer Q
  lists_say =
      by_test Q (short_enough ts ws ps vs) _ _
      (λ s. by_test Q (all_good ts) _ _
      (λ g. by_test Q (all_good ps) _ _
      (λ h. let good : GoodSymbols ts ws ps vs = record { short = s; targets-good = none-bad ts g; prices-good = none-bad ps h } in
      by_test Q (distinct ts) _ _
      (λ d. by_test Q (distinct ps) _ _
      (λ e. after-once (record { good = good; targets-once = none_twice ts d; prices-once = none_twice ps e }))
      (λ e. record { good = good; targets-once = none_twice ts d; first = first-repeat ps e }))
      (λ d. record { good = good; first = first-repeat ts d }))
      (λ h. record { short = s; targets-good = none-bad ts g; first = first-bad ps h }))
      (λ g. record { short = s; first = first-bad ts g }))
      (λ s. s)
