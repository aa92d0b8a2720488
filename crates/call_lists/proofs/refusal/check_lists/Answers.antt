-- Each test passed on the way gives the same test of the definition; where one fails, the definition stops at the same refusal.
use Prim.Native.Nat.{ℕ, ◌≤◌, ◌<◌}
use mathlib.Core.Path.{◌≡◌, sym, ◌∙◌}
use mathlib.Core.Bool.{true, false}
use mathlib.Core.List.{List}
use mathlib.Core.Logic.{⊎_elim}
use borrow.Author.Tests.{le-leb, lt-leb, eq-eqb, ne_eqb}
use lib.Ieee.{Float}
use lib.IntN.{ℤ}
use lib.ListN.{length}
use Rattle.doubles.specs.Doubles.{all_finite}
use Rattle.call_lists.specs.Lists.{all_good, distinct, all_priced}
use Rattle.call_lists.specs.Checks.{short_enough, lists_answer}
use Rattle.call_lists.proofs.Lists.{place_told, no_place_told}
use Rattle.call_lists.proofs.Firsts.{good_tells, repeat_tells, priced_tells}
use Rattle.call_lists.proofs.refusal.check_lists.Goals as goal

-- the four tests of lengths
module _ (ts : List ℕ) (ws : List Float) (ps : List ℕ) (vs : List ℤ) where
  targets-long : 64 < length ts → short_enough ts ws ps vs ≡ false
  unfolding short_enough
  targets-long h = simp (lt-leb _ _ h)

  targets-unpaired : length ts ≤ 64 → (length ts ≡ length ws → ⊥) → short_enough ts ws ps vs ≡ false
  unfolding short_enough
  targets-unpaired h n = simp (le-leb _ _ h, ne_eqb _ _ n)

  module _ (h : length ts ≤ 64) (e : length ts ≡ length ws) where
    symbols-long : 128 < length ps → short_enough ts ws ps vs ≡ false
    unfolding short_enough
    symbols-long g = simp (le-leb _ _ h, eq-eqb _ _ e, lt-leb _ _ g)

    symbols-unpaired : length ps ≤ 128 → (length ps ≡ length vs → ⊥) → short_enough ts ws ps vs ≡ false
    unfolding short_enough
    symbols-unpaired g n = simp (le-leb _ _ h, eq-eqb _ _ e, le-leb _ _ g, ne_eqb _ _ n)

    short : length ps ≤ 128 → length ps ≡ length vs → short_enough ts ws ps vs ≡ true
    unfolding short_enough
    short g f = simp (le-leb _ _ h, eq-eqb _ _ e, le-leb _ _ g, eq-eqb _ _ f)

pub returns-then-targets-gt64 : goal.returns-then-targets-gt64
unfolding lists_answer
returns-then-targets-gt64 c =
    let a = c.args in
    sym (⊎_elim
    (λ h. simp (targets-long a.targets.now a.weights.now a.symbols.now a.prices.now h))
    (λ w. simp (targets-unpaired a.targets.now a.weights.now a.symbols.now a.prices.now w.0 w.1))
    c.then-targets-gt64.either)

pub returns-then-symbols-gt128 : goal.returns-then-symbols-gt128
unfolding lists_answer
returns-then-symbols-gt128 c =
    let a = c.args in
    let h = c.if-targets-gt64.false in
    let e = c.if-targets-weights.false in
    sym (⊎_elim
    (λ g. simp (symbols-long a.targets.now a.weights.now a.symbols.now a.prices.now h e g))
    (λ w. simp (symbols-unpaired a.targets.now a.weights.now a.symbols.now a.prices.now h e w.0 w.1))
    c.then-symbols-gt128.either)

pub returns-in-Some : goal.returns-in-Some
unfolding lists_answer
returns-in-Some c =
    let s = short c.args.targets.now c.args.weights.now c.args.symbols.now c.args.prices.now c.if-targets-gt64.false c.if-targets-weights.false c.if-symbols-gt128.false c.if-symbols-prices.false in
    let w = place_told _ _ (good_tells c.args.targets.now) c.in-Some.ensures in
    simp (s, w.0, w.1)

pub returns-in-Some-first_bad : goal.returns-in-Some-first_bad
unfolding lists_answer
returns-in-Some-first_bad c =
    let s = short c.args.targets.now c.args.weights.now c.args.symbols.now c.args.prices.now c.if-targets-gt64.false c.if-targets-weights.false c.if-symbols-gt128.false c.if-symbols-prices.false in
    let bt : all_good c.args.targets.now ≡ true = no_place_told _ _ (good_tells c.args.targets.now) c.in_default.ensures in
    let w = place_told _ _ (good_tells c.args.symbols.now) c.in-Some-first_bad.ensures in
    simp (s, bt, w.0, w.1)

pub returns-in-Some-first_repeat : goal.returns-in-Some-first_repeat
unfolding lists_answer
returns-in-Some-first_repeat c =
    let s = short c.args.targets.now c.args.weights.now c.args.symbols.now c.args.prices.now c.if-targets-gt64.false c.if-targets-weights.false c.if-symbols-gt128.false c.if-symbols-prices.false in
    let bt : all_good c.args.targets.now ≡ true = no_place_told _ _ (good_tells c.args.targets.now) c.in_default.ensures in
    let bs : all_good c.args.symbols.now ≡ true = no_place_told _ _ (good_tells c.args.symbols.now) c.in_default-first_bad.ensures in
    let w = place_told _ _ (repeat_tells c.args.targets.now) c.in-Some-first_repeat.ensures in
    simp (s, bt, bs, w.0, w.1)

pub returns-in-Some-first_repeat-2 : goal.returns-in-Some-first_repeat-2
unfolding lists_answer
returns-in-Some-first_repeat-2 c =
    let s = short c.args.targets.now c.args.weights.now c.args.symbols.now c.args.prices.now c.if-targets-gt64.false c.if-targets-weights.false c.if-symbols-gt128.false c.if-symbols-prices.false in
    let bt : all_good c.args.targets.now ≡ true = no_place_told _ _ (good_tells c.args.targets.now) c.in_default.ensures in
    let bs : all_good c.args.symbols.now ≡ true = no_place_told _ _ (good_tells c.args.symbols.now) c.in_default-first_bad.ensures in
    let dt : distinct c.args.targets.now ≡ true = no_place_told _ _ (repeat_tells c.args.targets.now) c.in_default-first_repeat.ensures in
    let w = place_told _ _ (repeat_tells c.args.symbols.now) c.in-Some-first_repeat-2.ensures in
    simp (s, bt, bs, dt, w.0, w.1)

pub returns-then-not-all_finite : goal.returns-then-not-all_finite
unfolding lists_answer
returns-then-not-all_finite c =
    let s = short c.args.targets.now c.args.weights.now c.args.symbols.now c.args.prices.now c.if-targets-gt64.false c.if-targets-weights.false c.if-symbols-gt128.false c.if-symbols-prices.false in
    let bt : all_good c.args.targets.now ≡ true = no_place_told _ _ (good_tells c.args.targets.now) c.in_default.ensures in
    let bs : all_good c.args.symbols.now ≡ true = no_place_told _ _ (good_tells c.args.symbols.now) c.in_default-first_bad.ensures in
    let dt : distinct c.args.targets.now ≡ true = no_place_told _ _ (repeat_tells c.args.targets.now) c.in_default-first_repeat.ensures in
    let ds : distinct c.args.symbols.now ≡ true = no_place_told _ _ (repeat_tells c.args.symbols.now) c.in_default-first_repeat-2.ensures in
    let w : all_finite c.args.weights.now ≡ false = sym c.all_finite.ensures ∙ c.if-not-all_finite.true in
    simp (s, bt, bs, dt, ds, w)

pub returns-in-Some-first_unpriced : goal.returns-in-Some-first_unpriced
unfolding lists_answer
returns-in-Some-first_unpriced c =
    let s = short c.args.targets.now c.args.weights.now c.args.symbols.now c.args.prices.now c.if-targets-gt64.false c.if-targets-weights.false c.if-symbols-gt128.false c.if-symbols-prices.false in
    let bt : all_good c.args.targets.now ≡ true = no_place_told _ _ (good_tells c.args.targets.now) c.in_default.ensures in
    let bs : all_good c.args.symbols.now ≡ true = no_place_told _ _ (good_tells c.args.symbols.now) c.in_default-first_bad.ensures in
    let dt : distinct c.args.targets.now ≡ true = no_place_told _ _ (repeat_tells c.args.targets.now) c.in_default-first_repeat.ensures in
    let ds : distinct c.args.symbols.now ≡ true = no_place_told _ _ (repeat_tells c.args.symbols.now) c.in_default-first_repeat-2.ensures in
    let fw : all_finite c.args.weights.now ≡ true = sym c.all_finite.ensures ∙ c.if-not-all_finite.false in
    let w = place_told _ _ (priced_tells c.args.prices.now) c.in-Some-first_unpriced.ensures in
    simp (s, bt, bs, dt, ds, fw, w.0, w.1)

pub returns : goal.returns
unfolding lists_answer
returns c =
    let s = short c.args.targets.now c.args.weights.now c.args.symbols.now c.args.prices.now c.if-targets-gt64.false c.if-targets-weights.false c.if-symbols-gt128.false c.if-symbols-prices.false in
    let bt : all_good c.args.targets.now ≡ true = no_place_told _ _ (good_tells c.args.targets.now) c.in_default.ensures in
    let bs : all_good c.args.symbols.now ≡ true = no_place_told _ _ (good_tells c.args.symbols.now) c.in_default-first_bad.ensures in
    let dt : distinct c.args.targets.now ≡ true = no_place_told _ _ (repeat_tells c.args.targets.now) c.in_default-first_repeat.ensures in
    let ds : distinct c.args.symbols.now ≡ true = no_place_told _ _ (repeat_tells c.args.symbols.now) c.in_default-first_repeat-2.ensures in
    let fw : all_finite c.args.weights.now ≡ true = sym c.all_finite.ensures ∙ c.if-not-all_finite.false in
    let pv : all_priced c.args.prices.now ≡ true = no_place_told _ _ (priced_tells c.args.prices.now) c.in_default-first_unpriced.ensures in
    simp (s, bt, bs, dt, ds, fw, pv)
