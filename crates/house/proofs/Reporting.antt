-- What the sums give the report, and what an answer of done tells of the places.
use Rattle.std.proofs.Common.{◌≡◌, ℕ, zero, suc, ◌*◌, ◌<◌, ◌≤◌, Bool, true, false, ◌&&◌, eqb, ltb, leb, None, Some, Ok, Err, List, length, get_or, replicate, ℤ, pos, sym, refl, ap, ◌∙◌, arith, eqb-true, leb-true}
use lib.Signed.{lt_z}
use lib.Ieee.{Float, binary64, sub}
use Rattle.answer.specs.Numbers.{is_done, unless, checked}
use Rattle.answer.proofs.Choice.{both_true}
use Rattle.answer.proofs.Answers.{passed}
use Rattle.answer.specs.declared.Answer.{Answer}
use Rattle.answer.specs.declared.Answer.TheVariants.{Done, TooLong, BadGroup, OutOfRange, NoFirstSum}
use Rattle.metrics.specs.Double.{one}
use Rattle.metrics.specs.Double.{zero as none}
use Rattle.house.specs.Group.{Group, every, in_i64, sum_to, first_sum, summed_change, growth_of, growth, product_to, account_change, group_change, part_in_i64, all_in_i64, all_positive}
use Rattle.house.specs.Places.{group_in, column}
use Rattle.house.specs.House.{most_accounts, most_parts, within, whole, early_answer, refusal, report, answered, house_of_group, house_of}
use Rattle.house.specs.declared.House.{House}
use Rattle.house.specs.Inner.Raised.{fitting}
use Rattle.house.specs.Inner.Parts.{in_range, is_positive, Summed, Grown}
use Rattle.house.proofs.Columns.{every_cong, column_at, column_cong, test_passed, test_failed}

sum_to_cong : (n : ℕ) (f g : ℕ → ℤ) → ((i : ℕ) → i < n → f i ≡ g i) → sum_to n f ≡ sum_to n g
unfolding sum_to
sum_to_cong zero f g e = refl
sum_to_cong (suc n) f g e = rw (sum_to_cong n f g (λ i h. e i (omega arith)), e n (omega arith))

product_cong : (m : ℕ) (f g : ℕ → Float) → ((p : ℕ) → p < m → f p ≡ g p) → product_to m f ≡ product_to m g
unfolding product_to
product_cong zero f g e = refl
product_cong (suc m) f g e = rw (product_cong m f g (λ p h. e p (omega arith)), e m (omega arith))

-- the columns and the answer of a report that is empty
pub record Empty (h : House) : Type 0 where
  pub answer : h.answer ≡ Done
  pub changes : h.changes ≡ replicate 32 (pos 0)
  pub firsts : h.firsts ≡ replicate 64 (pos 0)
  pub gains : h.gains ≡ replicate 64 (pos 0)
  pub growths : h.growths ≡ replicate 64 none

pub emptied : (h : House) → h ≡ refusal Done → Empty h
unfolding refusal
emptied h e = rw e (record { answer = refl; changes = refl; firsts = refl; gains = refl; growths = refl })

module _ (n m : ℕ) (g : Group) (hm : m ≤ 64) (fs gs cs : List ℤ) (s : Summed n m g fs gs cs) where
  first_at : (p : ℕ) → p < m → get_or fs p (pos 0) ≡ first_sum n g p
  first_at p h = ap (λ l. get_or l p (pos 0)) s.firsts ∙ column_at 64 (pos 0) m (first_sum n g) p (pos 0) hm h

  gain_at : (p : ℕ) → p < m → get_or gs p (pos 0) ≡ summed_change n g p
  gain_at p h = ap (λ l. get_or l p (pos 0)) s.gains ∙ column_at 64 (pos 0) m (summed_change n g) p (pos 0) hm h

  group_is : fitting (sum_to m (λ p. get_or gs p (pos 0))) ≡ fitting (group_change n m g)
  group_is = ap fitting (sum_to_cong m _ (summed_change n g) gain_at)

  all_by : all_in_i64 n m g ≡ in_i64 (group_change n m g)
  all_by =
      let b = both_true (every m (part_in_i64 n g)) (every n (λ a. in_i64 (account_change m g a))) s.fits in
      rw (b.0, b.1)

  positive_is : every m (is_positive fs) ≡ all_positive n m g
  positive_is = every_cong m (is_positive fs) (λ p. lt_z (pos 0) (first_sum n g p)) (λ p h. ap (lt_z (pos 0)) (first_at p h))

  -- the group's change is not in i64
  pub group_out : None ≡ fitting (sum_to m (λ p. get_or gs p (pos 0))) → refusal OutOfRange ≡ house_of_group n m g
  unfolding house_of_group
  group_out e = rw (all_by, test_failed _ _ (e ∙ group_is))

  module _ (change : ℤ) (e : Some change ≡ fitting (sum_to m (λ p. get_or gs p (pos 0)))) where
    group-in : (in_i64 (group_change n m g) ≡ true) × (change ≡ group_change n m g)
    group-in = test_passed _ _ _ (e ∙ group_is)

    pub no_first-sum : every m (is_positive fs) ≡ false → refusal NoFirstSum ≡ house_of_group n m g
    unfolding house_of_group
    no_first-sum q = rw (all_by, group-in.0, sym positive_is ∙ q)

    module _ (figure : Float) (growths : List Float) (hw : Grown m fs gs figure growths) where
      growth-at : (p : ℕ) → p < m → growth_of (get_or gs p (pos 0)) (get_or fs p (pos 0)) ≡ growth n g p
      growth-at p h = rw (gain_at p h, first_at p h)

      figure_is : figure ≡ sub binary64 (product_to m (growth n g)) one
      figure_is = hw.figure ∙ ap (λ x. sub binary64 x one) (product_cong m _ (growth n g) growth-at)

      growths-are : growths ≡ column 64 none m (growth n g)
      growths-are = hw.growths ∙ column_cong 64 none m _ (growth n g) growth-at

      pub report_is : record { answer = Done; figure = figure; change = change; changes = cs; firsts = fs; gains = gs; growths = growths } ≡ house_of_group n m g
      unfolding house_of_group report
      report_is =
          rw (all_by, group-in.0, sym positive_is ∙ hw.positive, figure_is, group-in.1, s.changes, s.firsts, s.gains, growths-are)

-- a part or an account is not in i64
pub out_of_range : (n m : ℕ) (g : Group) → in_range n m g ≡ false → refusal OutOfRange ≡ house_of_group n m g
unfolding house_of_group
out_of_range n m g e = go (every m (part_in_i64 n g)) (every n (λ a. in_i64 (account_change m g a))) e
  where
    go : (a b : Bool) → a && b ≡ false
        → refusal OutOfRange ≡ answered (unless (a && (b && in_i64 (group_change n m g))) OutOfRange (unless (all_positive n m g) NoFirstSum Done)) (report n m g)
    go true true q = cc
    go true false q = refl
    go false b q = refl

-- what an early answer of done tells of the places
pub early-done : (n m : ℕ) (marks : List ℕ) (equities : List ℤ) → is_done (early_answer n m marks equities) ≡ true
    → (n ≤ 32) × (m ≤ 64) × (length marks ≡ 2 * (m * n)) × (length equities ≡ 2 * (m * n))
early-done n m marks equities e =
    let a = passed (within n most_accounts) BadGroup _ refl e in
    let b = passed (within m most_parts && whole n m marks equities) TooLong _ refl a.1 in
    let c = both_true (within m most_parts) (whole n m marks equities) b.0 in
    let d = both_true (eqb (length marks) (2 * (m * n))) (eqb (length equities) (2 * (m * n))) c.1 in
    let x = both_true (ltb 0 n) (leb n 32) a.0 in
    let y = both_true (ltb 0 m) (leb m 64) c.0 in
    (leb-true n 32 x.1, leb-true m 64 y.1, eqb-true (length marks) (2 * (m * n)) d.0, eqb-true (length equities) (2 * (m * n)) d.1)

-- so does any answer of done
pub house-done : (n m : ℕ) (marks : List ℕ) (equities : List ℤ) → is_done (house_of n m marks equities).answer ≡ true → is_done (early_answer n m marks equities) ≡ true
unfolding house_of refusal
house-done n m marks equities e = go (is_done (early_answer n m marks equities)) refl
  where
    go : (t : Bool) → is_done (early_answer n m marks equities) ≡ t → is_done (early_answer n m marks equities) ≡ true
    go true q = q
    go false q = rw q at e

-- ---- what is asked before any sum
module _ (n m : ℕ) (marks : List ℕ) (equities : List ℤ) where
  pub early_passed : Ok tt ≡ checked (early_answer n m marks equities) → house_of_group n m (group_in n marks equities) ≡ house_of n m marks equities
  unfolding house_of
  early_passed e = go (is_done (early_answer n m marks equities)) refl
    where
      go : (t : Bool) → is_done (early_answer n m marks equities) ≡ t → house_of_group n m (group_in n marks equities) ≡ answered (early_answer n m marks equities) (house_of_group n m (group_in n marks equities))
      go true q = rw q
      go false q = let w = rw q at e in cc

  pub early_refused : (x : Answer) → Err x ≡ checked (early_answer n m marks equities) → refusal x ≡ house_of n m marks equities
  unfolding house_of
  early_refused x e = go (is_done (early_answer n m marks equities)) refl
    where
      go : (t : Bool) → is_done (early_answer n m marks equities) ≡ t → refusal x ≡ answered (early_answer n m marks equities) (house_of_group n m (group_in n marks equities))
      go true q = let w = rw q at e in cc
      go false q = let w = rw q at e in let i : x ≡ early_answer n m marks equities = cc in rw q (ap refusal i)
