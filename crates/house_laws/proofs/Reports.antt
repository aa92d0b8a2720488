-- A report depends on a group by its parts' sums and its accounts' changes alone.
use Prim.Native.Nat.{ℕ, ◌<◌}
use mathlib.Core.Path.{◌≡◌, refl, sym, ap, ◌∙◌}
use mathlib.Core.Bool.{Bool, true, false}
use lib.IntN.{pos}
use lib.Signed.{lt_z}
use lib.Ieee.{binary64, sub}
use Rattle.answer.specs.Choice.{pick}
use Rattle.answer.specs.Numbers.{is_done}
use Rattle.answer.specs.declared.Answer.{Answer}
use Rattle.answer.specs.declared.Answer.TheVariants.{Done}
use Rattle.metrics.specs.Double.{zero, one}
use Rattle.house.specs.declared.House.{House}
use Rattle.house.specs.Group.{Group, change_of, every, first_sum, summed_change, growth, figure, account_change, group_change, in_i64, part_in_i64, all_in_i64, all_positive}
use Rattle.house.specs.Places.{column}
use Rattle.house.specs.House.{group_answer, report, refusal, house_of_group, most_parts, most_accounts, answered}
use Rattle.house_laws.specs.Groups.{AddSame, with_changes}
use Rattle.house.proofs.Columns.{column_cong}
use Rattle.house_laws.proofs.Folds.{sums, tests, products, cong}

-- n accounts of one group and k of another have the same sums in each of m parts
pub record SameParts (m n : ℕ) (g : Group) (k : ℕ) (h : Group) : Type 0 where
  pub first : (p : ℕ) → p < m → first_sum n g p ≡ first_sum k h p
  pub change : (p : ℕ) → p < m → summed_change n g p ≡ summed_change k h p

-- what is asked of each account comes to the same
pub record SameTests (m n : ℕ) (g : Group) (k : ℕ) (h : Group) : Type 0 where
  pub in_parts : (p : ℕ) → p < m → every n (λ a. in_i64 (change_of (g p a))) ≡ every k (λ a. in_i64 (change_of (h p a)))
  pub in_all : every n (λ a. in_i64 (account_change m g a)) ≡ every k (λ a. in_i64 (account_change m h a))

-- with the same answer, reports that differ in their changes alone still do
pub but_changes : (a b : Answer) (r s : House) → a ≡ b → s ≡ with_changes s.changes r → answered b s ≡ with_changes (answered b s).changes (answered a r)
but_changes a b r s e d = rw e (go (is_done b))
  where
    go : (t : Bool) → pick t s (refusal b) ≡ with_changes (pick t s (refusal b)).changes (pick t r (refusal b))
    go true = d
    go false = refl

module _ {m n : ℕ} {g : Group} {k : ℕ} {h : Group} (s : SameParts m n g k h) where
  -- growths, figure and the group's change are the parts' alone
  pub same-growth : (p : ℕ) → p < m → growth n g p ≡ growth k h p
  same-growth p l = rw (s.first p l, s.change p l)

  pub same-figure : figure n m g ≡ figure k m h
  same-figure = ap (λ x. sub binary64 x one) (cong products m (growth n g) (growth k h) same-growth)

  pub same_group_change : group_change n m g ≡ group_change k m h
  same_group_change = cong sums m (summed_change n g) (summed_change k h) s.change

  same-positive : all_positive n m g ≡ all_positive k m h
  same-positive = cong tests m _ _ (λ p l. ap (lt_z (pos 0)) (s.first p l))

  same-figures : report k m h ≡ with_changes (report k m h).changes (report n m g)
  unfolding report
  same-figures i =
      record {
        answer = Done;
        figure = sym same-figure i;
        change = sym same_group_change i;
        changes = column most_accounts (pos 0) k (account_change m h);
        firsts = sym (column_cong most_parts (pos 0) m _ _ s.first) i;
        gains = sym (column_cong most_parts (pos 0) m _ _ s.change) i;
        growths = sym (column_cong most_parts zero m _ _ same-growth) i;
      }

  module _ (t : SameTests m n g k h) where
    same-range : all_in_i64 n m g ≡ all_in_i64 k m h
    same-range = rw (t.in_all, same_group_change, cong tests m (part_in_i64 n g) (part_in_i64 k h) (λ p l. rw (t.in_parts p l, s.first p l, s.change p l)))

    -- with the tests of the accounts, so is the answer
    pub same_answer : group_answer n m g ≡ group_answer k m h
    same_answer = rw (same-range, same-positive)

    -- all but the column of changes
    pub same-report : house_of_group k m h ≡ with_changes (house_of_group k m h).changes (house_of_group n m g)
    unfolding house_of_group
    same-report = but_changes (group_answer n m g) (group_answer k m h) (report n m g) (report k m h) same_answer same-figures

-- ---- accounts that add the same
module _ {n m : ℕ} {g h : Group} (s : AddSame n m g h) where
  same_parts : SameParts m n g n h
  same_parts = record { first = λ p l. cong sums n _ _ (λ a. s.first p a l); change = λ p l. cong sums n _ _ (λ a. s.change p a l) }

  same-account-change : (a : ℕ) → a < n → account_change m g a ≡ account_change m h a
  same-account-change a l = cong sums m _ _ (λ p k. s.change p a k l)

  same_tests : SameTests m n g n h
  same_tests =
      record {
        in_parts = λ p l. cong tests n _ _ (λ a k. ap in_i64 (s.change p a l k));
        in_all = cong tests n _ _ (λ a l. ap in_i64 (same-account-change a l));
      }

  same-figures-and-changes : report n m g ≡ report n m h
  unfolding report
  same-figures-and-changes = sym (same-figures same_parts ∙ ap (λ c. with_changes c (report n m g)) (sym (column_cong most_accounts (pos 0) n _ _ same-account-change)))

  -- then the whole report is the same
  pub same-house : house_of_group n m g ≡ house_of_group n m h
  unfolding house_of_group
  same-house i = answered (same_answer same_parts same_tests i) (same-figures-and-changes i)
