-- What the answer to a group tells.
use Prim.Native.Nat.{ℕ, ◌<◌}
use mathlib.Core.Path.{◌≡◌, refl, ap, ◌∙◌}
use mathlib.Core.Bool.{Bool, true, false, ◌&&◌}
use mathlib.Core.List.{List}
use lib.IntN.{ℤ}
use Rattle.answer.specs.Choice.{pick}
use Rattle.answer.specs.Numbers.{number_of, is_done, unless}
use Rattle.answer.specs.declared.Answer.TheVariants.{Done, BadSetting, TooLong, BadGroup, NoFirstSum, OutOfRange}
use Rattle.house.specs.Group.{Group, change_of, every, first_sum, account_change, in_i64, part_in_i64, all_in_i64, all_positive}
use Rattle.house.specs.Places.{group_in, good_marks}
use Rattle.house.specs.House.{most_accounts, most_parts, within, whole, group_answer, report, refusal, house_of_group, house_of}
use Rattle.house_laws.specs.Groups.{GroupHolds}
use Rattle.answer.proofs.Choice.{both_true}
use Rattle.house.proofs.Columns.{every_at, every_of}
use Rattle.house_laws.proofs.Folds.{and_both}

both_hold : (a b : Bool) → unless a OutOfRange (unless b NoFirstSum Done) ≡ Done → (a ≡ true) × (b ≡ true)
both_hold true true e = (refl, refl)
both_hold true false e = (refl, cc)
both_hold false b e = (cc, cc)

module _ (n m : ℕ) (g : Group) where
  -- "Refusals: .. 15 a change or a finished sum (not a partial one) leaves i64, 14 a part's first sum is not positive": done tells that neither is so of any
  pub done_tells : group_answer n m g ≡ Done → GroupHolds n m g
  done_tells e =
      let range = (both_hold (all_in_i64 n m g) (all_positive n m g) e).0 in
      let positive = (both_hold (all_in_i64 n m g) (all_positive n m g) e).1 in
      let parts = every_at m (part_in_i64 n g) (both_true _ _ range).0 in
      let rest = (both_true (every m (part_in_i64 n g)) _ range).1 in
      record {
        change_in_part = λ p a k l. every_at n _ (both_true _ _ (parts p k)).0 a l;
        first-sum = λ p k. (both_true _ _ (both_true (every n (λ a. in_i64 (change_of (g p a)))) _ (parts p k)).1).0;
        summed-change = λ p k. (both_true (in_i64 (first_sum n g p)) _ (both_true (every n (λ a. in_i64 (change_of (g p a)))) _ (parts p k)).1).1;
        account-change = every_at n _ (both_true _ _ rest).0;
        group_change_lem = (both_true (every n (λ a. in_i64 (account_change m g a))) _ rest).1;
        positive = every_at m _ positive;
      }

  -- and is told wherever neither is
  pub holds-done : GroupHolds n m g → group_answer n m g ≡ Done
  holds-done h = rw (in-range, positive)
    where
      part : (p : ℕ) → p < m → part_in_i64 n g p ≡ true
      part p k = and_both _ _ (every_of n _ (λ a l. h.change_in_part p a k l)) (and_both _ _ (h.first-sum p k) (h.summed-change p k))

      in-range : all_in_i64 n m g ≡ true
      in-range = and_both _ _ (every_of m (part_in_i64 n g) part) (and_both _ _ (every_of n _ h.account-change) h.group_change_lem)

      positive : all_positive n m g ≡ true
      positive = every_of m _ h.positive

  -- "15 in any part comes before 14 in any part": one part out of range is enough, whatever the others begin with
  pub range_first : (p : ℕ) → p < m → part_in_i64 n g p ≡ false → group_answer n m g ≡ OutOfRange
  range_first p k e = go (all_in_i64 n m g) refl
    where
      go : (t : Bool) → all_in_i64 n m g ≡ t → unless t OutOfRange (unless (all_positive n m g) NoFirstSum Done) ≡ OutOfRange
      go true r = let z = every_at m (part_in_i64 n g) (both_true _ _ r).0 p k in cc
      go false r = refl

  -- so is an account's change or the group's
  pub range_before-all : all_in_i64 n m g ≡ false → group_answer n m g ≡ OutOfRange
  range_before-all e = rw e

  -- ---- the report
  -- it has the group's answer
  pub answer_is : (house_of_group n m g).answer ≡ group_answer n m g
  unfolding house_of_group report refusal
  answer_is = go (all_in_i64 n m g) (all_positive n m g)
    where
      go : (s t : Bool) → (pick (is_done (unless s OutOfRange (unless t NoFirstSum Done))) (report n m g) (refusal (unless s OutOfRange (unless t NoFirstSum Done)))).answer ≡ unless s OutOfRange (unless t NoFirstSum Done)
      go true true = refl
      go true false = refl
      go false t = refl

  -- and is the report where that is done
  pub done-report : group_answer n m g ≡ Done → house_of_group n m g ≡ report n m g
  unfolding house_of_group
  done-report e = rw e

-- "13 group empty or over 32, 6 parts outside 1 to 64, 15 .., 14 ..; in that order", with 6 for lists of another length and 1 for a mark above 1 between them
pub numbered : (n m : ℕ) (marks : List ℕ) (es : List ℤ)
    → number_of (house_of n m marks es).answer
    ≡ pick (within n most_accounts)
    (pick (within m most_parts && whole n m marks es)
    (pick (good_marks marks) (pick (all_in_i64 n m (group_in n marks es)) (pick (all_positive n m (group_in n marks es)) 0 14) 15) 1)
    6)
    13
unfolding house_of refusal
numbered n m marks es = go (within n most_accounts) (within m most_parts && whole n m marks es) (good_marks marks)
  where
    g : Group
    g = group_in n marks es

    late : (s t : Bool) → number_of (unless s OutOfRange (unless t NoFirstSum Done)) ≡ pick s (pick t 0 14) 15
    late true true = refl
    late true false = refl
    late false t = refl

    go : (a b c : Bool) → number_of (pick (is_done (unless a BadGroup (unless b TooLong (unless c BadSetting Done)))) (house_of_group n m g) (refusal (unless a BadGroup (unless b TooLong (unless c BadSetting Done))))).answer
        ≡ pick a (pick b (pick c (pick (all_in_i64 n m g) (pick (all_positive n m g) 0 14) 15) 1) 6) 13
    go true true true = ap number_of (answer_is n m g) ∙ late (all_in_i64 n m g) (all_positive n m g)
    go true true false = refl
    go true false c = refl
    go false b c = refl
