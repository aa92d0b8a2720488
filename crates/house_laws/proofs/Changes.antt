-- What the accounts' changes come to.
use Prim.Native.Nat.{ℕ, zero, suc, ◌≤◌}
use mathlib.Core.Path.{◌≡◌, refl, sym, ap, ◌∙◌}
use mathlib.Core.Bool.{Bool, true, false, cond, ◌&&◌}
use mathlib.Core.List.{List, foldl}
use native.Mathlib.Omega.{arith}
use lib.Dec.{ltb}
use lib.IntN.{ℤ, pos, ◌+ℤ◌, +ℤ_idr}
use borrow.Author.Tests.{ltb-true, ltb-false, lt-ltb, leb-true}
use Rattle.answer.specs.Choice.{pick}
use Rattle.answer.specs.Numbers.{is_done, unless}
use Rattle.answer.specs.declared.Answer.{Answer}
use Rattle.answer.specs.declared.Answer.TheVariants.{Done, BadSetting, TooLong, BadGroup}
use Rattle.house.specs.declared.House.{House}
use Rattle.house.specs.Group.{Group, change_of, sum_to, account_change, group_change}
use Rattle.house.specs.Places.{group_in, good_marks}
use Rattle.house.specs.House.{most_accounts, most_parts, within, whole, group_answer, report, refusal, house_of_group, house_of}
use Rattle.answer.proofs.Choice.{both_true}
use Rattle.house_laws.proofs.Folds.{sums, listed, cong, sum-swap}

-- "The report gives each account's change, defined over its own parts alone; these add up exactly to the group's": of every group, whatever else is answered.
pub changes-add_up : (n m : ℕ) (g : Group) → sum_to n (account_change m g) ≡ group_change n m g
changes-add_up n m g = sum-swap n m (λ p a. change_of (g p a))

-- ---- in the report
-- what stands in a column behind its first n places adds nothing
sum_of_column : (room n : ℕ) (f : ℕ → ℤ) → n ≤ room → sum_to room (λ i. cond (ltb i n) (f i) (pos 0)) ≡ sum_to n f
unfolding sum_to
sum_of_column zero n f h =
    let none : 0 ≡ n = omega arith in
    ap (λ k. sum_to k f) none
sum_of_column (suc room) n f h = go (ltb room n) refl (sum_of_column room n f)
  where
    go : (t : Bool) → ltb room n ≡ t → (n ≤ room → sum_to room (λ i. cond (ltb i n) (f i) (pos 0)) ≡ sum_to n f)
        → sum_to room (λ i. cond (ltb i n) (f i) (pos 0)) +ℤ cond t (f room) (pos 0) ≡ sum_to n f
    go true l r =
        let all : suc room ≡ n = omega (arith, ltb-true room n l) in
        ap (λ z. z +ℤ f room) (cong sums room _ f (λ i k. ap (λ t. cond t (f i) (pos 0)) (lt-ltb i n (omega arith)))) ∙ ap (λ k. sum_to k f) all
    go false l r = ap (λ z. z +ℤ pos 0) (r (ltb-false room n l)) ∙ +ℤ_idr (sum_to n f)

abbrev AddsUp : House → Type 0
AddsUp r = foldl ◌+ℤ◌ (pos 0) r.changes ≡ r.change

either : (t : Bool) (r s : House) → AddsUp r → AddsUp s → AddsUp (pick t r s)
either true r s h k = h
either false r s h k = k

refused : (a : Answer) → AddsUp (refusal a)
unfolding refusal
refused a = refl

group : (n m : ℕ) (g : Group) → n ≤ most_accounts → AddsUp (house_of_group n m g)
unfolding house_of_group report
group n m g h = either (is_done (group_answer n m g)) (report n m g) (refusal (group_answer n m g)) adds-up (refused (group_answer n m g))
  where
    adds-up : AddsUp (report n m g)
    adds-up = sym (listed sums most_accounts _) ∙ sum_of_column most_accounts n (account_change m g) h ∙ changes-add_up n m g

-- The changes that are reported add up to the one that is, of every call, refused or not.
pub report_adds_up : (n m : ℕ) (marks : List ℕ) (es : List ℤ) → foldl ◌+ℤ◌ (pos 0) (house_of n m marks es).changes ≡ (house_of n m marks es).change
unfolding house_of
report_adds_up n m marks es = go (within n most_accounts) refl
  where
    later : Answer
    later = unless (within m most_parts && whole n m marks es) TooLong (unless (good_marks marks) BadSetting Done)

    go : (t : Bool) → within n most_accounts ≡ t → AddsUp (pick (is_done (unless t BadGroup later)) (house_of_group n m (group_in n marks es)) (refusal (unless t BadGroup later)))
    go true e = either (is_done later) _ _ (group n m (group_in n marks es) (leb-true n most_accounts (both_true (ltb 0 n) _ e).1)) (refused later)
    go false e = refused BadGroup
