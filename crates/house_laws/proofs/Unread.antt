-- The report is the same whatever stands behind marks of absence.
use Prim.Native.Nat.{ℕ, ◌+◌, ◌*◌}
use mathlib.Core.Path.{◌≡◌, refl}
use mathlib.Core.Bool.{Bool, true, false, cond}
use mathlib.Core.List.{List}
use lib.Dec.{eqb}
use lib.IntN.{ℤ, pos, ◌-ℤ◌}
use lib.ListN.{length, get_or}
use borrow.Author.Tests.{eqb-true}
use Rattle.answer.specs.Choice.{pick}
use Rattle.answer.specs.Numbers.{is_done}
use Rattle.house.specs.Group.{given, absent, of_both}
use Rattle.house.specs.Places.{ends_of, group_in}
use Rattle.house.specs.House.{early_answer, refusal, house_of}
use Rattle.house_laws.specs.Groups.{AddSame, AgreeIfBoth}
use Rattle.house_laws.proofs.Reports.{same-house}

-- what an account adds to either sum
added : (of : ℤ → ℤ → ℤ) (a b : ℕ) (f l f' l' : ℤ) → (a ≡ 1 → b ≡ 1 → f ≡ f') → (a ≡ 1 → b ≡ 1 → l ≡ l')
    → of_both of (ends_of a b f l).first (ends_of a b f l).last ≡ of_both of (ends_of a b f' l').first (ends_of a b f' l').last
added of a b f l f' l' e d = go (eqb a 1) (eqb b 1) refl refl
  where
    go : (s t : Bool) → eqb a 1 ≡ s → eqb b 1 ≡ t → of_both of (cond s (given f) absent) (cond t (given l) absent) ≡ of_both of (cond s (given f') absent) (cond t (given l') absent)
    go true true p q = rw (e (eqb-true a 1 p) (eqb-true b 1 q), d (eqb-true a 1 p) (eqb-true b 1 q))
    go true false p q = refl
    go false t p q = refl

module _ (n m : ℕ) (marks : List ℕ) (es fs : List ℤ) where
  -- "An account missing at either end is left out of that part": where it is missing at one end, the number at its other end is not read either.
  pub unread : AgreeIfBoth marks es fs → house_of n m marks es ≡ house_of n m marks fs
  unfolding house_of
  unread s i = pick (is_done (early i)) (same-house same i) (refusal (early i))
    where
      early : early_answer n m marks es ≡ early_answer n m marks fs
      early = rw s.as_long

      same : AddSame n m (group_in n marks es) (group_in n marks fs)
      same =
          record {
            first = λ p a h l. added (λ f l. f) _ _ _ _ _ _ (s.at_first (p * n + a)) (s.at_last (p * n + a));
            change = λ p a h l. added (λ f l. l -ℤ f) _ _ _ _ _ _ (s.at_first (p * n + a)) (s.at_last (p * n + a));
          }

  -- "numbers behind a mark of absence are not read": equities that agree wherever their own mark is 1 have one report.
  pub unread_behind_marks : length es ≡ length fs → ((k : ℕ) → get_or marks k 0 ≡ 1 → get_or es k (pos 0) ≡ get_or fs k (pos 0)) → house_of n m marks es ≡ house_of n m marks fs
  unread_behind_marks l e = unread (record { as_long = l; at_first = λ k a b. e (2 * k) a; at_last = λ k a b. e (2 * k + 1) b })
