-- Records that fill the first places of a run, one after another.
use Prim.Native.Nat.{ℕ, zero, suc, ◌+◌, ◌<◌}
use mathlib.Core.Path.{◌≡◌, refl, sym, ap, ◌∙◌}
use mathlib.Core.List.{List, [], ◌∷◌, ◌++◌}
use native.Mathlib.Numerals.{add-one}
use native.Mathlib.Omega.{arith}
use lib.IntN.{ℤ}
use lib.ListN.{length, set, length-append}
use Rattle.fills.specs.declared.record.ExecutionRecord.{ExecutionRecord}
use Rattle.fills.specs.Records.{fronted}
use Rattle.records.specs.Read.{record_at}
use Rattle.records.specs.Run.{records_at}

module _ {A : Type 0} where
  front_next : (xs ys : List A) (r : A) → length xs < length ys → set (fronted xs ys) (length xs) r ≡ fronted (xs ++ (r ∷ [])) ys
  front_next [] [] r h = absurd (omega arith)
  front_next (x ∷ xs) [] r h = absurd (omega arith)
  front_next [] (y ∷ ys) r h = refl
  front_next (x ∷ xs) (y ∷ ys) r h = ap (λ l. x ∷ l) (front_next xs ys r (omega arith))

  one_longer : (xs : List A) (r : A) → length (xs ++ (r ∷ [])) ≡ suc (length xs)
  one_longer xs r = omega (arith, length-append xs (r ∷ []))

module _ (ws : List ℕ) (is : List ℤ) where
  records-long : (n : ℕ) → length (records_at ws is n) ≡ n
  unfolding records_at
  records-long zero = refl
  records-long (suc n) = one_longer (records_at ws is n) _ ∙ ap suc (records-long n)

  -- the record of place n goes to place n
  pub run-next : (n : ℕ) (ys : List ExecutionRecord) → n < length ys → set (fronted (records_at ws is n) ys) n (record_at ws is n) ≡ fronted (records_at ws is (n + 1)) ys
  unfolding records_at
  run-next n ys h =
      let e = records-long n in
      ap (λ k. set (fronted (records_at ws is n) ys) k (record_at ws is n)) (sym e)
      ∙ front_next (records_at ws is n) ys (record_at ws is n) (omega (arith, e))
      ∙ ap (λ k. fronted (records_at ws is k) ys) (sym (add-one n))
