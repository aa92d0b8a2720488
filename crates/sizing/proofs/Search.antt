-- The largest that passes: it is at most the end, it passes or is 0, and none above it passes. Where a test never passes again once it has failed, a failure moves the end down.
use Rattle.std.proofs.Common.{◌≡◌, ℕ, zero, suc, ◌-◌, ◌<◌, ◌≤◌, Bool, true, false, ◌⊎◌, sym, refl, ap, ◌∙◌, inl, inr, ⊎_elim, eq-or-lt_of_le, arith}
use Rattle.sizing.specs.Afford.{largest}

-- never passes again once it has failed
abbrev pub Falls : (ℕ → Bool) → Type 0
Falls fits = (k m : ℕ) → k ≤ m → fits m ≡ true → fits k ≡ true

true_or_false : (t : Bool) → (t ≡ true) ⊎ (t ≡ false)
true_or_false true = inl refl
true_or_false false = inr refl

both : {t : Bool} → t ≡ true → t ≡ false → ⊥
both p q = let z : ◌≡◌ {A = ℕ} 0 1 = cc in omega arith

module _ (fits : ℕ → Bool) where
  pub largest_passing : (n : ℕ) → fits n ≡ true → largest fits n ≡ n
  unfolding largest
  largest_passing zero h = refl
  largest_passing (suc n) h = rw h

  pub largest_failing : (n : ℕ) → fits (suc n) ≡ false → largest fits (suc n) ≡ largest fits n
  unfolding largest
  largest_failing n h = rw h

  pub largest-none : largest fits 0 ≡ 0
  unfolding largest
  largest-none = refl

  pub largest_up_to : (n : ℕ) → largest fits n ≤ n
  largest_up_to zero = omega (arith, largest-none)
  largest_up_to (suc n) =
      let h = largest_up_to n in
      ⊎_elim (λ e. omega (arith, largest_passing (suc n) e)) (λ e. omega (arith, largest_failing n e)) (true_or_false (fits (suc n)))

  pub largest_passes : (n : ℕ) → (largest fits n ≡ 0) ⊎ (fits (largest fits n) ≡ true)
  largest_passes zero = inl largest-none
  largest_passes (suc n) =
      ⊎_elim
      (λ e. inr (ap fits (largest_passing (suc n) e) ∙ e))
      (λ e. rw (largest_failing n e) (largest_passes n))
      (true_or_false (fits (suc n)))

  pub none_larger_passes : (n k : ℕ) → k ≤ n → fits k ≡ true → k ≤ largest fits n
  none_larger_passes zero k h p = omega arith
  none_larger_passes (suc n) k h p =
      ⊎_elim
      (λ e. omega (arith, largest_passing (suc n) e))
      (λ e.
      let other : k ≡ suc n → ⊥ = λ q. both (ap fits (sym q) ∙ p) e in
      let l = none_larger_passes n k (omega (arith, other)) p in
      omega (arith, largest_failing n e))
      (true_or_false (fits (suc n)))

  pub largest_below_failing : Falls fits → (n k : ℕ) → suc k ≤ n → fits (suc k) ≡ false → largest fits n ≡ largest fits k
  largest_below_failing falls zero k h p = absurd (omega arith)
  largest_below_failing falls (suc n) k h p =
      ⊎_elim
      (λ e. absurd (both (falls (suc k) (suc n) h e) p))
      (λ e.
      largest_failing n e
      ∙ ⊎_elim
      (λ q. ap (largest fits) (omega arith))
      (λ l. largest_below_failing falls n k (omega arith) p)
      (eq-or-lt_of_le h))
      (true_or_false (fits (suc n)))

  pub end_moves : Falls fits → (n m : ℕ) → 0 < m → m ≤ n → fits m ≡ false → largest fits (m - 1) ≡ largest fits n
  end_moves falls n zero some h p = absurd (omega arith)
  end_moves falls n (suc k) some h p =
      let e : suc k - 1 ≡ k = omega arith in
      ap (largest fits) e ∙ sym (largest_below_failing falls n k h p)

  pub largest_at : (n : ℕ) → (n ≡ 0) ⊎ (fits n ≡ true) → largest fits n ≡ n
  largest_at n = ⊎_elim (λ e. rw e largest-none) (largest_passing n)
