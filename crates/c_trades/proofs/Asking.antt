-- The code's order of tests and document 01's answer the same, since a call tells an unsound account itself.
use Prim.Native.Nat.{ℕ}
use mathlib.Core.Path.{◌≡◌, refl, sym}
use mathlib.Core.Bool.{Bool, true, false}
use mathlib.Core.List.{List}
use native.Mathlib.Omega.{arith}
use lib.IntN.{ℤ}
use lib.Ieee.{Float}
use Rattle.answer.specs.declared.Answer.{Answer}
use Rattle.answer.specs.declared.Answer.TheVariants.{Done, BadSetting, TooLong, Unsound}
use Rattle.table.specs.Keyed.{pick, both}
use Rattle.call_lists.specs.Checks.{unless}
use Rattle.fills.specs.declared.record.ExecutionKind.{ExecutionKind}
use Rattle.fills.specs.Records.{good_kind}
use Rattle.account.specs.declared.account.Account.{Account}
use Rattle.account.specs.Account.{sound_account}
use Rattle.account_bytes.specs.Account.{hold_account}
use Rattle.portfolio.specs.Answers.{is_done, close_answer, rebalance_answer, return_answer}
use Rattle.portfolio.specs.Rebalance.{refused, rebalanced}
use Rattle.portfolio.specs.Close.{position_closed}
use Rattle.portfolio.specs.Returns.{recorded}
use Rattle.c_trades.specs.Asked.{account_in, sound_in, asked}
use Rattle.c_trades.specs.Inner.Asked.{early, early_on}

module _ {X : Type 0} (refuse : Answer → X) (call : X) where
  by_tests : (g s k w : Bool) → (s ≡ false → call ≡ refuse Unsound)
      → let first = unless g Unsound (pick (both k w) Done (unless s Unsound (unless k BadSetting TooLong))) in
      pick (both g s) (pick k (pick w call (refuse TooLong)) (refuse BadSetting)) (refuse Unsound) ≡ pick (is_done first) call (refuse first)
  by_tests false s k w h = refl
  by_tests true true true true h = refl
  by_tests true true true false h = refl
  by_tests true true false w h = refl
  by_tests true false true true h = sym (h refl)
  by_tests true false true false h = refl
  by_tests true false false w h = refl

  pub asked-early : (b : List ℕ) (kind : ℕ) (w : Bool) → (sound_account (account_in b) ≡ false → call ≡ refuse Unsound)
      → asked refuse b kind w call ≡ pick (is_done (early b kind w)) call (refuse (early b kind w))
  unfolding asked early sound_in
  asked-early b kind w h = by_tests (hold_account b) (sound_account (account_in b)) (good_kind kind) w h

-- by whether the bytes hold an account
module _ (b : List ℕ) (kind : ℕ) (w : Bool) where
  pub early-bad : hold_account b ≡ false → early b kind w ≡ Unsound
  unfolding early
  early-bad e = simp e

  pub early-good : hold_account b ≡ true → early b kind w ≡ early_on (account_in b) kind w
  unfolding early
  early-good e = simp e

-- a call that is made was given whole lists
whole_by : (s k w : Bool) → is_done (pick (both k w) Done (unless s Unsound (unless k BadSetting TooLong))) ≡ true → w ≡ true
whole_by s true true e = refl
whole_by true true false e = let z : ◌≡◌ {A = ℕ} 0 1 = cc in absurd (omega arith)
whole_by false true false e = let z : ◌≡◌ {A = ℕ} 0 1 = cc in absurd (omega arith)
whole_by true false w e = let z : ◌≡◌ {A = ℕ} 0 1 = cc in absurd (omega arith)
whole_by false false w e = let z : ◌≡◌ {A = ℕ} 0 1 = cc in absurd (omega arith)

pub early-whole : (a : Account) (kind : ℕ) (w : Bool) → is_done (early_on a kind w) ≡ true → w ≡ true
early-whole a kind w e = whole_by (sound_account a) (good_kind kind) w e

-- ---- a close
module _ (a : Account) (s : ℕ) (price : ℤ) (period : ℕ) (kind : ExecutionKind) where
  pub close_unsound : (q : ℕ) → sound_account a ≡ false → position_closed a s price period kind q ≡ refused Unsound a
  unfolding position_closed close_answer
  close_unsound q e = simp e

-- ---- a rebalance
module _ (a : Account) (ts : List ℕ) (ws : List Float) (ps : List ℕ) (vs : List ℤ) (period : ℕ) (kind : ExecutionKind) where
  pub rebalance_unsound : (q : ℕ) → sound_account a ≡ false → rebalanced a ts ws ps vs period kind q ≡ refused Unsound a
  unfolding rebalanced rebalance_answer
  rebalance_unsound q e = simp e

-- ---- a return
pub return_unsound : (a : Account) (ps : List ℕ) (vs es : List ℤ) (rs : List Float) → sound_account a ≡ false → recorded a ps vs es rs ≡ record { answer = Unsound; account = a; equities = es; returns = rs }
unfolding recorded return_answer
return_unsound a ps vs es rs e = simp e
