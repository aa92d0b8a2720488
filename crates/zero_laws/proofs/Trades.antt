-- The calls that change an account, on one that is read back: each answers, records and leaves what it does on the account that was saved, and its account is that one's read back.
use Prim.Native.Nat.{ℕ}
use mathlib.Core.Path.{◌≡◌, refl, ap, ◌∙◌}
use mathlib.Core.List.{List, map}
use lib.IntN.{ℤ}
use lib.Ieee.{Float}
use lib.ListN.{length}
use Rattle.call_lists.specs.Lists.{price_of}
use Rattle.account.specs.declared.account.Account.{Account}
use Rattle.fills.specs.declared.record.ExecutionKind.{ExecutionKind}
use Rattle.fills.specs.declared.record.ExecutionRecord.{ExecutionRecord}
use Rattle.fills.specs.Fill.{fill_all}
use Rattle.wanted.specs.declared.planned.PlannedOrder.{PlannedOrder}
use Rattle.admission.specs.Running.{in_running_order}
use Rattle.portfolio.specs.Answers.{is_done}
use Rattle.portfolio.specs.Rebalance.{terms_of, state_of, account_after, order_of, admitted_plan, after_plan, refused, after_rebalance, rebalanced}
use Rattle.portfolio.specs.Close.{close_order, after_close, position_closed}
use Rattle.portfolio.specs.Returns.{recorded}
use Rattle.portfolio.specs.Trades.{filed}
use Rattle.records.specs.Into.{handed}
use Rattle.zero_laws.specs.Zeros.{plain_account}
use Rattle.zero_laws.specs.Calls.{plain_outcome, plain_filed, plain_handed, plain_recorded}
use Rattle.zero_laws.proofs.Choices.{picked}
use Rattle.zero_laws.proofs.Wants.{plain_plan, plain_running}
use Rattle.zero_laws.proofs.Fills.{plain-fill, plain-fills}
use Rattle.zero_laws.proofs.Sound.{plain-rebalance-answer, plain-close-answer, plain-return-answer}

module _ (a : Account) where
  -- ---- `rebalance_simple`
  pub plain-admitted : (ts : List ℕ) (ws : List Float) (price : ℕ → ℤ) → admitted_plan (plain_account a) ts ws price ≡ admitted_plan a ts ws price
  unfolding admitted_plan
  plain-admitted ts ws price = simp (plain_plan a.settings)

  plain-after : (plan : List PlannedOrder) (period : ℕ) (kind : ExecutionKind) → after_plan (plain_account a) plan period kind ≡ after_plan a plan period kind
  unfolding after_plan
  plain-after plan period kind =
      ap (λ os. fill_all (terms_of (plain_account a) period kind) (map order_of os) (state_of a)) (plain_running a.settings plan)
      ∙ plain-fills (terms_of a period kind) (map order_of (in_running_order a.settings plan)) (state_of a)

  plain-after-rebalance : (plan : List PlannedOrder) (period : ℕ) (kind : ExecutionKind) → after_rebalance (plain_account a) plan period kind ≡ plain_outcome (after_rebalance a plan period kind)
  unfolding after_rebalance account_after
  plain-after-rebalance plan period kind = simp plain-after

  pub plain-rebalanced : (ts : List ℕ) (ws : List Float) (ps : List ℕ) (vs : List ℤ) (period : ℕ) (kind : ExecutionKind) (room : ℕ)
      → rebalanced (plain_account a) ts ws ps vs period kind room ≡ plain_outcome (rebalanced a ts ws ps vs period kind room)
  unfolding rebalanced
  plain-rebalanced ts ws ps vs period kind room =
      let answer = plain-rebalance-answer a ts ws ps vs room in
      let plan = admitted_plan a ts ws (price_of ps vs) in
      picked plain_outcome (ap is_done answer)
      (ap (λ os. after_rebalance (plain_account a) os period kind) (plain-admitted ts ws (price_of ps vs)) ∙ plain-after-rebalance plan period kind)
      (ap (λ w. refused w (plain_account a)) answer)

  -- ---- `close_position_at`
  plain-after-close : (s : ℕ) (price : ℤ) (period : ℕ) (kind : ExecutionKind) → after_close (plain_account a) s price period kind ≡ after_close a s price period kind
  unfolding after_close
  plain-after-close s price period kind = plain-fill (terms_of a period kind) (close_order a s price) (state_of a)

  pub plain_closed : (s : ℕ) (price : ℤ) (period : ℕ) (kind : ExecutionKind) (room : ℕ)
      → position_closed (plain_account a) s price period kind room ≡ plain_outcome (position_closed a s price period kind room)
  unfolding position_closed account_after
  plain_closed s price period kind room =
      let answer = plain-close-answer a s price room in
      picked plain_outcome (ap is_done answer) (simp plain-after-close) (ap (λ w. refused w (plain_account a)) answer)

  -- ---- `record_return`
  pub plain-recorded : (ps : List ℕ) (vs : List ℤ) (equities : List ℤ) (returns : List Float)
      → recorded (plain_account a) ps vs equities returns ≡ plain_recorded (recorded a ps vs equities returns)
  unfolding recorded
  plain-recorded ps vs equities returns =
      let answer = plain-return-answer a ps vs (length equities) (length returns) in
      picked plain_recorded (ap is_done answer) refl
      (ap (λ w. record { answer = w; account = plain_account a; equities = equities; returns = returns }) answer)

  -- ---- the same with records in lent slices: both slices, and a run, are left as the saved account's call leaves them
  pub plain-rebalance-filed : (ts : List ℕ) (ws : List Float) (ps : List ℕ) (vs : List ℤ) (period : ℕ) (kind : ExecutionKind) (room : ℕ) (words : List ℕ) (ints : List ℤ)
      → filed (rebalanced (plain_account a) ts ws ps vs period kind room) words ints ≡ plain_filed (filed (rebalanced a ts ws ps vs period kind room) words ints)
  plain-rebalance-filed ts ws ps vs period kind room words ints = ap (λ o. filed o words ints) (plain-rebalanced ts ws ps vs period kind room)

  pub plain-close-filed : (s : ℕ) (price : ℤ) (period : ℕ) (kind : ExecutionKind) (room : ℕ) (words : List ℕ) (ints : List ℤ)
      → filed (position_closed (plain_account a) s price period kind room) words ints ≡ plain_filed (filed (position_closed a s price period kind room) words ints)
  plain-close-filed s price period kind room words ints = ap (λ o. filed o words ints) (plain_closed s price period kind room)

  pub plain-rebalance-handed : (ts : List ℕ) (ws : List Float) (ps : List ℕ) (vs : List ℤ) (period : ℕ) (kind : ExecutionKind) (run : List ExecutionRecord)
      → handed (rebalanced (plain_account a) ts ws ps vs period kind (length run)) run ≡ plain_handed (handed (rebalanced a ts ws ps vs period kind (length run)) run)
  plain-rebalance-handed ts ws ps vs period kind run = ap (λ o. handed o run) (plain-rebalanced ts ws ps vs period kind (length run))

  pub plain-close-handed : (s : ℕ) (price : ℤ) (period : ℕ) (kind : ExecutionKind) (run : List ExecutionRecord)
      → handed (position_closed (plain_account a) s price period kind (length run)) run ≡ plain_handed (handed (position_closed a s price period kind (length run)) run)
  plain-close-handed s price period kind run = ap (λ o. handed o run) (plain_closed s price period kind (length run))
