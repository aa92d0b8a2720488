-- "Saving and loading between calls changes no later answer in demands 2 and 3, that sign apart."
use mathlib.Core.Path.{◌≡◌, refl, sym, ap, ◌∙◌}
use mathlib.Core.List.{List, [], ◌∷◌}
use Rattle.account.specs.declared.account.Account.{Account}
use Rattle.account.specs.declared.change.Changed.{Changed}
use Rattle.portfolio.specs.Rebalance.{Outcome, rebalanced}
use Rattle.portfolio.specs.Close.{position_closed}
use Rattle.portfolio.specs.Returns.{Recorded, recorded}
use Rattle.zero_laws.specs.Zeros.{plain_account, Alike}
use Rattle.zero_laws.specs.Calls.{plain_outcome, plain_recorded}
use Rattle.zero_laws.specs.Told.{SameTold}
use Rattle.zero_laws.specs.History.{Call, set, rebalance, close, return, reply, traded, noted, reply_to, left_by_of, Step, call, reload, replies, left, unsaved}
use Rattle.zero_laws.proofs.Trades.{plain-rebalanced, plain_closed, plain-recorded}
use Rattle.zero_laws.proofs.Changes.{read_back_alike, alike_set}
use Rattle.zero_laws.proofs.Queries.{same-told}

-- ---- one call on accounts that are alike: one reply, and accounts that are alike
module _ (a b : Account) (e : Alike a b) where
  -- of a call that keeps to reading back
  through : {A : Type 0} (plain : A → A) (f : Account → A) → ((a : Account) → f (plain_account a) ≡ plain (f a)) → plain (f a) ≡ plain (f b)
  through plain f h = sym (h a) ∙ ap f e ∙ h b

  pub same-reply : (c : Call) → reply_to c a ≡ reply_to c b
  unfolding reply_to
  same-reply (set x) = ap (λ (r : Changed). reply r.answer [] [] []) (alike_set a b e x)
  same-reply (rebalance ts ws ps vs period kind room) = ap traded (through plain_outcome (λ x. rebalanced x ts ws ps vs period kind room) (λ x. plain-rebalanced x ts ws ps vs period kind room))
  same-reply (close s price period kind room) = ap traded (through plain_outcome (λ x. position_closed x s price period kind room) (λ x. plain_closed x s price period kind room))
  same-reply (return ps vs equities returns) = ap noted (through plain_recorded (λ x. recorded x ps vs equities returns) (λ x. plain-recorded x ps vs equities returns))

  pub left_alike : (c : Call) → Alike (left_by_of c a) (left_by_of c b)
  unfolding left_by_of
  left_alike (set x) = ap (λ (r : Changed). r.account) (alike_set a b e x)
  left_alike (rebalance ts ws ps vs period kind room) = ap (λ (o : Outcome). o.account) (through plain_outcome (λ x. rebalanced x ts ws ps vs period kind room) (λ x. plain-rebalanced x ts ws ps vs period kind room))
  left_alike (close s price period kind room) = ap (λ (o : Outcome). o.account) (through plain_outcome (λ x. position_closed x s price period kind room) (λ x. plain_closed x s price period kind room))
  left_alike (return ps vs equities returns) = ap (λ (r : Recorded). r.account) (through plain_recorded (λ x. recorded x ps vs equities returns) (λ x. plain-recorded x ps vs equities returns))

-- ---- a history, against the same calls never saved
replies_alike : (h : List Step) (a b : Account) → Alike a b → replies h a ≡ replies (unsaved h) b
unfolding replies unsaved
replies_alike [] a b e = refl
replies_alike (call c ∷ h) a b e = λ i. same-reply a b e c i ∷ replies_alike h (left_by_of c a) (left_by_of c b) (left_alike a b e c) i
replies_alike (reload ∷ h) a b e = replies_alike h (plain_account a) b (read_back_alike a ∙ e)

history_alike : (h : List Step) (a b : Account) → Alike a b → Alike (left h a) (left (unsaved h) b)
unfolding left unsaved
history_alike [] a b e = e
history_alike (call c ∷ h) a b e = history_alike h (left_by_of c a) (left_by_of c b) (left_alike a b e c)
history_alike (reload ∷ h) a b e = history_alike h (plain_account a) b (read_back_alike a ∙ e)

module _ (h : List Step) (a : Account) where
  -- every answer, record and lent place
  pub later_answers-same : replies h a ≡ replies (unsaved h) a
  later_answers-same = replies_alike h a a refl

  -- the account at the end, "that sign apart"
  pub left-same : Alike (left h a) (left (unsaved h) a)
  left-same = history_alike h a a refl

  -- and so whatever is then asked of it
  pub later_queries_same : SameTold (left h a) (left (unsaved h) a)
  later_queries_same = same-told (left h a) (left (unsaved h) a) left-same
