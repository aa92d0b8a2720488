-- Calls in a row on one account, with savings and loadings between them. Definitions only.
use Rattle.std.specs.Prelude.{ℕ, Bool, List, [], ◌∷◌, ℤ, Float}
use Rattle.answer.specs.declared.Answer.{Answer}
use Rattle.account.specs.declared.settings.Settings.{Settings}
use Rattle.account.specs.declared.settings.TradeCap.{TradeCap}
use Rattle.account.specs.declared.account.Account.{Account}
use Rattle.account.specs.Settings.{with_step, with_min_order, with_max_order, with_band, with_trade_cap, with_max_notional, with_recording, with_cash_first}
use Rattle.account.specs.Calls.{changed}
use Rattle.fills.specs.declared.record.ExecutionKind.{ExecutionKind}
use Rattle.fills.specs.declared.record.ExecutionRecord.{ExecutionRecord}
use Rattle.portfolio.specs.Rebalance.{Outcome, rebalanced}
use Rattle.portfolio.specs.Close.{position_closed}
use Rattle.portfolio.specs.Returns.{Recorded, recorded}
use Rattle.zero_laws.specs.Zeros.{plain_account}

-- the setters, each with what it sets
pub data Setter : Type 0 where
  step minOrder maxOrder maxNotional : ℤ → Setter
  band : Float → Setter
  trade_cap : TradeCap → Setter
  recording cash_first_of : Bool → Setter

abbrev pub set_by : Setter → Settings → Settings
set_by (step k) s = with_step k s
set_by (minOrder v) s = with_min_order v s
set_by (maxOrder v) s = with_max_order v s
set_by (maxNotional v) s = with_max_notional v s
set_by (band x) s = with_band x s
set_by (trade_cap c) s = with_trade_cap c s
set_by (recording on) s = with_recording on s
set_by (cash_first_of on) s = with_cash_first on s

-- a setter; `rebalance_simple` and `close_position_at`, with the room for records; `record_return`, with both buffers
pub data Call : Type 0 where
  set : Setter → Call
  rebalance : List ℕ → List Float → List ℕ → List ℤ → ℕ → ExecutionKind → ℕ → Call
  close : ℕ → ℤ → ℕ → ExecutionKind → ℕ → Call
  return : List ℕ → List ℤ → List ℤ → List Float → Call

-- what the caller is left with besides the account: the answer, the records made, both buffers
pub record Reply : Type 0 where
  pub answer : Answer
  pub records : List ExecutionRecord
  pub equities : List ℤ
  pub returns : List Float

abbrev pub reply : Answer → List ExecutionRecord → List ℤ → List Float → Reply
reply w rs es xs = record { answer = w; records = rs; equities = es; returns = xs }

abbrev pub traded : Outcome → Reply
traded o = reply o.answer o.records [] []

abbrev pub noted : Recorded → Reply
noted r = reply r.answer [] r.equities r.returns

unfoldable pub reply_to : Call → Account → Reply
reply_to (set x) a = reply (changed (set_by x a.settings) a).answer [] [] []
reply_to (rebalance ts ws ps vs period kind room) a = traded (rebalanced a ts ws ps vs period kind room)
reply_to (close s price period kind room) a = traded (position_closed a s price period kind room)
reply_to (return ps vs equities returns) a = noted (recorded a ps vs equities returns)

unfoldable pub left_by_of : Call → Account → Account
left_by_of (set x) a = (changed (set_by x a.settings) a).account
left_by_of (rebalance ts ws ps vs period kind room) a = (rebalanced a ts ws ps vs period kind room).account
left_by_of (close s price period kind room) a = (position_closed a s price period kind room).account
left_by_of (return ps vs equities returns) a = (recorded a ps vs equities returns).account

-- "Saving and loading between calls"
pub data Step : Type 0 where
  call : Call → Step
  reload : Step

-- the replies of a history, and the account that it leaves
unfoldable pub replies : List Step → Account → List Reply
replies [] a = []
replies (call c ∷ h) a = reply_to c a ∷ replies h (left_by_of c a)
replies (reload ∷ h) a = replies h (plain_account a)

unfoldable pub left : List Step → Account → Account
left [] a = a
left (call c ∷ h) a = left h (left_by_of c a)
left (reload ∷ h) a = left h (plain_account a)

-- the same calls, never saved
unfoldable pub unsaved : List Step → List Step
unsaved [] = []
unsaved (call c ∷ h) = call c ∷ unsaved h
unsaved (reload ∷ h) = unsaved h
