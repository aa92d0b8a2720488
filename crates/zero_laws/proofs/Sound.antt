-- Which accounts are sound, and which calls are refused: a zero's sign has no part in either.
use Prim.Native.Nat.{ℕ}
use mathlib.Core.Path.{◌≡◌}
use mathlib.Core.List.{List}
use lib.IntN.{ℤ}
use lib.Ieee.{Float}
use Rattle.account.specs.declared.settings.Settings.{Settings}
use Rattle.account.specs.declared.account.Account.{Account}
use Rattle.account.specs.Settings.{good_rules, good_settings}
use Rattle.account.specs.Account.{sound_scalars, sound_account}
use Rattle.portfolio.specs.Answers.{has_room_of, rebalance_answer, close_answer, query_answer, return_answer}
use Rattle.zero_laws.specs.Zeros.{plain_settings, plain_account}
use Rattle.zero_laws.proofs.Rates.{plain_rate_lem}
use Rattle.zero_laws.proofs.Costs.{plain-good}

pub plain-good-settings : (s : Settings) → good_settings (plain_settings s) ≡ good_settings s
unfolding good_settings good_rules
plain-good-settings s = rw (plain-good s.rules.cost_model, plain_rate_lem s.no_trade_band_bps)

module _ (a : Account) where
  pub plain-sound : sound_account (plain_account a) ≡ sound_account a
  unfolding sound_account sound_scalars
  plain-sound = rw (plain-good-settings a.settings)

  pub plain-rebalance-answer : (ts : List ℕ) (ws : List Float) (ps : List ℕ) (vs : List ℤ) (room : ℕ) → rebalance_answer (plain_account a) ts ws ps vs room ≡ rebalance_answer a ts ws ps vs room
  unfolding rebalance_answer has_room_of
  plain-rebalance-answer ts ws ps vs room = rw plain-sound

  pub plain-close-answer : (s : ℕ) (price : ℤ) (room : ℕ) → close_answer (plain_account a) s price room ≡ close_answer a s price room
  unfolding close_answer has_room_of
  plain-close-answer s price room = rw plain-sound

  pub plain_query_answer : (ps : List ℕ) (vs : List ℤ) → query_answer (plain_account a) ps vs ≡ query_answer a ps vs
  unfolding query_answer
  plain_query_answer ps vs = rw plain-sound

  pub plain-return-answer : (ps : List ℕ) (vs : List ℤ) (equities returns : ℕ) → return_answer (plain_account a) ps vs equities returns ≡ return_answer a ps vs equities returns
  unfolding return_answer
  plain-return-answer ps vs equities returns = rw plain-sound
