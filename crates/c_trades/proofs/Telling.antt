-- What the answers of the calls come to: a refusal leaves every lent byte as found, and after a call that was done the bytes are those of the account.
use Prim.Native.Nat.{ℕ, ◌*◌}
use mathlib.Core.Path.{◌≡◌}
use mathlib.Core.Bool.{true, false}
use mathlib.Core.List.{List, ◌++◌}
use lib.ListN.{length, drop}
use Rattle.answer.specs.Places.{word_of}
use Rattle.word_bytes.specs.Words.{bytes_of}
use Rattle.account_bytes.specs.Account.{account_words_of}
use Rattle.account_bytes.proofs.Sound.{written-sound}
use Rattle.list_bytes.specs.Records.{all_bytes}
use Rattle.portfolio.specs.Answers.{is_done}
use Rattle.portfolio.specs.Rebalance.{Outcome}
use Rattle.c_trades.specs.Asked.{sound_in}
use Rattle.c_trades.specs.Told.{tell_trade, trade_told}

-- ---- a call that trades
module _ (o : Outcome) (b rs : List ℕ) where
  pub refused_as_found : is_done o.answer ≡ false → trade_told o b rs ≡ tell_trade (word_of o.answer) b rs
  unfolding trade_told
  refused_as_found e = simp e

  pub done-written : is_done o.answer ≡ true → sound_in b ≡ true
      → trade_told o b rs ≡ tell_trade (256 * length o.records) (bytes_of (account_words_of o.account)) (all_bytes o.records ++ drop (96 * length o.records) rs)
  unfolding trade_told
  done-written e h = simp (e, written-sound o.account b h)
