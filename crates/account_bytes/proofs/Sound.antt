-- Bytes that hold a sound account: all zeros, which stand for bytes that hold none, are not sound.
use mathlib.Core.Path.{◌≡◌, refl, sym}
use mathlib.Core.Bool.{Bool, true, false}
use Prim.Native.Nat.{ℕ}
use mathlib.Core.List.{List}
use lib.Dec.{eqb}
use lib.ListN.{length}
use borrow.Author.Tests.{eq-eqb}
use Rattle.table.specs.Keyed.{pick, both}
use Rattle.table.proofs.Keyed.{both_true}
use Rattle.account.specs.declared.account.Account.{Account}
use Rattle.account.specs.Account.{sound_account}
use Rattle.account.specs.Calls.{zero_account}
use Rattle.account.proofs.SoundAccounts.{zero_unsound}
use Rattle.word_bytes.specs.Words.{words_of, bytes_of}
use Rattle.account_bytes.specs.Sizes.{account_length}
use Rattle.account_bytes.specs.Account.{account_words_of, account_of, hold_account, account_in, sound_in, written_account}
use Rattle.account_bytes.proofs.AccountKept.{good-long}

good_or_zero : (t : Bool) (a : Account) → let r = pick t a zero_account in both t (sound_account r) ≡ sound_account r
good_or_zero true a = refl
good_or_zero false a = sym zero_unsound

pub sound_in_lem : (l : List ℕ) → sound_in l ≡ sound_account (account_in l)
unfolding sound_in account_in
sound_in_lem l = good_or_zero (hold_account l) (account_of (words_of l))

-- the bytes of a sound account are as many as are written
pub sound-length : (l : List ℕ) → sound_in l ≡ true → eqb (length l) account_length ≡ true
unfolding sound_in
sound-length l e = eq-eqb (length l) account_length (good-long l (both_true (hold_account l) (sound_account (account_in l)) e).0)

pub written-sound : (a : Account) (l : List ℕ) → sound_in l ≡ true → written_account a l ≡ bytes_of (account_words_of a)
unfolding written_account
written-sound a l e = simp (sound-length l e)
