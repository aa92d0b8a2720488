-- Bytes that hold no account are refused as an account that is not sound; what a setter answers is filed as its definition says.
use mathlib.Core.Path.{◌≡◌, refl, ◌∙◌, ap}
use Prim.Native.Nat.{ℕ}
use mathlib.Core.Bool.{Bool, true, false}
use mathlib.Core.List.{List}
use Rattle.answer.specs.declared.Answer.TheVariants.{Done, BadSetting, Unsound}
use Rattle.table.specs.Keyed.{pick, both}
use Rattle.account.specs.declared.settings.Settings.{Settings}
use Rattle.account.specs.declared.change.Changed.{Changed}
use Rattle.account.specs.Settings.{good_settings}
use Rattle.account.specs.Account.{with_settings}
use Rattle.account.specs.Calls.{answered, changed}
use Rattle.account_bytes.proofs.Sound.{sound_in_lem, written-sound}
use Rattle.c_accounts.specs.Entries.{account_in, sound_in, account_bytes_of, AccountTold, account_told, answering}
use Rattle.c_accounts.specs.Setters.{set_in}
use Rattle.c_accounts.specs.Inner.Setters.{setter_told}

-- ---- a setter's answer, filed
set_by_lem : (t k g : Bool) (s : Settings) (b : List ℕ) → sound_in b ≡ t →
    setter_told k (pick t (pick g (answered Done (with_settings s (account_in b))) (answered BadSetting (account_in b))) (answered Unsound (account_in b))) b
    ≡ pick t (pick (both k g) (answering Done (account_bytes_of (with_settings s (account_in b)))) (answering BadSetting b)) (answering Unsound b)
unfolding setter_told account_bytes_of
set_by_lem true true true s b e = ap (account_told 0) (written-sound (with_settings s (account_in b)) b e)
set_by_lem true true false s b e = refl
set_by_lem true false true s b e = refl
set_by_lem true false false s b e = refl
set_by_lem false k g s b e = refl

set-filed : (given : Bool) (s : Settings) (b : List ℕ) → setter_told given (changed s (account_in b)) b ≡ set_in given s b
unfolding changed set_in
set-filed given s b = simp (← sound_in_lem b) (set_by_lem (sound_in b) given (good_settings s) s b refl)

-- the same over what the code of every setter has: what was made of the account, and what was filed
pub set-done : (s : Settings) (b : List ℕ) {k given : Bool} {c : Changed} {t : AccountTold} → c ≡ changed s (account_in b) → k ≡ given → t ≡ setter_told k c b → t ≡ set_in given s b
set-done s b {k} {given} h g w =
    w ∙ ap (λ (x : Changed). setter_told k x b) h ∙ ap (λ (x : Bool). setter_told x (changed s (account_in b)) b) g ∙ set-filed given s b
