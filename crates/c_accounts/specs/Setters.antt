-- What the setters answer and write.
use Rattle.std.specs.Prelude.{ℕ, Bool, List}
use Rattle.answer.specs.declared.Answer.TheVariants.{Done, BadSetting, Unsound}
use Rattle.table.specs.Keyed.{pick, both}
use Rattle.account.specs.declared.settings.Settings.{Settings}
use Rattle.account.specs.Settings.{good_settings}
use Rattle.account.specs.Account.{with_settings}
use Rattle.c_accounts.specs.Entries.{account_in, sound_in, account_bytes_of, AccountTold, answering}

-- The account of the bytes under other settings: 11; then 1 where what is given is no mark or flag or the settings are bad; then the account's bytes.
-- "Each refusal returns its number with .. every lent place as found."
unfoldable pub set_in : Bool → Settings → List ℕ → AccountTold
set_in given s b =
    pick (sound_in b)
    (pick (both given (good_settings s))
    (answering Done (account_bytes_of (with_settings s (account_in b))))
    (answering BadSetting b))
    (answering Unsound b)
