-- The setter of the account, filed where what is given is a mark or a flag.
use mathlib.Core.Path.{◌≡◌}
use borrow.Author.Rules.{rules}
use Rattle.account.specs.Calls.{changed}
use Rattle.account.specs.Settings.{with_recording}
use Rattle.account_bytes.specs.Settings.{flag_of}
use Rattle.c_accounts.specs.Entries.{account_in, settings_in}
use Rattle.c_accounts.proofs.Filing.{set-done}
use Rattle.c_accounts.proofs.change.tc_set_recording.Goals as goal

pub returns : goal.returns
returns c =
    let b = c.args.account.now in
    let e : c.change.ensures.0 ≡ changed (with_recording (flag_of c.args.flag) (settings_in b)) (account_in b) = search rules in
    set-done (with_recording (flag_of c.args.flag) (settings_in b)) b e c.is_flag.ensures c.change.ensures.2
