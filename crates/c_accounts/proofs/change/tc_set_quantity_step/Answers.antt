-- The setter of the account, filed.
use mathlib.Core.Path.{◌≡◌, refl}
use borrow.Author.Rules.{rules}
use Rattle.account.specs.Calls.{changed}
use Rattle.account.specs.Settings.{with_step}
use Rattle.c_accounts.specs.Entries.{account_in, settings_in}
use Rattle.c_accounts.proofs.Filing.{set-done}
use Rattle.c_accounts.proofs.change.tc_set_quantity_step.Goals as goal

pub returns : goal.returns
returns c =
    let b = c.args.account.now in
    let e : c.change.ensures.0 ≡ changed (with_step c.args.micro_shares (settings_in b)) (account_in b) = search rules in
    set-done (with_step c.args.micro_shares (settings_in b)) b e refl c.change.ensures.2
