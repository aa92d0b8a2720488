-- The setter of the account, filed where what is given is a mark or a flag.
use mathlib.Core.Path.{◌≡◌}
use borrow.Author.Rules.{rules}
use Rattle.account.specs.Calls.{changed}
use Rattle.account.specs.Settings.{with_trade_cap}
use Rattle.account_bytes.specs.Settings.{cap_of}
use Rattle.c_accounts.specs.Entries.{account_in, settings_in}
use Rattle.c_accounts.proofs.Filing.{set-done}
use Rattle.c_accounts.proofs.change.tc_set_max_trades_per_rebalance.Goals as goal

pub returns : goal.returns
returns c =
    let b = c.args.account.now in
    let e : c.change.ensures.0 ≡ changed (with_trade_cap (cap_of c.args.mark c.args.cap) (settings_in b)) (account_in b) = search rules in
    set-done (with_trade_cap (cap_of c.args.mark c.args.cap) (settings_in b)) b e c.is_cap.ensures c.change.ensures.2
