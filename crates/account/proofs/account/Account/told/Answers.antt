-- By whether the account is sound.
use Rattle.account.specs.Account.{sound_account}
use Rattle.account.proofs.Checks.{told_done, told_refused}
use Rattle.account.proofs.account.Account.told.Goals as goal

pub returns-in-Ok : goal.returns-in-Ok
returns-in-Ok g c = told_done (sound_account c.args.self) c.args.zero c.args.value c.in-Ok.ensures

pub returns-in-Err : goal.returns-in-Err
returns-in-Err g c = told_refused (sound_account c.args.self) c.args.zero c.args.value c.in-Err.ensures
