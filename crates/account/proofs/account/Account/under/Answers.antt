-- By what the check answers.
use mir.Syntax.{w64}
use mir.Val.{SFits}
use mir.Facts.{to_z-of_z}
use borrow.Author.Rules.{rules}
use Rattle.account.proofs.Checks.{changed_done, changed_refused}
use Rattle.account.proofs.account.Account.under.Goals as goal

pub returns-in-Ok : goal.returns-in-Ok
returns-in-Ok c =
    let f : SFits w64 c.args.self.cash = search rules in
    simp (to_z-of_z f) (changed_done c.args.settings c.args.self c.in-Ok.ensures)

pub returns-in-Err : goal.returns-in-Err
returns-in-Err c = changed_refused c.args.settings c.args.self c.in-Err.ensures
