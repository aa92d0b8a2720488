-- The report where nothing refuses it before any sum, else that refusal.
use Rattle.std.proofs.Common.{◌∙◌}
use Rattle.house.proofs.Reporting.{early_passed, early_refused}
use Rattle.house.proofs.house_return.Goals as goal

pub returns-in-Ok : goal.returns-in-Ok
returns-in-Ok c = c.report_of.ensures ∙ early_passed _ _ _ _ c.in-Ok.ensures

pub returns-in-Err : goal.returns-in-Err
returns-in-Err c = c.refused.ensures ∙ early_refused _ _ _ _ _ c.in-Err.ensures
