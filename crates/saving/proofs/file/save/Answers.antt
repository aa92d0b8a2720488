-- The length of what was written, or its refusal with 0.
use Rattle.saving.proofs.Files as F
use Rattle.saving.proofs.file.save.Goals as goal

pub returns-in-Ok : goal.returns-in-Ok
returns-in-Ok c = (F.length_told _ _ _ c.in-Ok.ensures.told, c.in-Ok.ensures.left)

pub returns-in-Err : goal.returns-in-Err
returns-in-Err c = (F.refusal_told _ _ _ c.in-Err.ensures.told, c.in-Err.ensures.left)
