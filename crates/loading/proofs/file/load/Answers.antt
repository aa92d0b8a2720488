-- The account that was read, or its refusal with all zeros.
use Rattle.loading.proofs.Loading as L
use Rattle.loading.proofs.file.load.Goals as goal

pub returns-in-Ok : goal.returns-in-Ok
returns-in-Ok c = L.good _ _ c.in-Ok.ensures

pub returns-in-Err : goal.returns-in-Err
returns-in-Err c = rw c.zero.ensures (L.bad _ _ c.in-Err.ensures)
