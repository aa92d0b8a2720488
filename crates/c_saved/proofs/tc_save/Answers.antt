-- What saving answers of the account that the bytes hold. A file is short enough for its length to stand above the answer's byte.
use mathlib.Core.Path.{sym, ◌∙◌}
use native.Mathlib.Omega.{arith}
use Rattle.c_saved.proofs.Filing as F
use Rattle.c_saved.proofs.tc_save.Goals as goal

pub returns-then-not-is_done : goal.returns-then-not-is_done
returns-then-not-is_done c =
    F.save_refused _ _ c.account_in-a.ensures _ _ _ c.save-s.ensures.0 c.save-s.ensures.1 _ (sym c.is_done.ensures ∙ c.if-not-is_done.true) c.number.ensures

pub overflow_mul-result : goal.overflow_mul-result
overflow_mul-result c =
    omega (arith, F.length-small _ _ c.account_in-a.ensures _ _ _ c.save-s.ensures.0 c.save-s.ensures.1)

pub returns : goal.returns
returns c =
    F.save_done _ _ c.account_in-a.ensures _ _ _ c.save-s.ensures.0 c.save-s.ensures.1 (sym c.is_done.ensures ∙ c.if-not-is_done.false)
