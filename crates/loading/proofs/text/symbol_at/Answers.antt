-- The length, its tests, and the text.
use mathlib.Core.Path.{◌∙◌}
use native.Mathlib.Omega.{arith}
use Rattle.std.proofs.lemmas.Result.{err_from_is_err_and}
use Rattle.loading.proofs.Texts as X
use Rattle.loading.proofs.text.symbol_at.Goals as goal

pub returns-in_err-length : goal.returns-in_err-length
returns-in_err-length c =
    let p = err_from_is_err_and c.from_residual.result c.from_residual.ensures.1 in
    rw (p.1, p.2) (X.no_number _ _ _ c.in_err-length.ensures)

pub returns-in-1-to-8 : goal.returns-in-1-to-8
returns-in-1-to-8 c = c.text_at.ensures ∙ X.good_length _ _ _ c.in_ok-length.ensures (omega arith) (omega arith)

pub returns-in_default : goal.returns-in_default
returns-in_default c = X.no_length _ _ _ c.in_ok-length.ensures (omega arith)

pub returns-in_default-2 : goal.returns-in_default-2
returns-in_default-2 c = X.long-length _ _ _ c.in_ok-length.ensures (omega arith)
