-- The field of its number has a number here or none; the number is refused, may not stand, or stands.
use mathlib.Core.Bool.{not}
use mathlib.Core.Path.{ap}
use Rattle.std.proofs.lemmas.Result.{err_from_is_err_and}
use Rattle.loading.proofs.Numbers as N
use Rattle.loading.proofs.number.field_at.Goals as goal

pub returns-then-not-stands : goal.returns-then-not-stands
returns-then-not-stands c = N.has_none _ _ _ _ c.nth_field-field.ensures c.stands.ensures (ap not c.if-not-stands.true)

pub returns-in_err-number : goal.returns-in_err-number
returns-in_err-number c =
    let p = err_from_is_err_and c.from_residual.result c.from_residual.ensures.1 in
    rw (p.1, p.2) (N.no_number _ _ _ _ c.nth_field-field.ensures c.stands.ensures (ap not c.if-not-stands.false) _ c.in_err-number.ensures)

pub returns-then-not-allows : goal.returns-then-not-allows
returns-then-not-allows c =
    N.not_allowed _ _ _ _ c.nth_field-field.ensures c.stands.ensures (ap not c.if-not-stands.false) _ c.in_ok-number.ensures c.allows.ensures (ap not c.if-not-allows.true)

pub returns : goal.returns
returns c =
    N.number_stands _ _ _ _ c.nth_field-field.ensures c.stands.ensures (ap not c.if-not-stands.false) _ c.in_ok-number.ensures c.allows.ensures (ap not c.if-not-allows.false)
