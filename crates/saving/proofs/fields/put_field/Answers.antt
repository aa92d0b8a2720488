-- Nothing, or the number's groups.
use native.Mathlib.Omega.{arith}
use mathlib.Core.Path.{◌≡◌, ◌∙◌, sym, ap}
use mathlib.Core.Bool.{true, false}
use Rattle.seven_bit.proofs.Groups.{write-few}
use Rattle.saved_form.specs.declared.field.Field.{Field}
use Rattle.saved_form.specs.Fields.{newest, field_at, has_field}
use Rattle.saving.proofs.Putting as P
use Rattle.saving.proofs.FieldRuns as F
use Rattle.saving.proofs.fields.put_field.Goals as goal

pub returns-then-not-stands : goal.returns-then-not-stands
returns-then-not-stands c =
    let s = c.args in
    let e : has_field newest (field_at s.i) s.before ≡ false =
    sym (ap (λ (f : Field). has_field newest f s.before) c.nth_field.ensures) ∙ sym c.stands.ensures ∙ c.if-not-stands.true in
    rw (F.field_absent newest (field_at s.i) s.before s.v e) (P.put-none _ _)

pub returns : goal.returns
returns c =
    let s = c.args in
    let e : has_field newest (field_at s.i) s.before ≡ true =
    sym (ap (λ (f : Field). has_field newest f s.before) c.nth_field.ensures) ∙ sym c.stands.ensures ∙ c.if-not-stands.false in
    rw (F.field_there newest (field_at s.i) s.before s.v e) (P.put-groups _ _ _ _ _ (omega (arith, write-few 9 s.v)) c.put_number.ensures.0 c.put_number.ensures.1)
