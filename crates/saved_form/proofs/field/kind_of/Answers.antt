-- Each arm is a run of fields of one kind, or one field.
use mathlib.Core.Path.{◌≡◌, sym, ap}
use native.Mathlib.Omega.{arith}
use Rattle.saved_form.specs.declared.field.Kind.{Kind}
use Rattle.saved_form.specs.declared.field.Field.{Field}
use Rattle.saved_form.specs.Fields.{since}
use Rattle.saved_form.proofs.Fields as F
use Rattle.saved_form.proofs.field.kind_of.Goals as goal

kind-is : {f : Field} {k : Kind} → f ≡ since 1 k → k ≡ f.kind
kind-is e = sym (ap (λ (f : Field). f.kind) e)

pub returns-in-0-to-5 : goal.returns-in-0-to-5
returns-in-0-to-5 c = kind-is (F.first_any _ (omega arith))

pub returns-in-0-to-8 : goal.returns-in-0-to-8
returns-in-0-to-8 c = kind-is (F.patterns _ (omega arith) (omega arith))

pub returns-in-9 : goal.returns-in-9
returns-in-9 c = kind-is (F.mark_at _ c.in-9.is)

pub returns-in-10 : goal.returns-in-10
returns-in-10 c = kind-is (F.count_at _ c.in-10.is)

pub returns-in-11 : goal.returns-in-11
returns-in-11 c = kind-is (F.ceiling_at _ c.in-11.is)

pub returns-in-0-to-13 : goal.returns-in-0-to-13
returns-in-0-to-13 c = kind-is (F.flags _ (omega arith) (omega arith))

pub returns-in-22 : goal.returns-in-22
returns-in-22 c = kind-is (F.positions_at _ c.in-22.is)

pub returns-in_default : goal.returns-in_default
returns-in_default c = kind-is (F.any_after _ (omega arith) (omega arith))
