-- The kind is worked out; every field stands since form 1.
use mathlib.Core.Path.{◌∙◌, ap}
use Rattle.saved_form.specs.declared.field.Kind.{Kind}
use Rattle.saved_form.specs.Fields.{since}
use Rattle.saved_form.proofs.Fields as F
use Rattle.saved_form.proofs.field.nth_field.Goals as goal

pub returns : goal.returns
returns c = ap (λ (k : Kind). since 1 k) c.kind_of.ensures ∙ F.all-since _
