-- Fields by their number: so many of them from one on.
use Rattle.std.specs.Prelude.{ℕ, zero, suc, List, [], ◌∷◌}
use Rattle.saved_form.specs.declared.field.Field.{Field}
use Rattle.saved_form.specs.Fields.{field_at}

unfoldable pub fields_from : ℕ → ℕ → List Field
fields_from first zero = []
fields_from first (suc n) = field_at first ∷ fields_from (suc first) n
