-- The bytes of a saved account.
use Rattle.std.specs.Prelude.{ℕ, List, [], ◌∷◌, ◌++◌, map}
use Rattle.answer.specs.Choice.{pick}
use Rattle.position.specs.declared.position.Position.{Position}
use Rattle.position.specs.Rows.{key_of, numbers_of}
use Rattle.account.specs.declared.account.Account.{Account}
use Rattle.account.specs.Account.{held_in}
use Rattle.seven_bit.specs.Groups.{groups}
use Rattle.seven_bit.specs.Signed.{folded}
use Rattle.saved_form.specs.declared.field.Field.{Field}
use Rattle.saved_form.specs.Fields.{newest, head_fields, position_fields, has_field}
use Rattle.saved_form.specs.Texts.{symbol_file}
use Rattle.saved_form.specs.Values.{scalars_of, head_values}

-- a field's number after the one before it, nothing where the form has none there
unfoldable pub field_file : ℕ → Field → ℕ → ℕ → List ℕ
field_file form f before v = pick (has_field form f before) (groups v) []

-- numbers in a row, each field with its own
unfoldable pub fields_file : ℕ → List Field → ℕ → List ℕ → List ℕ
fields_file form [] before vs = []
fields_file form (f ∷ fs) before [] = []
fields_file form (f ∷ fs) before (v ∷ vs) = field_file form f before v ++ fields_file form fs v vs

-- "positions .., each in `Position`'s field order"
unfoldable pub position_file : Position → List ℕ
position_file p = symbol_file (key_of p) ++ fields_file newest position_fields 0 (map folded (numbers_of p))

-- "positions ascending"
unfoldable pub positions_file : List Position → List ℕ
positions_file [] = []
positions_file (p ∷ ps) = position_file p ++ positions_file ps

-- "Order: form number .., cash, .. position count, positions"
unfoldable pub file_of : Account → List ℕ
file_of a = groups newest ++ (fields_file newest head_fields 0 (head_values (scalars_of a)) ++ positions_file (held_in a.positions))
