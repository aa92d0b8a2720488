-- A file is bytes: every element of it is below 256.
use mathlib.Core.Path.{◌≡◌}
use Prim.Native.Nat.{ℕ, ◌<◌, ◌^◌}
use native.Mathlib.Omega.{arith}
use mathlib.Core.Bool.{Bool, true, false}
use mathlib.Core.List.{List, [], ◌∷◌, ◌++◌, map}
use lib.Dec.{eqb}
use lib.ListN.{length}
use Rattle.answer.specs.Choice.{pick}
use Rattle.position.specs.declared.position.Position.{Position}
use Rattle.position.specs.Rows.{key_of, numbers_of}
use Rattle.position.specs.Symbols.{symbol_bytes}
use Rattle.account.specs.declared.account.Account.{Account}
use Rattle.account.specs.Account.{held_in, sound_account}
use Rattle.account_bytes.proofs.AccountKept.{KeptAccount}
use Rattle.seven_bit.specs.Groups.{groups}
use Rattle.seven_bit.specs.Signed.{folded}
use Rattle.seven_bit.proofs.Groups.{Octets, write_octets}
use Rattle.saved_form.specs.declared.field.Field.{Field}
use Rattle.saved_form.specs.Fields.{newest, head_fields, position_fields, has_field}
use Rattle.saved_form.specs.Texts.{unpadded, text_of, symbol_file}
use Rattle.saved_form.specs.Values.{scalars_of, head_values}
use Rattle.saved_form.specs.Writing.{field_file, fields_file, position_file, positions_file, file_of}
use Rattle.word_bytes.proofs.Words.{Words}
use Rattle.saved_laws.proofs.Fields.{allowed-words}
use Rattle.saved_laws.proofs.Texts.{Text, bytes_octets}
use Rattle.saved_laws.proofs.Positions.{Fit, Fits}
use Rattle.saved_laws.proofs.Values.{head_allowed}
use Rattle.saved_laws.proofs.Files.{rows_fit}

octets_append : (l m : List ℕ) → Octets l → Octets m → Octets (l ++ m)
octets_append [] m o p = p
octets_append (b ∷ l) m o p = (o.0, octets_append l m o.1 p)

groups_octets : (n : ℕ) → n < 2 ^ 64 → Octets (groups n)
groups_octets n h = write_octets 9 n (omega arith)

-- ---- fields
field_by : (v : ℕ) (t : Bool) → v < 2 ^ 64 → Octets (pick t (groups v) [])
field_by v true h = groups_octets v h
field_by v false h = omega arith

field_octets : (form : ℕ) (f : Field) (before v : ℕ) → v < 2 ^ 64 → Octets (field_file form f before v)
unfolding field_file
field_octets form f before v h = field_by v (has_field form f before) h

fields_octets : (form : ℕ) (fs : List Field) (before : ℕ) (vs : List ℕ) → Words vs → Octets (fields_file form fs before vs)
unfolding fields_file
fields_octets form [] before vs w = omega arith
fields_octets form (f ∷ fs) before [] w = omega arith
fields_octets form (f ∷ fs) before (v ∷ vs) w = octets_append (field_file form f before v) (fields_file form fs v vs) (field_octets form f before v w.0) (fields_octets form fs v vs w.1)

-- ---- positions
unpadded_by : (b : ℕ) (bs : List ℕ) (t : Bool) → b < 256 → Octets (unpadded bs) → Octets (pick t [] (b ∷ unpadded bs))
unpadded_by b bs true h o = omega arith
unpadded_by b bs false h o = (h, o)

unpadded_octets : (l : List ℕ) → Octets l → Octets (unpadded l)
unfolding unpadded
unpadded_octets [] o = o
unpadded_octets (b ∷ bs) o = unpadded_by b bs (eqb b 0) o.0 (unpadded_octets bs o.1)

symbol_octets : (s : ℕ) → s < 2 ^ 64 → Text s → Octets (symbol_file s)
unfolding symbol_file
symbol_octets s h t = octets_append (groups (length (text_of s))) (text_of s) (groups_octets (length (text_of s)) (omega (arith, t.short))) (unpadded_octets (symbol_bytes s) (bytes_octets 8 s h))

position_octets : (p : Position) → Fit p → Octets (position_file p)
unfolding position_file
position_octets p f =
    octets_append (symbol_file (key_of p)) (fields_file newest position_fields 0 (map folded (numbers_of p))) (symbol_octets (key_of p) f.small f.text)
    (fields_octets newest position_fields 0 (map folded (numbers_of p)) (f.quantity, (f.average, (f.realized, (f.total, omega arith)))))

positions_octets : (ps : List Position) → Fits ps → Octets (positions_file ps)
unfolding positions_file
positions_octets [] f = omega arith
positions_octets (p ∷ ps) f = octets_append (position_file p) (positions_file ps) (position_octets p f.0) (positions_octets ps f.1)

pub file_octets : (a : Account) → sound_account a ≡ true → KeptAccount a → Octets (file_of a)
unfolding file_of
file_octets a e k =
    let h : List ℕ = fields_file newest head_fields 0 (head_values (scalars_of a)) in
    let p : List ℕ = positions_file (held_in a.positions) in
    octets_append (groups newest) (h ++ p) (groups_octets newest (omega arith))
    (octets_append h p (fields_octets newest head_fields 0 (head_values (scalars_of a)) (allowed-words newest head_fields 0 (head_values (scalars_of a)) (head_allowed a e k)))
    (positions_octets (held_in a.positions) (rows_fit a e k)))
