-- Numbers in a row, field after field.
use mathlib.Core.Path.{◌≡◌, refl, ◌∙◌, ap}
use Prim.Native.Nat.{ℕ, suc, ◌+◌, ◌*◌, ◌<◌, ◌≤◌}
use native.Mathlib.Omega.{arith}
use mathlib.Core.Bool.{Bool, true, false}
use mathlib.Core.List.{List, [], ◌∷◌, ◌++◌}
use lib.ListN.{length, get_or, drop, length-append, drop_of_length-le}
use lib.Seq.{drop-cons}
use Rattle.answer.specs.Choice.{pick}
use Rattle.seven_bit.specs.Groups.{groups}
use Rattle.seven_bit.proofs.Groups.{write-few}
use Rattle.saved_form.specs.declared.field.Field.{Field}
use Rattle.saved_form.specs.Fields.{newest, field_at, has_field}
use Rattle.saved_form.specs.Inner.Fields.{fields_from}
use Rattle.saved_form.specs.Writing.{field_file, fields_file}
use Rattle.saving.specs.Inner.Putting.{Put}
use Rattle.saving.proofs.Putting.{Left, left-all, left-same, left-put, left-none}

-- ---- how long they are
short_by : (v : ℕ) (t : Bool) → length (pick t (groups v) []) ≤ 10
short_by v true = write-few 9 v
short_by v false = omega arith

pub field_short : (form : ℕ) (f : Field) (before v : ℕ) → length (field_file form f before v) ≤ 10
unfolding field_file
field_short form f before v = short_by v (has_field form f before)

pub fields_short : (form : ℕ) (fs : List Field) (before : ℕ) (vs : List ℕ) → length (fields_file form fs before vs) ≤ 10 * length vs
unfolding fields_file
fields_short form [] before vs = omega arith
fields_short form (f ∷ fs) before [] = omega arith
fields_short form (f ∷ fs) before (v ∷ vs) = omega (arith, length-append (field_file form f before v) (fields_file form fs v vs), field_short form f before v, fields_short form fs v vs)

-- ---- one field
pub field_there : (form : ℕ) (f : Field) (before v : ℕ) → has_field form f before ≡ true → field_file form f before v ≡ groups v
unfolding field_file
field_there form f before v e = simp e

pub field_absent : (form : ℕ) (f : Field) (before v : ℕ) → has_field form f before ≡ false → field_file form f before v ≡ []
unfolding field_file
field_absent form f before v e = simp e

-- ---- the values left, each with its field
abbrev pub fields_left : ℕ → ℕ → List ℕ → List ℕ
fields_left first before vs = fields_file newest (fields_from first (length vs)) before vs

pub fields_next : (first before : ℕ) (vs : List ℕ) (i v : ℕ) → i < length vs → v ≡ get_or vs i 0
    → fields_left (first + i) before (drop i vs) ≡ field_file newest (field_at (first + i)) before v ++ fields_left (first + (i + 1)) v (drop (i + 1) vs)
unfolding fields_file fields_from
fields_next first before vs i v h e =
    let a : i + 1 ≡ suc i = omega arith in
    let b : first + suc i ≡ suc (first + i) = omega arith in
    ap (fields_left (first + i) before) (drop-cons vs i 0 h) ∙ simp (a, b, e)

pub fields_none : (first before : ℕ) (vs : List ℕ) (i : ℕ) → length vs ≤ i → fields_left first before (drop i vs) ≡ []
unfolding fields_file fields_from
fields_none first before vs i h = ap (fields_left first before) (drop_of_length-le vs h)

-- ---- writing: each took ten bytes at most
pub record Writing (l : List ℕ) (place first : ℕ) (vs now : List ℕ) (at before i : ℕ) : Type 0 where
  pub within : i ≤ length vs
  pub few : at ≤ place + 10 * i
  pub left : Left l place (fields_left first 0 vs) now at (fields_left (first + i) before (drop i vs))

pub write-from : (l : List ℕ) (place first : ℕ) (vs : List ℕ) → Writing l place first vs l place 0 0
write-from l place first vs =
    let z : first ≡ first + 0 = omega arith in
    record { within = omega arith; few = omega arith; left = left-same (left-all l place (fields_left first 0 vs)) (ap (λ (n : ℕ). fields_left n 0 vs) z) }

module _ {l : List ℕ} {place first : ℕ} {vs now : List ℕ} {at before i : ℕ} (h : Writing l place first vs now at before i) where
  pub write-next : {now' : List ℕ} {at' : ℕ} → i < length vs → Put now at (field_file newest (field_at (first + i)) before (get_or vs i 0)) now' at' → Writing l place first vs now' at' (get_or vs i 0) (i + 1)
  write-next p w = record {
    within = omega arith;
    few = omega (arith, h.few, w.next, field_short newest (field_at (first + i)) before (get_or vs i 0));
    left = left-put h.left _ _ _ _ (fields_next first before vs i (get_or vs i 0) p refl) w;
  }

  pub write_done : length vs ≤ i → Put l place (fields_left first 0 vs) now at
  write_done p = left-none h.left (fields_none (first + i) before vs i p)
