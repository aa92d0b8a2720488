-- The kinds of fields by their number: fields of one kind in a row, and those behind them.
use mathlib.Core.Path.{◌≡◌, refl, sym, ◌∙◌, ap}
use Prim.Native.Nat.{ℕ, zero, suc, ◌+◌, ◌-◌, ◌<◌, ◌≤◌}
use native.Mathlib.Omega.{arith}
use mathlib.Core.Bool.{Bool, true, false}
use mathlib.Core.List.{List, [], ◌∷◌, ◌++◌, map}
use lib.Dec.{ltb}
use lib.ListN.{length, get_or, take, drop, replicate}
use borrow.Author.Tests.{ltb-true, ltb-false}
use Rattle.saved_form.specs.declared.field.Kind.TheVariants.{Any, Flag, AfterMark, Pattern, Positions}
use Rattle.saved_form.specs.declared.field.Field.{Field}
use Rattle.saved_form.specs.Fields.{since, head_fields, position_fields, field_at}
use Rattle.saved_form.specs.Inner.Fields.{fields_from}

in_row : {A : Type 0} (x d : A) (n : ℕ) (l : List A) (i : ℕ) → i < n → get_or (replicate n x ++ l) i d ≡ x
in_row x d zero l i h = absurd (omega arith)
in_row x d (suc n) l zero h = refl
in_row x d (suc n) l (suc i) h = in_row x d n l i (omega arith)

behind : {A : Type 0} (d : A) (front l : List A) (i j : ℕ) → i ≡ length front + j → get_or (front ++ l) i d ≡ get_or l j d
behind d [] l i j e = let f : i ≡ j = omega arith in rw f
behind d (x ∷ front) l zero j e = absurd (omega arith)
behind d (x ∷ front) l (suc i) j e = behind d front l i j (omega arith)

past_all : {A : Type 0} (x : A) (n i : ℕ) → get_or (replicate n x) i x ≡ x
past_all x zero i = refl
past_all x (suc n) zero = refl
past_all x (suc n) (suc i) = past_all x n i

abbrev fields : List Field
fields = head_fields ++ position_fields

abbrev any : Field
any = since 1 Any

pub first_any : (i : ℕ) → i < 6 → field_at i ≡ any
unfolding field_at head_fields position_fields
first_any i h = in_row any any 6 (drop 6 fields) i h

pub patterns : (i : ℕ) → 6 ≤ i → i < 9 → field_at i ≡ since 1 Pattern
unfolding field_at head_fields position_fields
patterns i h k = behind any (take 6 fields) (drop 6 fields) i (i - 6) (omega arith) ∙ in_row (since 1 Pattern) any 3 (drop 9 fields) (i - 6) (omega arith)

pub flags : (i : ℕ) → 12 ≤ i → i < 14 → field_at i ≡ since 1 Flag
unfolding field_at head_fields position_fields
flags i h k = behind any (take 12 fields) (drop 12 fields) i (i - 12) (omega arith) ∙ in_row (since 1 Flag) any 2 (drop 14 fields) (i - 12) (omega arith)

pub counters_any : (i : ℕ) → 14 ≤ i → i < 22 → field_at i ≡ any
unfolding field_at head_fields position_fields
counters_any i h k = behind any (take 14 fields) (drop 14 fields) i (i - 14) (omega arith) ∙ in_row any any 8 (drop 22 fields) (i - 14) (omega arith)

pub last_any : (i : ℕ) → 23 ≤ i → field_at i ≡ any
unfolding field_at head_fields position_fields
last_any i h = behind any (take 23 fields) (drop 23 fields) i (i - 23) (omega arith) ∙ past_all any 4 (i - 23)

pub mark_at : (i : ℕ) → i ≡ 9 → field_at i ≡ since 1 Flag
unfolding field_at head_fields position_fields
mark_at i e = ap field_at e

pub count_at : (i : ℕ) → i ≡ 10 → field_at i ≡ since 1 AfterMark
unfolding field_at head_fields position_fields
count_at i e = ap field_at e

pub ceiling_at : (i : ℕ) → i ≡ 11 → field_at i ≡ any
unfolding field_at head_fields position_fields
ceiling_at i e = ap field_at e

pub positions_at : (i : ℕ) → i ≡ 22 → field_at i ≡ since 1 Positions
unfolding field_at head_fields position_fields
positions_at i e = ap field_at e

pub any_after : (i : ℕ) → 14 ≤ i → (i ≡ 22 → ⊥) → field_at i ≡ any
any_after i h n = go (ltb i 22) refl
  where
    go : (t : Bool) → ltb i 22 ≡ t → field_at i ≡ any
    go true e = counters_any i h (ltb-true i 22 e)
    go false e = last_any i (omega (arith, ltb-false i 22 e))

-- every field stands since form 1
all-since_in : (l : List Field) → map (λ (f : Field). since 1 f.kind) l ≡ l → (i : ℕ) → since 1 (get_or l i any).kind ≡ get_or l i any
all-since_in l e i = sym (getD-map-of l i) ∙ ap (λ (k : List Field). get_or k i any) e
  where
    getD-map-of : (l : List Field) (i : ℕ) → get_or (map (λ (f : Field). since 1 f.kind) l) i any ≡ since 1 (get_or l i any).kind
    getD-map-of [] i = refl
    getD-map-of (f ∷ l) zero = refl
    getD-map-of (f ∷ l) (suc i) = getD-map-of l i

pub all-since : (i : ℕ) → since 1 (field_at i).kind ≡ field_at i
unfolding field_at head_fields position_fields
all-since i = all-since_in fields refl i

-- ---- the lists by number
pub head_fields_lem : fields_from 0 23 ≡ head_fields
unfolding fields_from field_at head_fields position_fields
head_fields_lem = refl

pub position_fields_lem : fields_from 23 4 ≡ position_fields
unfolding fields_from field_at head_fields position_fields
position_fields_lem = refl
