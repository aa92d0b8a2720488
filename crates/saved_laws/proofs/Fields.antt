-- Numbers in a row, each field with its own: what was written is read, and what is read is what would be written.
use mathlib.Core.Path.{◌≡◌, refl, sym, ◌∙◌, ap, subst}
use Prim.Native.Nat.{ℕ, suc, ◌+◌, ◌<◌, ◌≤◌, ◌^◌}
use native.Mathlib.Omega.{arith}
use mathlib.Core.Bool.{Bool, true, false}
use mathlib.Core.List.{List, [], ◌∷◌, ◌++◌, append_assoc}
use lib.ListN.{length, drop, length-append}
use Rattle.answer.specs.Choice.{pick}
use Rattle.answer.specs.Numbers.{is_done}
use Rattle.answer.proofs.Answers.{done_is}
use Rattle.answer.specs.declared.Answer.{Answer}
use Rattle.answer.specs.declared.Answer.TheVariants.{Done, Unsound}
use Rattle.word_bytes.proofs.Words.{Words}
use Rattle.seven_bit.specs.Placed.{ToldNumber, number_at_of}
use Rattle.seven_bit.specs.Groups.{groups}
use Rattle.seven_bit.proofs.Groups.{Octets}
use Rattle.saved_form.specs.declared.field.Field.{Field}
use Rattle.saved_form.specs.declared.field.Kind.{Kind}
use Rattle.saved_form.specs.Fields.{allowed, has_field}
use Rattle.saved_form.specs.Writing.{field_file, fields_file}
use Rattle.loading.specs.Reading.{Run, no_number_of, then_number, judged, field_read, ended, with_value, then_run, fields_read_of}
use Rattle.saved_laws.proofs.Places.{after, apart, clash, was, number_back, number-one}

-- a number that may stand where its field does, and 0 where it does not
abbrev pub Stands : Bool → Kind → ℕ → Type 0
Stands true k v = (allowed k v ≡ true) × (v < 2 ^ 64)
Stands false k v = v ≡ 0

abbrev pub Allowed : ℕ → List Field → ℕ → List ℕ → Type 0
Allowed form [] before [] = 0 ≤ 0
Allowed form [] before (v ∷ vs) = ⊥
Allowed form (f ∷ fs) before [] = ⊥
Allowed form (f ∷ fs) before (v ∷ vs) = Stands (has_field form f before) f.kind v × Allowed form fs v vs

-- each of them fits, and there are as many as fields
stands_small : (t : Bool) (k : Kind) (v : ℕ) → Stands t k v → v < 2 ^ 64
stands_small true k v s = s.1
stands_small false k v s = omega arith

pub allowed-words : (form : ℕ) (fs : List Field) (before : ℕ) (vs : List ℕ) → Allowed form fs before vs → Words vs
allowed-words form [] before [] o = omega arith
allowed-words form [] before (v ∷ vs) o = absurd o
allowed-words form (f ∷ fs) before [] o = absurd o
allowed-words form (f ∷ fs) before (v ∷ vs) o = (stands_small (has_field form f before) f.kind v o.0, allowed-words form fs v vs o.1)

pub allowed-length : (form : ℕ) (fs : List Field) (before : ℕ) (vs : List ℕ) → Allowed form fs before vs → length vs ≡ length fs
allowed-length form [] before [] o = refl
allowed-length form [] before (v ∷ vs) o = absurd o
allowed-length form (f ∷ fs) before [] o = absurd o
allowed-length form (f ∷ fs) before (v ∷ vs) o = ap suc (allowed-length form fs v vs o.1)

-- ---- one field
judged_back : (l rest : List ℕ) (k : Kind) (at v : ℕ) → allowed k v ≡ true → v < 2 ^ 64 → drop at l ≡ groups v ++ rest → judged k at (number_at_of l at) ≡ was v (at + length (groups v))
unfolding judged
judged_back l rest k at v s h e = ap (λ (n : ToldNumber). then_number n (λ n. pick (allowed k n.value) n (no_number_of Unsound at))) (number_back l rest at v h e) ∙ simp s

field_by : (l rest : List ℕ) (k : Kind) (at v : ℕ) (t : Bool) → Stands t k v → drop at l ≡ pick t (groups v) [] ++ rest → pick t (judged k at (number_at_of l at)) (no_number_of Done at) ≡ was v (at + length (pick t (groups v) []))
field_by l rest k at v true s e = judged_back l rest k at v s.0 s.1 e
field_by l rest k at v false s e = let z : at ≡ at + 0 = omega arith in simp (s, ← z)

pub field_back : (l rest : List ℕ) (form : ℕ) (f : Field) (before v at : ℕ) → Stands (has_field form f before) f.kind v → drop at l ≡ field_file form f before v ++ rest → field_read l form f before at ≡ was v (at + length (field_file form f before v))
unfolding field_read field_file
field_back l rest form f before v at s e = field_by l rest f.kind at v (has_field form f before) s e

-- ---- fields in a row
abbrev pub ran : List ℕ → ℕ → Run
ran vs next = record { values = vs; answer = Done; next = next }

pub fields_back : (l rest : List ℕ) (form : ℕ) (fs : List Field) (before : ℕ) (vs : List ℕ) (at : ℕ) → Allowed form fs before vs → drop at l ≡ fields_file form fs before vs ++ rest → fields_read_of l form fs before at ≡ ran vs (at + length (fields_file form fs before vs))
unfolding fields_read_of fields_file
fields_back l rest form [] before [] at o e = let z : at ≡ at + 0 = omega arith in ap (ran []) z
fields_back l rest form [] before (v ∷ vs) at o e = absurd o
fields_back l rest form (f ∷ fs) before [] at o e = absurd o
fields_back l rest form (f ∷ fs) before (v ∷ vs) at o e =
    let x : List ℕ = field_file form f before v in
    let y : List ℕ = fields_file form fs v vs in
    let s : drop at l ≡ x ++ (y ++ rest) = e ∙ append_assoc x y rest in
    let m = fields_back l rest form fs v vs (at + length x) o.1 (after l x (y ++ rest) at s) in
    let k : at + length x + length y ≡ at + length (x ++ y) = omega (arith, length-append x y) in
    ap (λ (n : ToldNumber). then_run n (λ n. fields_read_of l form fs n.value n.next)) (field_back l (y ++ rest) form f before v at o.0 s) ∙ ap (with_value v) m ∙ ap (ran (v ∷ vs)) k

-- ---- what is read is what would be written
judged_by : (k : Kind) (at : ℕ) (n : ToldNumber) (w : Answer) (d t : Bool) → w ≡ n.answer → is_done w ≡ d → allowed k n.value ≡ t → (pick d (pick t n (no_number_of Unsound at)) n).answer ≡ Done
    → (n.answer ≡ Done) × (allowed k n.value ≡ true) × (pick d (pick t n (no_number_of Unsound at)) n ≡ n)
judged_by k at n w true true q e f h = (h, f, refl)
judged_by k at n w true false q e f h = apart Unsound Done h (λ z. omega arith)
judged_by k at n w false t q e f h = clash (is_done w) (ap is_done (q ∙ h)) e

pub judged-done : (k : Kind) (at : ℕ) (n : ToldNumber) → (judged k at n).answer ≡ Done → (n.answer ≡ Done) × (allowed k n.value ≡ true) × (judged k at n ≡ n)
unfolding judged
judged-done k at n h = judged_by k at n n.answer (is_done n.answer) (allowed k n.value) refl refl refl h

-- a field that was read: its bytes, and that its number may stand
pub record Taken (l : List ℕ) (t : Bool) (k : Kind) (at : ℕ) (n : ToldNumber) : Type 0 where
  pub stands : Stands t k n.value
  pub same : drop at l ≡ pick t (groups n.value) [] ++ drop n.next l

taken_by : (l : List ℕ) (k : Kind) (at : ℕ) (t : Bool) → Octets l → (pick t (judged k at (number_at_of l at)) (no_number_of Done at)).answer ≡ Done → Taken l t k at (pick t (judged k at (number_at_of l at)) (no_number_of Done at))
taken_by l k at false o h = record { stands = refl; same = refl }
taken_by l k at true o h =
    let j = judged-done k at (number_at_of l at) h in
    let s = number-one l at o j.0 in
    subst (Taken l true k at) (sym j.2) (record { stands = (j.1, s.fits); same = s.same })

pub field_one : (l : List ℕ) (form : ℕ) (f : Field) (before at : ℕ) → Octets l → (field_read l form f before at).answer ≡ Done → Taken l (has_field form f before) f.kind at (field_read l form f before at)
unfolding field_read
field_one l form f before at o h = taken_by l f.kind at (has_field form f before) o h

-- a run that was read: its bytes, and that its numbers may stand
pub record Whole (l : List ℕ) (form : ℕ) (fs : List Field) (before at : ℕ) (r : Run) : Type 0 where
  pub allowed : Allowed form fs before r.values
  pub same : drop at l ≡ fields_file form fs before r.values ++ drop r.next l

then_by : (n : ToldNumber) (more : ToldNumber → Run) (d : Bool) → is_done n.answer ≡ d → (pick d (with_value n.value (more n)) (ended n.answer n.next)).answer ≡ Done
    → (n.answer ≡ Done) × ((more n).answer ≡ Done) × (pick d (with_value n.value (more n)) (ended n.answer n.next) ≡ with_value n.value (more n))
then_by n more true e h = (done_is n.answer e, h, refl)
then_by n more false e h = clash (is_done n.answer) (ap is_done h) e

pub then-done : (n : ToldNumber) (more : ToldNumber → Run) → (then_run n more).answer ≡ Done → (n.answer ≡ Done) × ((more n).answer ≡ Done) × (then_run n more ≡ with_value n.value (more n))
then-done n more h = then_by n more (is_done n.answer) refl h

whole-more : (l : List ℕ) (form : ℕ) (f : Field) (fs : List Field) (before at : ℕ) (n : ToldNumber) (r : Run) → Taken l (has_field form f before) f.kind at n → Whole l form fs n.value n.next r → Whole l form (f ∷ fs) before at (with_value n.value r)
unfolding fields_file field_file
whole-more l form f fs before at n r t w = record {
  allowed = (t.stands, w.allowed);
  same = t.same ∙ ap (λ (m : List ℕ). field_file form f before n.value ++ m) w.same ∙ sym (append_assoc (field_file form f before n.value) (fields_file form fs n.value r.values) (drop r.next l));
}

pub fields_one : (l : List ℕ) (form : ℕ) (fs : List Field) (before at : ℕ) → Octets l → (fields_read_of l form fs before at).answer ≡ Done → Whole l form fs before at (fields_read_of l form fs before at)
unfolding fields_read_of fields_file
fields_one l form [] before at o h = record { allowed = omega arith; same = refl }
fields_one l form (f ∷ fs) before at o h =
    let n = field_read l form f before at in
    let d = then-done n (λ n. fields_read_of l form fs n.value n.next) h in
    subst (Whole l form (f ∷ fs) before at) (sym d.2)
    (whole-more l form f fs before at n (fields_read_of l form fs n.value n.next) (field_one l form f before at o d.0) (fields_one l form fs n.value n.next o d.1))
