-- The steps of the code that reads one number, and numbers in a row.
use Rattle.std.specs.Prelude.{Result, Ok, Err}
use mathlib.Core.Path.{◌≡◌, refl, sym, ◌∙◌, ap}
use Prim.Native.Nat.{ℕ, zero, suc, ◌+◌, ◌-◌, ◌<◌, ◌≤◌}
use native.Mathlib.Omega.{arith}
use mathlib.Core.Bool.{Bool, true, false, not}
use mathlib.Core.List.{List}
use lib.ListN.{length, get_or, set, replicate, length-set}
use lib.Seq.{sets}
use borrow.Author.Tests.{not-true, not-false}
use Rattle.answer.specs.Choice.{pick}
use Rattle.answer.specs.Numbers.{is_done}
use Rattle.answer.specs.declared.Answer.TheVariants.{Done, Unsound}
use Rattle.seven_bit.specs.declared.read.Fault.{Fault}
use Rattle.seven_bit.specs.declared.read.Number.{Number}
use Rattle.seven_bit.specs.Placed.{ToldNumber, number_at_of, number_or_fault}
use Rattle.seven_bit.proofs.Faults.{ok_of, err_of, to_ok, err_through}
use Rattle.saved_form.specs.declared.field.Field.{Field}
use Rattle.saved_form.specs.Fields.{field_at, has_field, allowed}
use Rattle.saved_form.proofs.Fields.{head_fields_lem}
use Rattle.saved_form.specs.Inner.Fields.{fields_from}
use Rattle.table.specs.Rows.{padded_column}
use Rattle.loading.specs.Reading.{no_number_of, judged, field_read, Run, ended, with_value, fields_read_of, head_of, head_read_of, head_or_fault}
use Rattle.loading.specs.Inner.Reading.{reached}
use Rattle.loading.proofs.Padded.{sets_padded, sets_at}

-- ---- one number
module _ (l : List ℕ) (form before place : ℕ) {f g : Field} (e : f ≡ g) {has : Bool} (h : has ≡ has_field form f before) where
  pub has_none : not has ≡ true → Ok (record { value = 0; next = place }) ≡ number_or_fault (field_read l form g before place)
  unfolding field_read
  has_none n = rw (← e) (simp (sym h ∙ not-true has n))

  stands_here : not has ≡ false → judged f.kind place (number_at_of l place) ≡ field_read l form g before place
  unfolding field_read
  stands_here n = rw (← e) (simp (sym h ∙ not-false has n))

  module _ (s : not has ≡ false) where
    abbrev told : ToldNumber
    told = number_at_of l place

    refused : is_done told.answer ≡ false → told ≡ field_read l form g before place
    unfolding judged
    refused d = let q : told ≡ judged f.kind place told = simp d in q ∙ stands_here s

    pub no_number : (r : Fault) → Err r ≡ number_or_fault told → Err r ≡ number_or_fault (field_read l form g before place)
    no_number r k = k ∙ ap number_or_fault (refused (err_of told.answer told.next (record { value = told.value; next = told.next }) r k).0)

    module _ (n : Number) (k : Ok n ≡ number_or_fault told) {may : Bool} (a : may ≡ allowed f.kind n.value) where
      done : (is_done told.answer ≡ true) × (n ≡ record { value = told.value; next = told.next })
      done = ok_of told.answer told.next (record { value = told.value; next = told.next }) n k

      judged_so : may ≡ allowed f.kind told.value
      judged_so = a ∙ ap (λ (n : Number). allowed f.kind n.value) done.1

      pub not_allowed : not may ≡ true → Err (record { answer = Unsound; place = place }) ≡ number_or_fault (field_read l form g before place)
      unfolding judged
      not_allowed m =
          let q : no_number_of Unsound place ≡ judged f.kind place told = simp (done.0, sym judged_so ∙ not-true may m) in
          ap number_or_fault (q ∙ stands_here s)

      pub number_stands : not may ≡ false → Ok n ≡ number_or_fault (field_read l form g before place)
      unfolding judged
      number_stands m =
          let q : told ≡ judged f.kind place told = simp (done.0, sym judged_so ∙ not-false may m) in
          k ∙ ap number_or_fault (q ∙ stands_here s)

-- ---- numbers in a row
run_more : (l : List ℕ) (form i j k m before at : ℕ) (n : ToldNumber) → j ≡ i + 1 → k ≡ m + 1 → n ≡ field_read l form (field_at i) before at → is_done n.answer ≡ true
    → with_value n.value (fields_read_of l form (fields_from j m) n.value n.next) ≡ fields_read_of l form (fields_from i k) before at
unfolding fields_from fields_read_of
run_more l form i j zero m before at n p q e d = absurd (omega arith)
run_more l form i j (suc k) m before at n p q e d =
    let f : m ≡ k = omega arith in
    let g : j ≡ suc i = omega arith in
    simp (f, g, ← e, d)

run_stop : (l : List ℕ) (form i k before at : ℕ) (n : ToldNumber) → 0 < k → n ≡ field_read l form (field_at i) before at → is_done n.answer ≡ false
    → ended n.answer n.next ≡ fields_read_of l form (fields_from i k) before at
unfolding fields_from fields_read_of
run_stop l form i zero before at n p e d = absurd (omega arith)
run_stop l form i (suc k) before at n p e d = simp (← e, d)

run-done : (l : List ℕ) (form i k before at : ℕ) → k ≡ 0 → ended Done at ≡ fields_read_of l form (fields_from i k) before at
unfolding fields_from fields_read_of
run-done l form i zero before at e = refl
run-done l form i (suc k) before at e = absurd (omega arith)

-- as many fields as there are places for, from one on
abbrev pub run_from : List ℕ → ℕ → ℕ → ℕ → ℕ → ℕ → Run
run_from l form first n before at = fields_read_of l form (fields_from first n) before at

-- what is left of the run, over what was stored, is the whole
pub record Moving (l : List ℕ) (form first place : ℕ) (was out : List ℕ) (i before at : ℕ) : Type 0 where
  pub within : i ≤ length was
  pub long : length out ≡ length was
  pub ends : reached (run_from l form (first + i) (length was - i) before at) ≡ reached (run_from l form first (length was) 0 place)
  pub kept : sets out i (run_from l form (first + i) (length was - i) before at).values ≡ sets was 0 (run_from l form first (length was) 0 place).values

-- what the loop answers and leaves
abbrev pub Ran : List ℕ → ℕ → ℕ → ℕ → List ℕ → List ℕ → Result ℕ Fault → Type 0
Ran l form first place was out r =
    let run = run_from l form first (length was) 0 place in
    (r ≡ reached run) × (out ≡ sets was 0 run.values)

pub sets_out : (l : List ℕ) (form first place : ℕ) (was : List ℕ) → Moving l form first place was was 0 0 place
sets_out l form first place was =
    let e : length was - 0 ≡ length was = omega arith in
    let f : first + 0 ≡ first = omega arith in
    record { within = omega arith; long = refl; ends = simp (e, f); kept = simp (e, f) }

module _ {l : List ℕ} {form first place : ℕ} {was out : List ℕ} {i before at : ℕ} (h : Moving l form first place was out i before at) where
  abbrev told_here : ToldNumber
  told_here = field_read l form (field_at (first + i)) before at

  pub moves : (n : Number) → Ok n ≡ number_or_fault told_here → i < length out → Moving l form first place was (set out i n.value) (i + 1) n.value n.next
  moves n e p =
      let t = told_here in
      let o = ok_of t.answer t.next (record { value = t.value; next = t.next }) n e in
      let r = run_more l form (first + i) (first + (i + 1)) (length was - i) (length was - (i + 1)) before at t (omega arith) (omega arith) refl o.0 in
      let s : i + 1 ≡ suc i = omega arith in
      rw o.1 (record {
        within = omega arith;
        long = length-set out i t.value ∙ h.long;
        ends = ap reached r ∙ h.ends;
        kept =
            ap (λ (x : ℕ). sets (set out i t.value) x (run_from l form (first + (i + 1)) (length was - (i + 1)) t.value t.next).values) s
            ∙ ap (λ (x : Run). sets out i x.values) r
            ∙ h.kept;
      })

  pub stops : (f : Fault) → Err f ≡ number_or_fault told_here → i < length out → Ran l form first place was out (Err f)
  stops f e p =
      let t = told_here in
      let d = err_of t.answer t.next (record { value = t.value; next = t.next }) f e in
      let r = run_stop l form (first + i) (length was - i) before at t (omega arith) refl d.0 in
      (err_through t.answer t.next (record { value = t.value; next = t.next }) t.next f e ∙ ap reached r ∙ h.ends, ap (λ (x : Run). sets out i x.values) r ∙ h.kept)

  pub ends_here : length out ≤ i → Ran l form first place was out (Ok at)
  ends_here p =
      let r = run-done l form (first + i) (length was - i) before at (omega (arith, h.within)) in
      (ap reached r ∙ h.ends, ap (λ (x : Run). sets out i x.values) r ∙ h.kept)

-- ---- the numbers before the positions
-- at most as many numbers as fields
few-then : (n : ToldNumber) (r : Run) (k : ℕ) (done : Bool) → length r.values ≤ k → length (pick done (with_value n.value r) (ended n.answer n.next)).values ≤ suc k
few-then n r k true h = omega arith
few-then n r k false h = omega arith

pub few-read : (l : List ℕ) (form first n before at : ℕ) → length (run_from l form first n before at).values ≤ n
unfolding fields_read_of fields_from
few-read l form first zero before at = omega arith
few-read l form first (suc n) before at =
    let r = field_read l form (field_at first) before at in
    few-then r (run_from l form (suc first) n r.value r.next) n (is_done r.answer) (few-read l form (suc first) n r.value r.next)

module _ (l : List ℕ) (form place : ℕ) where
  abbrev head_run : Run
  head_run = run_from l form 0 23 0 place

module _ (l : List ℕ) (form place : ℕ) (values : List ℕ) where
  head_told : values ≡ sets (replicate 23 0) 0 (head_run l form place).values → record { answer = (head_run l form place).answer; next = (head_run l form place).next; count = get_or values 22 0; values = values } ≡ head_read_of l form place
  unfolding head_read_of head_of
  head_told f =
      let run = head_run l form place in
      let few = few-read l form 0 23 0 place in
      let v : values ≡ padded_column 23 0 run.values = f ∙ sets_padded 23 0 run.values few in
      let k : get_or values 22 0 ≡ get_or run.values 22 0 = ap (λ (x : List ℕ). get_or x 22 0) f ∙ sets_at 23 0 run.values 22 few in
      let h : head_of run ≡ head_read_of l form place = ap (λ (fs : List Field). head_of (fields_read_of l form fs 0 place)) head_fields_lem in
      ap (λ (x : ℕ). record { answer = run.answer; next = run.next; count = x; values = values }) k
      ∙ ap (λ (x : List ℕ). record { answer = run.answer; next = run.next; count = get_or run.values 22 0; values = x }) v
      ∙ h

  module _ (f : values ≡ sets (replicate 23 0) 0 (head_run l form place).values) where
    pub head_read : (next : ℕ) → Ok next ≡ reached (head_run l form place) → Ok (record { next = next; count = get_or values 22 0; values = values }) ≡ head_or_fault (head_read_of l form place)
    head_read next e =
        let run = head_run l form place in
        let o = ok_of run.answer run.next run.next next e in
        rw o.1 (to_ok run.answer run.next (record { next = run.next; count = get_or values 22 0; values = values }) o.0 ∙ ap head_or_fault (head_told f))

    pub head_refused : (r : Fault) → Err r ≡ reached (head_run l form place) → Err r ≡ head_or_fault (head_read_of l form place)
    head_refused r e =
        let run = head_run l form place in
        err_through run.answer run.next run.next (record { next = run.next; count = get_or values 22 0; values = values }) r e ∙ ap head_or_fault (head_told f)
