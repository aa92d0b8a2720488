-- Positions one after another: what was written is read, and what is read is what would be written.
use mathlib.Core.Path.{◌≡◌, refl, sym, ◌∙◌, ap, subst}
use Prim.Native.Nat.{ℕ, zero, suc, ◌+◌, ◌<◌, ◌≤◌, ◌^◌}
use native.Mathlib.Omega.{arith}
use mathlib.Core.Bool.{Bool, true, false}
use mathlib.Core.List.{List, [], ◌∷◌, ◌++◌, map, append_assoc}
use lib.ListN.{length, get_or, drop, length-append}
use Rattle.answer.specs.Choice.{pick, all}
use Rattle.answer.specs.Numbers.{is_done}
use Rattle.answer.proofs.Choice.{both_true}
use Rattle.answer.proofs.Answers.{done_is}
use Rattle.answer.specs.declared.Answer.TheVariants.{Done}
use Rattle.position.specs.declared.position.Position.{Position}
use Rattle.position.specs.Rows.{row, key_of, held, avg, realized, total, numbers_of}
use Rattle.position.specs.Symbols.{good_symbol}
use Rattle.position.specs.Fills.{sound, sound_numbers}
use Rattle.seven_bit.specs.Placed.{ToldNumber}
use Rattle.seven_bit.specs.Signed.{folded, unfolded}
use Rattle.seven_bit.proofs.Signed.{unfolded-folded, folded-unfolded, unfolded-fits}
use Rattle.word_bytes.proofs.Words.{Words}
use Rattle.account_bytes.proofs.Lists.{Numbers, word_lt}
use Rattle.seven_bit.proofs.Groups.{Octets}
use Rattle.saved_form.specs.Fields.{newest, position_fields, allowed, follows, has_field}
use Rattle.saved_form.specs.Texts.{symbol_file}
use Rattle.saved_form.specs.Writing.{fields_file, position_file, positions_file}
use Rattle.loading.specs.Reading.{ToldEntry, Run, fields_read_of, no_entry, signed_in, entry_of, symbol_read, entry_after, position_read, Rows, no_rows, with_row, then_rows, positions_read}
use Rattle.saved_laws.proofs.Places.{◌▸◌, after, clash}
use Rattle.saved_laws.proofs.Fields.{Allowed, allowed-words, ran, fields_back, Whole, fields_one}
use Rattle.saved_laws.proofs.Texts.{Text}
use Rattle.saved_laws.proofs.Symbols.{symbol_back, Spelt, symbol-one}

-- ---- one position
-- what can be written of a position: a good symbol, and numbers that fit
pub record Fit (p : Position) : Type 0 where
  pub small : key_of p < 2 ^ 64
  pub text : Text (key_of p)
  pub quantity : folded (held p) < 2 ^ 64
  pub average : folded (avg p) < 2 ^ 64
  pub realized : folded (realized p) < 2 ^ 64
  pub total : folded (total p) < 2 ^ 64

abbrev values_of : Position → List ℕ
values_of p = map folded (numbers_of p)

abbrev numbers_file : Position → List ℕ
numbers_file p = fields_file newest position_fields 0 (values_of p)

numbers_allowed : (p : Position) → Fit p → Allowed newest position_fields 0 (values_of p)
unfolding position_fields has_field follows allowed
numbers_allowed p f = (refl, f.quantity) ▸ (refl, f.average) ▸ (refl, f.realized) ▸ (refl, f.total) ▸ omega arith

abbrev pub read : Position → ℕ → ToldEntry
read p next = record { answer = Done; next = next; position = p }

entry_back : (p : Position) (next : ℕ) → entry_of (key_of p) (ran (values_of p) next) ≡ read p next
unfolding entry_of
entry_back p next = simp unfolded-folded

pub position_back : (l rest : List ℕ) (p : Position) (at : ℕ) → Fit p → drop at l ≡ position_file p ++ rest → position_read l newest at ≡ read p (at + length (position_file p))
unfolding position_read position_file entry_after
position_back l rest p at f e =
    let x : List ℕ = symbol_file (key_of p) in
    let y : List ℕ = numbers_file p in
    let s : drop at l ≡ x ++ (y ++ rest) = e ∙ append_assoc x y rest in
    let n = fields_back l rest newest position_fields 0 (values_of p) (at + length x) (numbers_allowed p f) (after l x (y ++ rest) at s) in
    let k : at + length x + length y ≡ at + length (x ++ y) = omega (arith, length-append x y) in
    ap (entry_after l newest) (symbol_back l (y ++ rest) (key_of p) at f.text s) ∙ ap (entry_of (key_of p)) n ∙ entry_back p (at + length x + length y) ∙ ap (read p) k

-- ---- positions in a row
abbrev pub Fits : List Position → Type 0
Fits [] = 0 ≤ 0
Fits (p ∷ ps) = Fit p × Fits ps

abbrev pub rows_to : List Position → ℕ → Rows
rows_to ps next = record { rows = ps; answer = Done; next = next }

pub positions_back : (l rest : List ℕ) (ps : List Position) (at : ℕ) → Fits ps → drop at l ≡ positions_file ps ++ rest → positions_read (length ps) l newest at ≡ rows_to ps (at + length (positions_file ps))
unfolding positions_read positions_file then_rows
positions_back l rest [] at f e = let z : at ≡ at + 0 = omega arith in ap (rows_to []) z
positions_back l rest (p ∷ ps) at f e =
    let x : List ℕ = position_file p in
    let y : List ℕ = positions_file ps in
    let s : drop at l ≡ x ++ (y ++ rest) = e ∙ append_assoc x y rest in
    let m = positions_back l rest ps (at + length x) f.1 (after l x (y ++ rest) at s) in
    let k : at + length x + length y ≡ at + length (x ++ y) = omega (arith, length-append x y) in
    ap (λ (n : ToldEntry). then_rows n (λ e. positions_read (length ps) l newest e.next)) (position_back l (y ++ rest) p at f.0 s) ∙ ap (with_row p) m ∙ ap (rows_to (p ∷ ps)) k

-- ---- what is read is what would be written
values_back : (s : ℕ) (vs : List ℕ) → Allowed newest position_fields 0 vs → values_of (row s (unfolded (get_or vs 0 0)) (unfolded (get_or vs 1 0)) (unfolded (get_or vs 2 0)) (unfolded (get_or vs 3 0))) ≡ vs
unfolding position_fields
values_back s [] o = absurd o
values_back s (a ∷ []) o = absurd o.1
values_back s (a ∷ (b ∷ [])) o = absurd o.1.1
values_back s (a ∷ (b ∷ (c ∷ []))) o = absurd o.1.1.1
values_back s (a ∷ (b ∷ (c ∷ (d ∷ [])))) o = simp folded-unfolded
values_back s (a ∷ (b ∷ (c ∷ (d ∷ (e ∷ vs))))) o = absurd o.1.1.1.1

signed_numbers : (vs : List ℕ) → Words vs → Numbers (unfolded (get_or vs 0 0) ∷ unfolded (get_or vs 1 0) ∷ unfolded (get_or vs 2 0) ∷ unfolded (get_or vs 3 0) ∷ [])
signed_numbers vs w =
    unfolded-fits (get_or vs 0 0) (word_lt vs 0 w)
    ▸ unfolded-fits (get_or vs 1 0) (word_lt vs 1 w)
    ▸ unfolded-fits (get_or vs 2 0) (word_lt vs 2 w)
    ▸ unfolded-fits (get_or vs 3 0) (word_lt vs 3 w)
    ▸ omega arith

pub record Filed (l : List ℕ) (at : ℕ) (e : ToldEntry) : Type 0 where
  pub small : key_of e.position < 2 ^ 64
  pub numbers : Numbers (numbers_of e.position)
  pub same : drop at l ≡ position_file e.position ++ drop e.next l

module _ (l : List ℕ) (at : ℕ) (o : Octets l) where
  entry_by : (n : ToldNumber) (r : Run) (t : Bool) → Spelt l at n → (r.answer ≡ Done → Whole l newest position_fields 0 n.next r) → is_done r.answer ≡ t
      → (pick t (read (row n.value (signed_in r 0) (signed_in r 1) (signed_in r 2) (signed_in r 3)) r.next) (no_entry r.answer r.next)).answer ≡ Done
      → Filed l at (pick t (read (row n.value (signed_in r 0) (signed_in r 1) (signed_in r 2) (signed_in r 3)) r.next) (no_entry r.answer r.next))
  unfolding position_file
  entry_by n r false s w e d = clash (is_done r.answer) (ap is_done d) e
  entry_by n r true s w e d =
      let q = w (done_is r.answer e) in
      let v = values_back n.value r.values q.allowed in
      let y : List ℕ = fields_file newest position_fields 0 r.values in
      record {
        small = s.small;
        numbers = signed_numbers r.values (allowed-words newest position_fields 0 r.values q.allowed);
        same = s.same ∙ ap (λ (m : List ℕ). symbol_file n.value ++ m) q.same ∙ sym (append_assoc (symbol_file n.value) y (drop r.next l)) ∙ ap (λ (vs : List ℕ). (symbol_file n.value ++ fields_file newest position_fields 0 vs) ++ drop r.next l) (sym v);
      }

  abbrev entered : ToldNumber → ToldEntry
  entered n = entry_of n.value (fields_read_of l newest position_fields 0 n.next)

  entry_one : (n : ToldNumber) → Spelt l at n → (entered n).answer ≡ Done → Filed l at (entered n)
  unfolding entry_of
  entry_one n s d = let r = fields_read_of l newest position_fields 0 n.next in entry_by n r (is_done r.answer) s (fields_one l newest position_fields 0 n.next o) refl d

  key_of_lem : (s : ℕ) (r : Run) → (t : Bool) → is_done r.answer ≡ t
      → (pick t (read (row s (signed_in r 0) (signed_in r 1) (signed_in r 2) (signed_in r 3)) r.next) (no_entry r.answer r.next)).answer ≡ Done
      → key_of (pick t (read (row s (signed_in r 0) (signed_in r 1) (signed_in r 2) (signed_in r 3)) r.next) (no_entry r.answer r.next)).position ≡ s
  key_of_lem s r true e d = refl
  key_of_lem s r false e d = clash (is_done r.answer) (ap is_done d) e

  entry_key : (n : ToldNumber) → (entered n).answer ≡ Done → key_of (entered n).position ≡ n.value
  unfolding entry_of
  entry_key n d = let r = fields_read_of l newest position_fields 0 n.next in key_of_lem n.value r (is_done r.answer) refl d

  position-one_by : (n : ToldNumber) (t : Bool) → (n.answer ≡ Done → good_symbol n.value ≡ true → Spelt l at n) → is_done n.answer ≡ t
      → (pick t (entered n) (no_entry n.answer n.next)).answer ≡ Done → good_symbol (key_of (pick t (entered n) (no_entry n.answer n.next)).position) ≡ true
      → Filed l at (pick t (entered n) (no_entry n.answer n.next))
  position-one_by n true s e d g = entry_one n (s (done_is n.answer e) (sym (ap good_symbol (entry_key n d)) ∙ g)) d
  position-one_by n false s e d g = clash (is_done n.answer) (ap is_done d) e

  pub position-one : (position_read l newest at).answer ≡ Done → good_symbol (key_of (position_read l newest at).position) ≡ true → Filed l at (position_read l newest at)
  unfolding position_read entry_after
  position-one d g = position-one_by (symbol_read l at) (is_done (symbol_read l at).answer) (symbol-one l at o) refl d g

-- each with a symbol and numbers that fit
abbrev pub Kept : List Position → Type 0
Kept [] = 0 ≤ 0
Kept (p ∷ ps) = (key_of p < 2 ^ 64) × Numbers (numbers_of p) × Kept ps

pub record Rolled (l : List ℕ) (k at : ℕ) (r : Rows) : Type 0 where
  pub kept : Kept r.rows
  pub count : length r.rows ≡ k
  pub same : drop at l ≡ positions_file r.rows ++ drop r.next l

then_by : (e : ToldEntry) (more : ToldEntry → Rows) (d : Bool) → is_done e.answer ≡ d → (pick d (with_row e.position (more e)) (no_rows e.answer e.next)).answer ≡ Done
    → (e.answer ≡ Done) × ((more e).answer ≡ Done) × (pick d (with_row e.position (more e)) (no_rows e.answer e.next) ≡ with_row e.position (more e))
then_by e more true q h = (done_is e.answer q, h, refl)
then_by e more false q h = clash (is_done e.answer) (ap is_done h) q

pub rows-done : (e : ToldEntry) (more : ToldEntry → Rows) → (then_rows e more).answer ≡ Done → (e.answer ≡ Done) × ((more e).answer ≡ Done) × (then_rows e more ≡ with_row e.position (more e))
unfolding then_rows
rows-done e more h = then_by e more (is_done e.answer) refl h

rolled_more : (l : List ℕ) (k at : ℕ) (e : ToldEntry) (r : Rows) → Filed l at e → Rolled l k e.next r → Rolled l (suc k) at (with_row e.position r)
unfolding positions_file
rolled_more l k at e r f w = record {
  kept = (f.small, f.numbers, w.kept);
  count = ap suc w.count;
  same = f.same ∙ ap (λ (m : List ℕ). position_file e.position ++ m) w.same ∙ sym (append_assoc (position_file e.position) (positions_file r.rows) (drop r.next l));
}

pub sound-symbol : (p : Position) → sound p ≡ true → good_symbol (key_of p) ≡ true
unfolding sound
sound-symbol p e = (both_true (good_symbol (key_of p)) (sound_numbers (held p) (avg p) (total p)) e).0

pub positions_one : (k : ℕ) (l : List ℕ) (at : ℕ) → Octets l → (positions_read k l newest at).answer ≡ Done → all sound (positions_read k l newest at).rows ≡ true → Rolled l k at (positions_read k l newest at)
unfolding positions_read positions_file
positions_one zero l at o h s = record { kept = omega arith; count = refl; same = refl }
positions_one (suc k) l at o h s =
    let e = position_read l newest at in
    let d = rows-done e (λ e. positions_read k l newest e.next) h in
    let r = positions_read k l newest e.next in
    let g = both_true (sound e.position) (all sound r.rows) (sym (ap (λ (x : Rows). all sound x.rows) d.2) ∙ s) in
    subst (Rolled l (suc k) at) (sym d.2)
    (rolled_more l k at e r (position-one l at o d.0 (sound-symbol e.position g.0)) (positions_one k l e.next o d.1 g.1))
