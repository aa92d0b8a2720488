-- The whole file: its parts one after the other, how long it is, and what saving answers.
use Rattle.std.specs.Prelude.{Result, Ok, Err}
use mathlib.Core.Path.{◌≡◌, refl, ◌∙◌, ap}
use Prim.Native.Nat.{ℕ, ◌*◌, ◌<◌, ◌≤◌}
use native.Mathlib.Omega.{arith}
use mathlib.Core.Bool.{Bool, true, false}
use mathlib.Core.List.{List, [], ◌∷◌, ◌++◌}
use lib.ListN.{length, length-append, length-take}
use lib.Seq.{sets}
use borrow.Author.Tests.{le-leb, lt-leb}
use Rattle.answer.specs.Choice.{pick}
use Rattle.answer.specs.Numbers.{is_done, checked}
use Rattle.answer.specs.declared.Answer.{Answer}
use Rattle.account.specs.Inner.Answers.{unless_unsound}
use Rattle.answer.specs.declared.Answer.TheVariants.{Done, Unsound, NoFileRoom}
use Rattle.position.specs.declared.position.Position.{Position}
use Rattle.table.specs.Rows.{columns_of, zipped}
use Rattle.account.specs.declared.account.Account.{Account}
use Rattle.account.specs.declared.account.Ledger.{Ledger}
use Rattle.account.specs.Account.{held_in, sound_account}
use Rattle.account.specs.Inner.Account.{ledger_of}
use Rattle.seven_bit.specs.Groups.{groups}
use Rattle.seven_bit.proofs.Groups.{write-few}
use Rattle.saved_form.specs.declared.field.Field.{Field}
use Rattle.saved_form.specs.Fields.{newest, head_fields}
use Rattle.saved_form.specs.Inner.Fields.{fields_from}
use Rattle.saved_form.specs.Values.{setting_values, counter_values, head_values}
use Rattle.saved_form.proofs.Fields.{head_fields_lem}
use Rattle.saved_form.specs.Writing.{fields_file, position_file, positions_file, file_of}
use Rattle.saving.specs.Saving.{save_answer, length_saved, refused, saved_told, saved_into}
use Rattle.saving.specs.Inner.Putting.{Put}
use Rattle.saving.proofs.Putting.{put_same, put_then}
use Rattle.saving.proofs.FieldRuns.{fields_short, fields_left}
use Rattle.saving.proofs.PositionRuns.{position-short}

pub head_length : (h : Ledger) → length (head_values h) ≡ 23
unfolding head_values setting_values counter_values
head_length h = refl

-- ---- how long it is
positions_short : (ps : List Position) → length (positions_file ps) ≤ 58 * length ps
unfolding positions_file
positions_short [] = omega arith
positions_short (p ∷ ps) = omega (arith, length-append (position_file p) (positions_file ps), position-short p, positions_short ps)

-- the form and 23 numbers of ten groups, and 64 positions
pub file_short : (a : Account) → a.positions.count ≤ 64 → length (file_of a) ≤ 3952
unfolding file_of
file_short a h =
    let n = a.positions.count in
    let vs = head_values (ledger_of a) in
    let ps = held_in a.positions in
    let head = fields_file newest head_fields 0 vs in
    omega (arith, length-append (groups newest) (head ++ positions_file ps), length-append head (positions_file ps), write-few 9 newest, fields_short newest head_fields 0 vs, head_length (ledger_of a), positions_short ps, length-take n (zipped (columns_of a.positions)))

-- ---- its parts
pub file_put : {l : List ℕ} {l' : List ℕ} {p : ℕ} {l'' : List ℕ} {q : ℕ} {l''' : List ℕ} {r : ℕ} (a : Account) (vs : List ℕ) → vs ≡ head_values (ledger_of a) → Put l 0 (groups newest) l' p → Put l' p (fields_left 0 0 vs) l'' q
    → Put l'' q (positions_file (held_in a.positions)) l''' r → Put l 0 (file_of a) l''' r
unfolding file_of
file_put a vs e f g h =
    let w = head_values (ledger_of a) in
    let i = ap (fields_left 0 0) e ∙ ap (λ (n : ℕ). fields_file newest (fields_from 0 n) 0 w) (head_length (ledger_of a)) ∙ ap (λ (fs : List Field). fields_file newest fs 0 w) head_fields_lem in
    put_then f (put_then (put_same g i) h)

-- ---- what saving answers
module _ (a : Account) (l : List ℕ) where
  abbrev Saves : Result ℕ Answer → List ℕ → Type 0
  Saves r l' = (r ≡ length_saved a (length l)) × (l' ≡ saved_into a l)

  sound_by : (t : Bool) → sound_account a ≡ t → Ok tt ≡ checked (pick t Done Unsound) → sound_account a ≡ true
  sound_by true e c = e
  sound_by false e c = cc

  pub is_sound : Ok tt ≡ checked (unless_unsound a Done) → sound_account a ≡ true
  is_sound c = sound_by (sound_account a) refl c

  unsound_by : (t : Bool) → sound_account a ≡ t → (w : Answer) → Err w ≡ checked (pick t Done Unsound) → Saves (Err w) l
  unfolding save_answer saved_into
  unsound_by true e w c = cc
  unsound_by false e w c = let u : w ≡ Unsound = cc in rw u (simp e, simp e)

  pub saved_unsound : (w : Answer) → Err w ≡ checked (unless_unsound a Done) → Saves (Err w) l
  saved_unsound w c = unsound_by (sound_account a) refl w c

  module _ (e : sound_account a ≡ true) where
    pub saved_short : length l < length (file_of a) → Saves (Err NoFileRoom) l
    unfolding save_answer saved_into
    saved_short h = let t = lt-leb (length (file_of a)) (length l) h in (simp (e, t), simp (e, t))

    pub saved_whole : length (file_of a) ≤ length l → (n : ℕ) (l' : List ℕ) → n ≡ length (file_of a) → l' ≡ sets l 0 (file_of a) → Saves (Ok n) l'
    unfolding save_answer saved_into
    saved_whole h n l' f g = let t = le-leb (length (file_of a)) (length l) h in (simp (e, t, f), simp (e, t) g)

-- ---- the public answer: 0 where it is refused
module _ (a : Account) (room : ℕ) where
  length_by : (t : Bool) (w : Answer) (n k : ℕ) → Ok n ≡ pick t (Ok k) (Err w) → record { answer = Done; length = n } ≡ pick t (record { answer = Done; length = k }) (refused w)
  length_by true w n k e = let s : n ≡ k = cc in ap (λ (x : ℕ). record { answer = Done; length = x }) s
  length_by false w n k e = cc

  pub length_told : (n : ℕ) → Ok n ≡ length_saved a room → record { answer = Done; length = n } ≡ saved_told a room
  unfolding saved_told
  length_told n e = length_by (is_done (save_answer a room)) (save_answer a room) n (length (file_of a)) e

  refused_by : (t : Bool) (w v : Answer) (k : ℕ) → Err v ≡ pick t (Ok k) (Err w) → refused v ≡ pick t (record { answer = Done; length = k }) (refused w)
  refused_by true w v k e = cc
  refused_by false w v k e = let s : v ≡ w = cc in ap refused s

  pub refusal_told : (w : Answer) → Err w ≡ length_saved a room → refused w ≡ saved_told a room
  unfolding saved_told
  refusal_told w e = refused_by (is_done (save_answer a room)) (save_answer a room) w (length (file_of a)) e
