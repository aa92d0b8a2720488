-- Every file that is taken is what writing its account gives; what is loaded is sound, and a refused file leaves zeros.
use mathlib.Core.Path.{◌≡◌, refl, sym, ◌∙◌, ap, subst}
use Prim.Native.Nat.{ℕ, zero, suc, ◌-◌, ◌≤◌}
use native.Mathlib.Omega.{arith}
use mathlib.Core.Bool.{Bool, true, false}
use mathlib.Core.List.{List, [], ◌++◌, append-nil}
use lib.Dec.{eqb}
use lib.ListN.{length, get_or, drop, replicate}
use lib.Seq.{drop-length}
use borrow.Author.Tests.{eqb-true}
use Rattle.answer.specs.Choice.{pick, all}
use Rattle.answer.specs.Numbers.{is_done}
use Rattle.answer.proofs.Answers.{done_is, passed, passed_both}
use Rattle.answer.specs.declared.Answer.TheVariants.{Done, Unsound, LeftOver}
use Rattle.position.specs.declared.position.Position.{Position}
use Rattle.position.specs.Fills.{sound}
use Rattle.table.specs.Rows.{columns_of, empty_table}
use Rattle.account.specs.Account.{held_in, table_of, sound_table, sound_account}
use Rattle.account.specs.Calls.{answered, zero_account}
use Rattle.account.proofs.Columns.{sound-rows}
use Rattle.account.proofs.Tables.{table-held}
use Rattle.account.proofs.SoundAccounts.{account-table, account-settings}
use Rattle.account_bytes.proofs.SettingsKept.{NoNan, good-rates}
use Rattle.account_bytes.proofs.AccountKept.{KeptAccount}
use Rattle.seven_bit.specs.Groups.{groups}
use Rattle.seven_bit.specs.Placed.{number_at_of}
use Rattle.seven_bit.proofs.Groups.{Octets}
use Rattle.saved_form.specs.Fields.{newest, head_fields}
use Rattle.saved_form.specs.Values.{scalars_of, head_values, settings_of, account_of}
use Rattle.saved_form.specs.Writing.{fields_file, positions_file, file_of}
use Rattle.loading.specs.Reading.{ToldHead, ToldPositions, Run, fields_read_of, head_of, head_read_of, position_read, Rows, no_rows, with_row, then_rows, positions_read, filed, table_read, head_in_of, positions_in}
use Rattle.loading.specs.Loading.{file_account, load_answer, not_loaded, loaded}
use Rattle.saved_laws.proofs.Places.{number-one}
use Rattle.saved_laws.proofs.Fields.{allowed-length, allowed-words, Whole, fields_one}
use Rattle.saved_laws.proofs.Positions.{Rolled, positions_one}
use Rattle.saved_laws.proofs.Kept.{table-full, kept-account}
use Rattle.saved_laws.proofs.Values.{few, head_one}
use Rattle.saved_laws.proofs.Files.{at_most_64}
use Rattle.saved_laws.proofs.ReadsBack.{judgement, by_parts}

-- ---- what a file that is taken passed
pub record Passed (l : List ℕ) : Type 0 where
  pub form : (number_at_of l 0).answer ≡ Done
  pub known : (number_at_of l 0).value ≡ newest
  pub head : (head_in_of l).answer ≡ Done
  pub positions : (positions_in l).answer ≡ Done
  pub end : (positions_in l).next ≡ length l
  pub sound : sound_account (file_account l) ≡ true

pub taken : (l : List ℕ) → load_answer l ≡ Done → Passed l
taken l e =
    let d : is_done (judgement (number_at_of l 0) (head_in_of l) (positions_in l) (length l) (file_account l)) ≡ true = ap is_done (sym (by_parts l) ∙ e) in
    let a = passed_both (number_at_of l 0).answer _ d in
    let b = passed (eqb (number_at_of l 0).value newest) Unsound _ refl a.1 in
    let c = passed_both (head_in_of l).answer _ b.1 in
    let p = passed_both (positions_in l).answer _ c.1 in
    let n = passed (eqb (positions_in l).next (length l)) (LeftOver (positions_in l).next) _ refl p.1 in
    let s = passed (sound_account (file_account l)) Unsound Done refl n.1 in
    record {
      form = done_is (number_at_of l 0).answer a.0;
      known = eqb-true (number_at_of l 0).value newest b.0;
      head = done_is (head_in_of l).answer c.0;
      positions = done_is (positions_in l).answer p.0;
      end = eqb-true (positions_in l).next (length l) n.0;
      sound = s.0;
    }

-- ---- the table of what was read
rows_by : (k : ℕ) (p : Position) (r : Rows) (w : Rows) (t : Bool) → length r.rows ≤ k → w.rows ≡ [] → length (pick t (with_row p r) w).rows ≤ suc k
rows_by k p r w true h e = omega arith
rows_by k p r w false h e = omega (arith, ap length e)

rows_few : (k : ℕ) (l : List ℕ) (form at : ℕ) → length (positions_read k l form at).rows ≤ k
unfolding positions_read then_rows
rows_few zero l form at = omega arith
rows_few (suc k) l form at =
    let e = position_read l form at in
    rows_by k e.position (positions_read k l form e.next) (no_rows e.answer e.next) (is_done e.answer) (rows_few k l form e.next) refl

table-count : (ps : List Position) → (table_of ps).count ≡ length ps
unfolding table_of
table-count ps = refl

rows-sound : (ps : List Position) → length ps ≤ 64 → sound_table (table_of ps) ≡ true → all sound ps ≡ true
rows-sound ps h e = sym (ap (all sound) (table-held ps h)) ∙ sound-rows (table_of ps).count (columns_of (table_of ps)) (table-full ps h) e

-- ---- the file of what was read
module _ (l : List ℕ) where
  joined : (n m : ℕ) (vs : List ℕ) (ps : List Position) → l ≡ groups newest ++ drop n l → drop n l ≡ fields_file newest head_fields 0 vs ++ drop m l → drop m l ≡ positions_file ps
      → head_values (scalars_of (account_of vs (table_of ps))) ≡ vs → held_in (table_of ps) ≡ ps → file_of (account_of vs (table_of ps)) ≡ l
  unfolding file_of account_of
  joined n m vs ps f h p v t =
      let w : file_of (account_of vs (table_of ps)) ≡ groups newest ++ (fields_file newest head_fields 0 vs ++ positions_file ps) = ap (λ (us : List ℕ). groups newest ++ (fields_file newest head_fields 0 us ++ positions_file (held_in (table_of ps)))) v ∙ ap (λ (qs : List Position). groups newest ++ (fields_file newest head_fields 0 vs ++ positions_file qs)) t in
      w ∙ sym (f ∙ ap (λ (x : List ℕ). groups newest ++ x) (h ∙ ap (λ (x : List ℕ). fields_file newest head_fields 0 vs ++ x) p))

  module _ (o : Octets l) (e : load_answer l ≡ Done) where
    abbrev passes : Passed l
    passes = taken l e

    abbrev from : ℕ
    from = (number_at_of l 0).next

    abbrev run : Run
    run = fields_read_of l newest head_fields 0 from

    abbrev places : Rows
    places = positions_read (get_or run.values 22 0) l newest run.next

    form-first : l ≡ groups newest ++ drop from l
    form-first = (number-one l 0 o passes.form).same ∙ ap (λ (v : ℕ). groups v ++ drop from l) passes.known

    run-done : run.answer ≡ Done
    unfolding head_read_of head_of
    run-done = sym (ap (λ (v : ℕ). (fields_read_of l v head_fields 0 from).answer) passes.known) ∙ passes.head

    run-whole : Whole l newest head_fields 0 from run
    run-whole = fields_one l newest head_fields 0 from o run-done

    head-is : head_in_of l ≡ record { answer = run.answer; next = run.next; count = get_or run.values 22 0; values = run.values }
    unfolding head_read_of head_of head_fields
    head-is =
        let n : length run.values ≡ 23 = allowed-length newest head_fields 0 run.values run-whole.allowed in
        let z : 23 - length run.values ≡ 0 = omega arith in
        ap (λ (v : ℕ). head_read_of l v from) passes.known
        ∙ ap (λ (us : List ℕ). record { answer = run.answer; next = run.next; count = get_or run.values 22 0; values = us }) (ap (λ (k : ℕ). run.values ++ replicate k 0) z ∙ append-nil run.values)

    at_most : get_or run.values 22 0 ≤ 64
    at_most = few run.values empty_table run-whole.allowed

    positions-are : positions_in l ≡ filed places
    unfolding table_read
    positions-are =
        ap (λ (h : ToldHead). table_read l (number_at_of l 0).value h.count h.next) head-is
        ∙ ap (λ (v : ℕ). table_read l v (get_or run.values 22 0) run.next) passes.known
        ∙ ap (λ (k : ℕ). filed (positions_read k l newest run.next)) (at_most_64 (get_or run.values 22 0) at_most)

    abbrev held_rows : List Position
    held_rows = places.rows

    account_is : file_account l ≡ account_of run.values (table_of held_rows)
    unfolding file_account filed
    account_is =
        ap (λ (h : ToldHead). account_of h.values (positions_in l).table) head-is
        ∙ ap (λ (p : ToldPositions). account_of run.values p.table) positions-are

    account-sound : sound_account (account_of run.values (table_of held_rows)) ≡ true
    account-sound = sym (ap sound_account account_is) ∙ passes.sound

    short : length held_rows ≤ 64
    short = omega (arith, rows_few (get_or run.values 22 0) l newest run.next, at_most)

    each-sound : all sound held_rows ≡ true
    unfolding account_of
    each-sound = rows-sound held_rows short (account-table (account_of run.values (table_of held_rows)) account-sound)

    rolled : Rolled l (get_or run.values 22 0) run.next places
    unfolding filed
    rolled = positions_one (get_or run.values 22 0) l run.next o (sym (ap (λ (p : ToldPositions). p.answer) positions-are) ∙ passes.positions) each-sound

    last-first : drop run.next l ≡ positions_file held_rows
    unfolding filed
    last-first =
        let n : places.next ≡ length l = sym (ap (λ (p : ToldPositions). p.next) positions-are) ∙ passes.end in
        rolled.same ∙ ap (λ (k : ℕ). positions_file held_rows ++ drop k l) n ∙ ap (λ (x : List ℕ). positions_file held_rows ++ x) (drop-length l) ∙ append-nil (positions_file held_rows)

    rates-numbers : NoNan (settings_of run.values)
    unfolding account_of
    rates-numbers = good-rates (settings_of run.values) (account-settings (account_of run.values (table_of held_rows)) account-sound)

    values-are : head_values (scalars_of (account_of run.values (table_of held_rows))) ≡ run.values
    unfolding account_of
    values-are =
        head_one run.values (table_of held_rows) run-whole.allowed rates-numbers (table-count held_rows ∙ rolled.count)

    -- the fields of what was read fit their widths
    pub loads_kept : KeptAccount (file_account l)
    loads_kept =
        subst KeptAccount (sym account_is)
        (kept-account run.values held_rows (allowed-words newest head_fields 0 run.values run-whole.allowed) rates-numbers short rolled.kept)

    -- "every accepted file of the newest form is what writing its account gives"
    pub one_file : file_of (file_account l) ≡ l
    one_file = ap file_of account_is ∙ joined from run.next run.values held_rows form-first run-whole.same last-first values-are (table-held held_rows short)

-- ---- what is loaded, and what is not
pub loads_sound : (l : List ℕ) → load_answer l ≡ Done → sound_account (file_account l) ≡ true
loads_sound l e = (taken l e).sound

-- "A refused load: zeros by value"
pub refused-zeros : (l : List ℕ) → is_done (load_answer l) ≡ false → loaded l ≡ answered (load_answer l) zero_account
unfolding loaded
refused-zeros l e = rw e

-- either way the answer is told, and an account that is not all zeros is sound
pub loaded-answer : (l : List ℕ) → (loaded l).answer ≡ load_answer l
unfolding loaded
loaded-answer l = go (is_done (load_answer l)) refl
  where
    go : (t : Bool) → is_done (load_answer l) ≡ t → (pick t (answered Done (file_account l)) (not_loaded (load_answer l))).answer ≡ load_answer l
    go true e = sym (done_is (load_answer l) e)
    go false e = refl
