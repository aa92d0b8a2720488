-- A file and its first p bytes, read part by part: what ends before there is read the same of both, and what goes on past there ends early of the bytes alone.
-- A part is read from where the one before it ended, and gives an answer and a place; the laws of one part after another are said once, of results of any form.
use mathlib.Core.Path.{◌≡◌, refl, sym, ◌∙◌, ap, subst}
use Prim.Native.Nat.{ℕ, zero, suc, ◌+◌, ◌-◌, ◌<◌, ◌≤◌}
use native.Mathlib.Omega.{arith}
use mathlib.Core.Bool.{Bool, true, false}
use mathlib.Core.List.{List, [], ◌∷◌}
use lib.Dec.{leb}
use lib.ListN.{length, take, drop, length-take, length-drop}
use lib.Seq.{take-take, take-nil}
use borrow.Author.Tests.{le-leb, lt-leb, leb-true, leb-false}
use Rattle.answer.specs.Choice.{pick}
use Rattle.answer.specs.Numbers.{is_done}
use Rattle.answer.specs.Places.{place_of}
use Rattle.answer.proofs.Answers.{done_is}
use Rattle.answer.specs.declared.Answer.{Answer}
use Rattle.answer.specs.declared.Answer.TheVariants.{Done, Unsound, EndsEarly, BadNumber}
use Rattle.position.specs.Rows.{row}
use Rattle.seven_bit.specs.Placed.{ToldNumber, told, number_at_of}
use Rattle.seven_bit.specs.Groups.{Out, ends, bad, got, read, number}
use Rattle.saved_form.specs.declared.field.Field.{Field}
use Rattle.saved_form.specs.declared.field.Kind.{Kind}
use Rattle.saved_form.specs.Fields.{head_fields, position_fields, allowed, has_field}
use Rattle.saved_form.specs.Texts.{good_length_of, spelt}
use Rattle.loading.specs.Reading.{ToldHead, ToldEntry, ToldPositions, no_number_of, judged, field_read, Run, ended, with_value, fields_read_of, head_of, head_read_of, text_read, symbol_read, no_entry, signed_in, entry_of, entry_after, position_read, Rows, no_rows, with_row, then_rows, positions_read, filed, up_to64, table_read}
use Rattle.seven_bit.proofs.Parts.{Grouped, read_grouped}
use Rattle.saved_laws.proofs.Places.{apart, clash}

-- ---- a part of a file
-- what a result tells
pub record Result (R : Type 0) : Type 0 where
  pub answer : R → Answer
  pub next : R → ℕ

abbrev pub numbers : Result ToldNumber
numbers = record { answer = λ n. n.answer; next = λ n. n.next }

abbrev pub runs : Result Run
runs = record { answer = λ r. r.answer; next = λ r. r.next }

abbrev pub heads : Result ToldHead
heads = record { answer = λ h. h.answer; next = λ h. h.next }

abbrev pub entries : Result ToldEntry
entries = record { answer = λ e. e.answer; next = λ e. e.next }

abbrev pub rolls : Result Rows
rolls = record { answer = λ r. r.answer; next = λ r. r.next }

abbrev pub tables : Result ToldPositions
tables = record { answer = λ t. t.answer; next = λ t. t.next }

-- what it may answer, and the place that it then tells
pub data Among (l : List ℕ) (w : Answer) : Type 0 where
  done : w ≡ Done → Among l w
  unsound : w ≡ Unsound → Among l w
  early : w ≡ EndsEarly (length l) → Among l w
  bad_at : (q : ℕ) → w ≡ BadNumber q → q < length l → (number_at_of l q).answer ≡ BadNumber q → Among l w

-- read whole from a place on as r, and of the first p bytes as r'
pub record Went {R : Type 0} (S : Result R) (l : List ℕ) (p at : ℕ) (r r' : R) : Type 0 where
  pub onward : at ≤ S.next r
  pub inside : at ≤ length l → S.next r ≤ length l
  pub alone : S.next r ≤ p → r' ≡ r
  pub cut : at ≤ p → p < S.next r → S.answer r' ≡ EndsEarly (length (take p l))

-- read or refused
pub record Reads {R : Type 0} (S : Result R) (l : List ℕ) (p at : ℕ) (r r' : R) : Type 0 where
  pub among : Among l (S.answer r)
  pub went : S.answer r ≡ Done → Went S l p at r r'
  -- where the number that starts there is refused, all before it was read
  pub before : S.answer r ≡ BadNumber p → (at ≤ p) × (S.answer r' ≡ EndsEarly (length (take p l)))

module _ {l : List ℕ} {p at : ℕ} where
  module _ {R : Type 0} (S : Result R) where
    -- nothing is read
    pub stays : (r : R) → S.answer r ≡ Done → S.next r ≡ at → Reads S l p at r r
    stays r e f = record {
      among = done e;
      went = λ _. record { onward = omega arith; inside = λ h. omega arith; alone = λ _. refl; cut = λ h g. absurd (omega arith) };
      before = λ h. apart Done (BadNumber p) (sym e ∙ h) (λ z. omega arith);
    }

    -- "11 .. as the bytes are met"
    pub refuses : (r r' : R) → S.answer r ≡ Unsound → Reads S l p at r r'
    refuses r r' e = record {
      among = unsound e;
      went = λ h. apart Unsound Done (sym e ∙ h) (λ z. omega arith);
      before = λ h. apart Unsound (BadNumber p) (sym e ∙ h) (λ z. omega arith);
    }

    pub by_test : (t : Bool) (r r' s s' : R) → Reads S l p at r r' → Reads S l p at s s' → Reads S l p at (pick t r s) (pick t r' s')
    by_test true r r' s s' f g = f
    by_test false r r' s s' f g = g

  module _ {A B : Type 0} (S : Result A) (T : Result B) where
    -- the same in another form
    pub formed : (g : A → B) → ((x : A) → T.answer (g x) ≡ S.answer x) → ((x : A) → T.next (g x) ≡ S.next x) → (r r' : A) → Reads S l p at r r' → Reads T l p at (g r) (g r')
    formed g e f r r' s = record {
      among = subst (Among l) (sym (e r)) s.among;
      went = λ h.
          let w = s.went (sym (e r) ∙ h) in
          record {
            onward = omega (arith, w.onward, f r);
            inside = λ i. omega (arith, w.inside i, f r);
            alone = λ i. ap g (w.alone (omega (arith, f r)));
            cut = λ i j. e r' ∙ w.cut i (omega (arith, f r));
          };
      before = λ h. let b = s.before (sym (e r) ∙ h) in (b.0, e r' ∙ b.1);
    }

    -- a part, and what follows it where it is done
    module _ (n n' : A) (more more' stop : A → B) (stops : (x : A) → T.answer (stop x) ≡ S.answer x) (s : Reads S l p at n n') (k : S.answer n ≡ Done → Reads T l p (S.next n) (more n) (more' n)) where
      abbrev followed : B
      followed = pick (is_done (S.answer n')) (more' n') (stop n')

      ended-there : S.answer n' ≡ EndsEarly (length (take p l)) → T.answer followed ≡ EndsEarly (length (take p l))
      ended-there e = ap (λ (t : Bool). T.answer (pick t (more' n') (stop n'))) (ap is_done e) ∙ stops n' ∙ e

      same-there : is_done (S.answer n) ≡ true → n' ≡ n → followed ≡ more' n
      same-there d e = ap (λ (x : A). pick (is_done (S.answer x)) (more' x) (stop x)) e ∙ ap (λ (t : Bool). pick t (more' n) (stop n)) d

      by-done : (t : Bool) → is_done (S.answer n) ≡ t → Reads T l p at (pick t (more n) (stop n)) followed
      by-done true d =
          let e = done_is (S.answer n) d in
          let w = s.went e in
          let m = k e in
          record {
            among = m.among;
            went = λ h.
                let v = m.went h in
                record {
                  onward = omega (arith, w.onward, v.onward);
                  inside = λ i. v.inside (w.inside i);
                  alone = λ i. same-there d (w.alone (omega (arith, v.onward))) ∙ v.alone i;
                  cut = λ i j. in-which i j w v (leb (S.next n) p) refl;
                };
            before = λ h. let b = m.before h in (omega (arith, w.onward, b.0), ap T.answer (same-there d (w.alone b.0)) ∙ b.1);
          }
        where
          in-which : at ≤ p → p < T.next (more n) → Went S l p at n n' → Went T l p (S.next n) (more n) (more' n) → (u : Bool) → leb (S.next n) p ≡ u → T.answer followed ≡ EndsEarly (length (take p l))
          in-which i j w v true q = let f = leb-true (S.next n) p q in ap T.answer (same-there d (w.alone f)) ∙ v.cut f j
          in-which i j w v false q = ended-there (w.cut i (leb-false (S.next n) p q))
      by-done false d = record {
        among = subst (Among l) (sym (stops n)) s.among;
        went = λ h. clash (is_done (S.answer n)) (ap is_done (sym (stops n) ∙ h)) d;
        before = λ h. let b = s.before (sym (stops n) ∙ h) in (b.0, ended-there b.1);
      }

      pub followed_by : Reads T l p at (pick (is_done (S.answer n)) (more n) (stop n)) followed
      followed_by = by-done (is_done (S.answer n)) refl

-- ---- bytes from a place on, of the first p
drop-take : (n p : ℕ) (l : List ℕ) → drop n (take p l) ≡ take (p - n) (drop n l)
drop-take zero p l = let e : p - 0 ≡ p = omega arith in rw e
drop-take (suc n) p [] = ap (drop (suc n)) (take-nil p) ∙ sym (take-nil (p - suc n))
drop-take (suc n) zero (b ∷ l) = let e : 0 - suc n ≡ 0 = omega arith in rw e
drop-take (suc n) (suc p) (b ∷ l) = let e : suc p - suc n ≡ p - n = omega arith in rw e (drop-take n p l)

module _ (l : List ℕ) (p : ℕ) where
  abbrev m : List ℕ
  m = take p l

  -- ---- numbers
  number-there : (at : ℕ) (o : Out) → number (take (p - at) (drop at l)) ≡ o → number_at_of m at ≡ told at (length m) o
  number-there at o e = ap (λ (b : List ℕ). told at (length m) (number b)) (drop-take at p l) ∙ ap (told at (length m)) e

  number_by : (at : ℕ) (o : Out) → number (drop at l) ≡ o → Grouped 0 9 (drop at l) o → Reads numbers l p at (told at (length l) o) (number_at_of m at)
  unfolding told read
  number_by at ends e g = record {
    among = early refl;
    went = λ h. apart (EndsEarly (length l)) Done h (λ z. omega arith);
    before = λ h. apart (EndsEarly (length l)) (BadNumber p) h (λ z. omega arith);
  }
  number_by at bad e g = record {
    among = bad_at at refl (omega (arith, g, length-drop at l)) (ap (λ (o : Out). (told at (length l) o).answer) e);
    went = λ h. apart (BadNumber at) Done h (λ z. omega arith);
    before = λ h.
        let q : at ≡ p = ap place_of h in
        let z : p - at ≡ 0 = omega arith in
        (omega arith, ap (λ (n : ToldNumber). n.answer) (number-there at ends (ap (λ (i : ℕ). number (take i (drop at l))) z)));
  }
  number_by at (got v n) e g = record {
    among = done refl;
    went = λ h. record {
      onward = omega arith;
      inside = λ i. omega (arith, g.0, length-drop at l);
      alone = λ i. number-there at (got v n) (g.1 (p - at) (omega arith));
      cut = λ i j. ap (λ (n : ToldNumber). n.answer) (number-there at ends (g.2 (p - at) (omega arith)));
    };
    before = λ h. apart Done (BadNumber p) h (λ z. omega arith);
  }

  pub number_reads : (at : ℕ) → Reads numbers l p at (number_at_of l at) (number_at_of m at)
  number_reads at = number_by at (number (drop at l)) refl (read_grouped 0 9 (drop at l))

  judged_reads : (k : Kind) (at : ℕ) → Reads numbers l p at (judged k at (number_at_of l at)) (judged k at (number_at_of m at))
  unfolding judged
  judged_reads k at =
      let more : ToldNumber → ToldNumber = λ n. pick (allowed k n.value) n (no_number_of Unsound at) in
      let n = number_at_of l at in
      followed_by numbers numbers n (number_at_of m at) more more (λ n. n) (λ _. refl) (number_reads at)
      (λ d. by_test numbers (allowed k n.value) n n (no_number_of Unsound at) (no_number_of Unsound at) (stays numbers n d refl) (refuses numbers (no_number_of Unsound at) (no_number_of Unsound at) refl))

  field_reads : (form : ℕ) (f : Field) (before at : ℕ) → Reads numbers l p at (field_read l form f before at) (field_read m form f before at)
  unfolding field_read
  field_reads form f before at = by_test numbers (has_field form f before) _ _ (no_number_of Done at) (no_number_of Done at) (judged_reads f.kind at) (stays numbers (no_number_of Done at) refl refl)

  pub fields_read : (form : ℕ) (fs : List Field) (before at : ℕ) → Reads runs l p at (fields_read_of l form fs before at) (fields_read_of m form fs before at)
  unfolding fields_read_of
  fields_read form [] before at = stays runs (ended Done at) refl refl
  fields_read form (f ∷ fs) before at =
      let n = field_read l form f before at in
      followed_by numbers runs n (field_read m form f before at) (λ n. with_value n.value (fields_read_of l form fs n.value n.next)) (λ n. with_value n.value (fields_read_of m form fs n.value n.next)) (λ n. ended n.answer n.next) (λ _. refl) (field_reads form f before at)
      (λ d. formed runs runs (with_value n.value) (λ _. refl) (λ _. refl) _ _ (fields_read form fs n.value n.next))

  pub head_reads : (form at : ℕ) → Reads heads l p at (head_read_of l form at) (head_read_of m form at)
  unfolding head_read_of head_of
  head_reads form at = formed runs heads head_of (λ _. refl) (λ _. refl) _ _ (fields_read form head_fields 0 at)

  -- ---- symbols
  abbrev text : ℕ → ℕ → ToldNumber
  text n at = record { answer = Done; value = spelt (take n (drop at l)); next = at + n }

  text_by : (n at : ℕ) (t : Bool) → leb (at + n) (length l) ≡ t → Reads numbers l p at (pick t (text n at) (no_number_of (EndsEarly (length l)) (length l))) (text_read m n at)
  unfolding text_read
  text_by n at true e = record {
    among = done refl;
    went = λ h. record {
      onward = omega arith;
      inside = λ i. leb-true (at + n) (length l) e;
      alone = λ i.
          let f : at + n ≤ length m = omega (arith, length-take p l, leb-true (at + n) (length l) e) in
          let b : take n (drop at m) ≡ take n (drop at l) = ap (take n) (drop-take at p l) ∙ take-take n (p - at) (drop at l) (omega arith) in
          simp (le-leb (at + n) (length m) f, b);
      cut = λ i j.
          let f : length m < at + n = omega (arith, length-take p l) in
          simp (lt-leb (at + n) (length m) f);
    };
    before = λ h. apart Done (BadNumber p) h (λ z. omega arith);
  }
  text_by n at false e = record {
    among = early refl;
    went = λ h. apart (EndsEarly (length l)) Done h (λ z. omega arith);
    before = λ h. apart (EndsEarly (length l)) (BadNumber p) h (λ z. omega arith);
  }

  text_reads : (n at : ℕ) → Reads numbers l p at (text_read l n at) (text_read m n at)
  unfolding text_read
  text_reads n at = text_by n at (leb (at + n) (length l)) refl

  symbol_reads : (at : ℕ) → Reads numbers l p at (symbol_read l at) (symbol_read m at)
  unfolding symbol_read
  symbol_reads at =
      let n = number_at_of l at in
      followed_by numbers numbers n (number_at_of m at) (λ n. pick (good_length_of n.value) (text_read l n.value n.next) (no_number_of Unsound at)) (λ n. pick (good_length_of n.value) (text_read m n.value n.next) (no_number_of Unsound at)) (λ n. n) (λ _. refl) (number_reads at)
      (λ d. by_test numbers (good_length_of n.value) _ _ (no_number_of Unsound at) (no_number_of Unsound at) (text_reads n.value n.next) (refuses numbers (no_number_of Unsound at) (no_number_of Unsound at) refl))

  -- ---- positions
  entry_reads : (s at : ℕ) (r r' : Run) → Reads runs l p at r r' → Reads entries l p at (entry_of s r) (entry_of s r')
  unfolding entry_of
  entry_reads s at r r' h =
      let whole : Run → ToldEntry = λ r. record { answer = Done; next = r.next; position = row s (signed_in r 0) (signed_in r 1) (signed_in r 2) (signed_in r 3) } in
      followed_by runs entries r r' whole whole (λ r. no_entry r.answer r.next) (λ _. refl) h (λ d. stays entries (whole r) refl refl)

  position_reads : (form at : ℕ) → Reads entries l p at (position_read l form at) (position_read m form at)
  unfolding position_read entry_after
  position_reads form at =
      let n = symbol_read l at in
      followed_by numbers entries n (symbol_read m at) (λ n. entry_of n.value (fields_read_of l form position_fields 0 n.next)) (λ n. entry_of n.value (fields_read_of m form position_fields 0 n.next)) (λ n. no_entry n.answer n.next) (λ _. refl) (symbol_reads at)
      (λ d. entry_reads n.value n.next _ _ (fields_read form position_fields 0 n.next))

  positions_read_lem : (k form at : ℕ) → Reads rolls l p at (positions_read k l form at) (positions_read k m form at)
  unfolding positions_read then_rows
  positions_read_lem zero form at = stays rolls (no_rows Done at) refl refl
  positions_read_lem (suc k) form at =
      let e = position_read l form at in
      followed_by entries rolls e (position_read m form at) (λ e. with_row e.position (positions_read k l form e.next)) (λ e. with_row e.position (positions_read k m form e.next)) (λ e. no_rows e.answer e.next) (λ _. refl) (position_reads form at)
      (λ d. formed rolls rolls (with_row e.position) (λ _. refl) (λ _. refl) _ _ (positions_read_lem k form e.next))

  pub table_reads : (form count at : ℕ) → Reads tables l p at (table_read l form count at) (table_read m form count at)
  unfolding table_read filed
  table_reads form count at = formed rolls tables filed (λ _. refl) (λ _. refl) _ _ (positions_read_lem (up_to64 count) form at)
