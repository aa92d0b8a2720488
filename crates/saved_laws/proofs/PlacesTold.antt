-- Loading answers by where the parts of a file ended and by the account that they hold; what that says of a part of the file, and of the place that a refusal tells.
use mathlib.Core.Path.{◌≡◌, refl, sym, ◌∙◌, ap, subst}
use Prim.Native.Nat.{ℕ, ◌<◌, ◌≤◌}
use native.Mathlib.Omega.{arith}
use mathlib.Core.Bool.{Bool, true, false}
use mathlib.Core.List.{List}
use lib.Dec.{eqb}
use lib.ListN.{length, take}
use lib.Seq.{length-take-le}
use borrow.Author.Tests.{eq-eqb, eqb-true, eqb-false}
use Rattle.answer.specs.Choice.{pick}
use Rattle.answer.specs.Numbers.{number_of, is_done, unless, or_later}
use Rattle.answer.specs.Places.{place_of}
use Rattle.answer.proofs.Answers.{done_is, passed, passed_both}
use Rattle.answer.specs.declared.Answer.{Answer}
use Rattle.answer.specs.declared.Answer.TheVariants.{Done, Unsound, EndsEarly, BadNumber, LeftOver}
use Rattle.account.specs.declared.account.Account.{Account}
use Rattle.account.specs.Account.{sound_account}
use Rattle.account.specs.Calls.{zero_account}
use Rattle.seven_bit.specs.Placed.{ToldNumber, number_at_of}
use Rattle.saved_form.specs.Fields.{newest}
use Rattle.saved_form.specs.Values.{account_of}
use Rattle.loading.specs.Reading.{ToldHead, ToldPositions, head_read_of, table_read, head_in_of, positions_in}
use Rattle.loading.specs.Loading.{file_account, load_answer}
use Rattle.saved_laws.specs.Statement.{Placed}
use Rattle.saved_laws.proofs.Places.{apart, clash}
use Rattle.saved_laws.proofs.FirstBytes.{Result, numbers, heads, tables, Among, done, unsound, early, bad_at, Reads, refuses, by_test, formed, followed_by, number_reads, head_reads, table_reads}

-- ---- all parts in a row: the first refusal, or where the last one ended and the account
pub record Parts : Type 0 where
  pub answer : Answer
  pub next : ℕ
  pub account : Account

abbrev wholes : Result Parts
wholes = record { answer = λ r. r.answer; next = λ r. r.next }

abbrev stopped : Answer → ℕ → Parts
stopped w at = record { answer = w; next = at; account = zero_account }

abbrev held : ToldHead → ToldPositions → Parts
held h t = record { answer = t.answer; next = t.next; account = account_of h.values t.table }

abbrev after_head : List ℕ → ℕ → ToldHead → Parts
after_head l form h = pick (is_done h.answer) (held h (table_read l form h.count h.next)) (stopped h.answer h.next)

abbrev after_form : List ℕ → ToldNumber → Parts
after_form l n = pick (eqb n.value newest) (after_head l n.value (head_read_of l n.value n.next)) (stopped Unsound n.next)

abbrev pub parts : List ℕ → Parts
parts l = pick (is_done (number_at_of l 0).answer) (after_form l (number_at_of l 0)) (stopped (number_at_of l 0).answer (number_at_of l 0).next)

-- what is answered of where they ended, of the file's end and of the account
abbrev last_of : ℕ → ℕ → Account → Answer
last_of next end a = unless (eqb next end) (LeftOver next) (unless (sound_account a) Unsound Done)

abbrev answer_of : Parts → ℕ → Answer
answer_of r end = or_later r.answer (last_of r.next end r.account)

module _ (l : List ℕ) where
  abbrev form : ToldNumber
  form = number_at_of l 0

  abbrev behind_head : Answer
  behind_head = or_later (positions_in l).answer (last_of (positions_in l).next (length l) (file_account l))

  -- a refusal is the answer
  refused_is : (w : Answer) (later : Answer) → is_done w ≡ false → or_later w later ≡ w
  refused_is w later e = rw e

  head_by : (b : Bool) → is_done (head_in_of l).answer ≡ b
      → pick b behind_head (head_in_of l).answer ≡ answer_of (pick b (held (head_in_of l) (positions_in l)) (stopped (head_in_of l).answer (head_in_of l).next)) (length l)
  unfolding file_account
  head_by true e = refl
  head_by false e = sym (refused_is (head_in_of l).answer _ e)

  known_by : (a : Bool)
      → pick a (or_later (head_in_of l).answer behind_head) Unsound ≡ answer_of (pick a (after_head l form.value (head_in_of l)) (stopped Unsound form.next)) (length l)
  known_by true = head_by (is_done (head_in_of l).answer) refl
  known_by false = refl

  form_by : (a : Bool) → is_done form.answer ≡ a
      → pick a (unless (eqb form.value newest) Unsound (or_later (head_in_of l).answer behind_head)) form.answer ≡ answer_of (pick a (after_form l form) (stopped form.answer form.next)) (length l)
  form_by true e = known_by (eqb form.value newest)
  form_by false e = sym (refused_is form.answer _ e)

  pub answer_is : load_answer l ≡ answer_of (parts l) (length l)
  unfolding load_answer
  answer_is = form_by (is_done form.answer) refl

  -- read of the first p bytes
  parts_read : (p : ℕ) → Reads wholes l p 0 (parts l) (parts (take p l))
  parts_read p =
      let m = take p l in
      followed_by numbers wholes form (number_at_of m 0) (after_form l) (after_form m) (λ n. stopped n.answer n.next) (λ _. refl) (number_reads l p 0)
      (λ d. by_test wholes (eqb form.value newest) _ _ (stopped Unsound form.next) (stopped Unsound form.next)
      (followed_by heads wholes (head_in_of l) (head_read_of m form.value form.next) (λ h. held h (table_read l form.value h.count h.next)) (λ h. held h (table_read m form.value h.count h.next)) (λ h. stopped h.answer h.next) (λ _. refl) (head_reads l p form.value form.next)
      (λ e. formed tables wholes (held (head_in_of l)) (λ _. refl) (λ _. refl) _ _ (table_reads l p form.value (head_in_of l).count (head_in_of l).next)))
      (refuses wholes (stopped Unsound form.next) (stopped Unsound form.next) refl))

  account_by : (a b c : Bool) → is_done form.answer ≡ a → is_done (head_in_of l).answer ≡ c
      → (pick a (pick b (pick c (held (head_in_of l) (positions_in l)) (stopped (head_in_of l).answer (head_in_of l).next)) (stopped Unsound form.next)) (stopped form.answer form.next)).answer ≡ Done
      → (pick a (pick b (pick c (held (head_in_of l) (positions_in l)) (stopped (head_in_of l).answer (head_in_of l).next)) (stopped Unsound form.next)) (stopped form.answer form.next)).account ≡ file_account l
  unfolding file_account
  account_by true true true e f d = refl
  account_by true true false e f d = clash (is_done (head_in_of l).answer) (ap is_done d) f
  account_by true false c e f d = apart Unsound Done d (λ z. omega arith)
  account_by false b c e f d = clash (is_done form.answer) (ap is_done d) e

  account_is : (parts l).answer ≡ Done → (parts l).account ≡ file_account l
  account_is d = account_by (is_done form.answer) (eqb form.value newest) (is_done (head_in_of l).answer) refl refl d

refusal-told : (r : Parts) (end : ℕ) (w : Answer) → is_done w ≡ false → r.answer ≡ w → answer_of r end ≡ w
refusal-told r end w e q = let f : is_done r.answer ≡ false = ap is_done q ∙ e in simp f q

-- ---- a part of a file whose parts were read
module _ (l : List ℕ) (d : (parts l).answer ≡ Done) where
  abbrev end : ℕ
  end = (parts l).next

  pub end_inside : end ≤ length l
  end_inside = ((parts_read l 0).went d).inside (omega arith)

  -- all that was read, alone
  pub read-alone : load_answer (take end l) ≡ unless (sound_account (file_account l)) Unsound Done
  read-alone =
      let n : length (take end l) ≡ end = length-take-le end l end_inside in
      answer_is (take end l)
      ∙ ap (λ (r : Parts). answer_of r (length (take end l))) (((parts_read l end).went d).alone (omega arith))
      ∙ ap (λ (w : Answer). or_later w (last_of end (length (take end l)) (parts l).account)) d
      ∙ ap (λ (t : Bool). unless t (LeftOver end) (unless (sound_account (parts l).account) Unsound Done)) (eq-eqb end (length (take end l)) (sym n))
      ∙ ap (λ (a : Account). unless (sound_account a) Unsound Done) (account_is l d)

  -- less of it
  pub less_ends : (j : ℕ) → j < end → load_answer (take j l) ≡ EndsEarly j
  less_ends j h =
      answer_is (take j l)
      ∙ refusal-told (parts (take j l)) (length (take j l)) (EndsEarly (length (take j l))) refl (((parts_read l j).went d).cut (omega arith) h)
      ∙ ap EndsEarly (length-take-le j l (omega (arith, end_inside)))

-- "every proper prefix of a good file is 16", at its end
pub taken_ends : (l : List ℕ) → load_answer l ≡ Done → (j : ℕ) → j < length l → load_answer (take j l) ≡ EndsEarly j
taken_ends l e j h =
    let d : is_done (answer_of (parts l) (length l)) ≡ true = ap is_done (sym (answer_is l) ∙ e) in
    let a = passed_both (parts l).answer _ d in
    let b = passed (eqb (parts l).next (length l)) (LeftOver (parts l).next) _ refl a.1 in
    let n : (parts l).next ≡ length l = eqb-true (parts l).next (length l) b.0 in
    less_ends l (done_is (parts l).answer a.0) j (omega arith)

-- ---- what is answered, and why
data Way (l : List ℕ) : Type 0 where
  met : load_answer l ≡ (parts l).answer → Way l
  over : (parts l).answer ≡ Done → ((parts l).next ≡ length l → ⊥) → load_answer l ≡ LeftOver (parts l).next → Way l
  at_end : (t : Bool) → load_answer l ≡ unless t Unsound Done → Way l

way : (l : List ℕ) → Way l
way l = by-done (is_done (parts l).answer) refl
  where
    by_end : (t : Bool) → eqb (parts l).next (length l) ≡ t → (parts l).answer ≡ Done → load_answer l ≡ unless t (LeftOver (parts l).next) (unless (sound_account (parts l).account) Unsound Done) → Way l
    by_end true q d e = at_end (sound_account (parts l).account) e
    by_end false q d e = over d (eqb-false (parts l).next (length l) q) e

    by-done : (t : Bool) → is_done (parts l).answer ≡ t → Way l
    by-done true q =
        by_end (eqb (parts l).next (length l)) refl (done_is (parts l).answer q)
        (answer_is l ∙ ap (λ (t : Bool). pick t (last_of (parts l).next (length l) (parts l).account) (parts l).answer) q)
    by-done false q = met (answer_is l ∙ refusal-told (parts l) (length l) (parts l).answer q refl)

-- ---- the place of each
end-among : (l : List ℕ) (w : Answer) (p : ℕ) → Among l w → w ≡ EndsEarly p → p ≡ length l
end-among l w p (done f) e = apart Done (EndsEarly p) (sym f ∙ e) (λ z. omega arith)
end-among l w p (unsound f) e = apart Unsound (EndsEarly p) (sym f ∙ e) (λ z. omega arith)
end-among l w p (early f) e = ap place_of (sym e ∙ f)
end-among l w p (bad_at q f g h) e = apart (BadNumber q) (EndsEarly p) (sym f ∙ e) (λ z. omega arith)

number-among : (l : List ℕ) (w : Answer) (p : ℕ) → Among l w → w ≡ BadNumber p → (p < length l) × ((number_at_of l p).answer ≡ BadNumber p)
number-among l w p (done f) e = apart Done (BadNumber p) (sym f ∙ e) (λ z. omega arith)
number-among l w p (unsound f) e = apart Unsound (BadNumber p) (sym f ∙ e) (λ z. omega arith)
number-among l w p (early f) e = apart (EndsEarly (length l)) (BadNumber p) (sym f ∙ e) (λ z. omega arith)
number-among l w p (bad_at q f g h) e = let s : q ≡ p = ap place_of (sym f ∙ e) in subst (λ (q : ℕ). (q < length l) × ((number_at_of l q).answer ≡ BadNumber q)) s (g, h)

over-among : {A : Type 0} (l : List ℕ) (w : Answer) (p : ℕ) → Among l w → w ≡ LeftOver p → A
over-among l w p (done f) e = apart Done (LeftOver p) (sym f ∙ e) (λ z. omega arith)
over-among l w p (unsound f) e = apart Unsound (LeftOver p) (sym f ∙ e) (λ z. omega arith)
over-among l w p (early f) e = apart (EndsEarly (length l)) (LeftOver p) (sym f ∙ e) (λ z. omega arith)
over-among l w p (bad_at q f g h) e = apart (BadNumber q) (LeftOver p) (sym f ∙ e) (λ z. omega arith)

others-among : (l : List ℕ) (w : Answer) → Among l w → number_of w < 16 → place_of w ≡ 0
others-among l w (done f) h = ap place_of f
others-among l w (unsound f) h = ap place_of f
others-among l w (early f) h = absurd (omega (arith, ap number_of f))
others-among l w (bad_at q f g i) h = absurd (omega (arith, ap number_of f))

-- of bytes that were all read, an account that is sound or not
ended-apart : {A : Type 0} (t : Bool) (w : Answer) → unless t Unsound Done ≡ w → 16 ≤ number_of w → A
ended-apart true w e h = absurd (omega (arith, ap number_of e))
ended-apart false w e h = absurd (omega (arith, ap number_of e))

ended-none : (t : Bool) → place_of (unless t Unsound Done) ≡ 0
ended-none true = refl
ended-none false = refl

module _ (l : List ℕ) where
  abbrev parts_among : Among l (parts l).answer
  parts_among = (parts_read l 0).among

  end_by : (p : ℕ) → Way l → load_answer l ≡ EndsEarly p → p ≡ length l
  end_by p (met q) e = end-among l (parts l).answer p parts_among (sym q ∙ e)
  end_by p (over d n q) e = apart (LeftOver (parts l).next) (EndsEarly p) (sym q ∙ e) (λ z. omega arith)
  end_by p (at_end t q) e = ended-apart t (EndsEarly p) (sym q ∙ e) (omega arith)

  before-number : (p : ℕ) → (parts l).answer ≡ BadNumber p → p < length l → load_answer (take p l) ≡ EndsEarly p
  before-number p e h =
      answer_is (take p l)
      ∙ refusal-told (parts (take p l)) (length (take p l)) (EndsEarly (length (take p l))) refl ((parts_read l p).before e).1
      ∙ ap EndsEarly (length-take-le p l (omega arith))

  number_by : (p : ℕ) → Way l → load_answer l ≡ BadNumber p → (p < length l) × ((number_at_of l p).answer ≡ BadNumber p) × (load_answer (take p l) ≡ EndsEarly p)
  number_by p (met q) e = let a = number-among l (parts l).answer p parts_among (sym q ∙ e) in (a.0, a.1, before-number p (sym q ∙ e) a.0)
  number_by p (over d n q) e = apart (LeftOver (parts l).next) (BadNumber p) (sym q ∙ e) (λ z. omega arith)
  number_by p (at_end t q) e = ended-apart t (BadNumber p) (sym q ∙ e) (omega arith)

  abbrev From : ℕ → Type 0
  From p = (p < length l) × (load_answer (take p l) ≡ unless (sound_account (file_account l)) Unsound Done) × ((j : ℕ) → j < p → load_answer (take j l) ≡ EndsEarly j)

  over_by : (p : ℕ) → Way l → load_answer l ≡ LeftOver p → From p
  over_by p (met q) e = over-among l (parts l).answer p parts_among (sym q ∙ e)
  over_by p (over d n q) e =
      let s : (parts l).next ≡ p = ap place_of (sym q ∙ e) in
      subst From s (omega (arith, end_inside l d, n), read-alone l d, less_ends l d)
  over_by p (at_end t q) e = ended-apart t (LeftOver p) (sym q ∙ e) (omega arith)

  others_by : Way l → number_of (load_answer l) < 16 → place_of (load_answer l) ≡ 0
  others_by (met q) h = ap place_of q ∙ others-among l (parts l).answer parts_among (omega (arith, ap number_of q))
  others_by (over d n q) h = absurd (omega (arith, ap number_of q))
  others_by (at_end t q) h = ap place_of q ∙ ended-none t

pub places-told : (l : List ℕ) → Placed l
places-told l = let w = way l in record { end = λ p. end_by l p w; number = λ p. number_by l p w; over = λ p. over_by l p w; others = others_by l w }
