-- What loading answers, refusal by refusal, of a file whose parts were read.
use Rattle.std.specs.Prelude.{Result, Ok, Err}
use mathlib.Core.Path.{◌≡◌, refl, sym, ◌∙◌, ap}
use Prim.Native.Nat.{ℕ}
use mathlib.Core.Bool.{Bool, true, false}
use mathlib.Core.List.{List}
use lib.Dec.{eqb}
use lib.ListN.{length}
use borrow.Author.Tests.{eq-eqb, ne_eqb}
use Rattle.answer.specs.Choice.{pick}
use Rattle.answer.specs.Numbers.{is_done, checked}
use Rattle.answer.specs.declared.Answer.{Answer}
use Rattle.answer.specs.declared.Answer.TheVariants.{Done, Unsound, LeftOver}
use Rattle.account.specs.declared.account.Account.{Account}
use Rattle.account.specs.Account.{sound_account}
use Rattle.account.specs.Calls.{answered, zero_account}
use Rattle.account.specs.Inner.Answers.{unless_unsound}
use Rattle.seven_bit.specs.declared.read.Fault.{Fault}
use Rattle.seven_bit.specs.declared.read.Number.{Number}
use Rattle.seven_bit.specs.Placed.{ToldNumber, number_at_of, number_or_fault}
use Rattle.seven_bit.proofs.Faults.{ok_of, err_of}
use Rattle.saved_form.specs.Values.{account_of}
use Rattle.loading.specs.declared.head.Head.{Head}
use Rattle.loading.specs.declared.positions.Positions.{Positions}
use Rattle.loading.specs.Reading.{ToldHead, head_read_of, head_or_fault, head_in_of, ToldPositions, table_read, positions_or_fault, positions_in}
use Rattle.loading.specs.Loading.{file_account, load_answer, account_read, loaded}

-- a refusal is told as it is
refused_as : (l : List ℕ) (w : Answer) → is_done w ≡ false → w ≡ load_answer l → Err w ≡ account_read l
refused_as l w n e =
    let f : is_done (load_answer l) ≡ false = ap is_done (sym e) ∙ n in
    simp f (ap Err e)

-- ---- the form
module _ (l : List ℕ) where
  abbrev form_told : ToldNumber
  form_told = number_at_of l 0

  abbrev head_told : ToldHead
  head_told = head_in_of l

  abbrev positions_told : ToldPositions
  positions_told = positions_in l

  pub form_at : {r : Result Number Fault} {b : List ℕ} {p : ℕ} → b ≡ l → p ≡ 0 → r ≡ number_or_fault (number_at_of b p) → r ≡ number_or_fault form_told
  form_at b p e = rw (b, p) at e

  pub form_refused : (f : Fault) → Err f ≡ number_or_fault form_told → Err f.answer ≡ account_read l
  unfolding load_answer
  form_refused f e =
      let o = err_of form_told.answer form_told.next (record { value = form_told.value; next = form_told.next }) f e in
      let a = ap (λ (f : Fault). f.answer) o.1 in
      refused_as l f.answer (ap is_done a ∙ o.0) (a ∙ simp o.0)

  module _ (form : Number) (e : Ok form ≡ number_or_fault form_told) where
    form_is : (is_done form_told.answer ≡ true) × (form ≡ record { value = form_told.value; next = form_told.next })
    form_is = ok_of form_told.answer form_told.next (record { value = form_told.value; next = form_told.next }) form e

    pub form_moved : {b : List ℕ} {p q : ℕ} → b ≡ l → p ≡ 0 → q ≡ (number_at_of b p).next → q ≡ form.next
    form_moved b p e = rw (b, p) at e ∙ sym (ap (λ (n : Number). n.next) form_is.1)

    form_value : form_told.value ≡ form.value
    form_value = sym (ap (λ (n : Number). n.value) form_is.1)

    pub form_unknown : (form.value ≡ 1 → ⊥) → Err Unsound ≡ account_read l
    unfolding load_answer
    form_unknown n = refused_as l Unsound refl (sym (simp (form_is.0, ne_eqb form_told.value 1 (λ z. n (sym form_value ∙ z)))))

    -- the head is that of the file
    pub head_at : {r : Result Head Fault} {b : List ℕ} {p : ℕ} → b ≡ l → p ≡ form.next → r ≡ head_or_fault (head_read_of b form.value p) → r ≡ head_or_fault head_told
    head_at b p e = rw (b, p) at e ∙ ap (λ (n : Number). head_or_fault (head_read_of l n.value n.next)) form_is.1

    -- ---- the head
    module _ (known : form.value ≡ 1) where
      form-known : eqb form_told.value 1 ≡ true
      form-known = eq-eqb form_told.value 1 (form_value ∙ known)

      pub head_refused : (f : Fault) → Err f ≡ head_or_fault head_told → Err f.answer ≡ account_read l
      unfolding load_answer
      head_refused f h =
          let o = err_of head_told.answer head_told.next (record { next = head_told.next; count = head_told.count; values = head_told.values }) f h in
          let a = ap (λ (f : Fault). f.answer) o.1 in
          refused_as l f.answer (ap is_done a ∙ o.0) (a ∙ sym (simp (form_is.0, form-known, o.0)))

      module _ (head : Head) (h : Ok head ≡ head_or_fault head_told) where
        head_is : (is_done head_told.answer ≡ true) × (head ≡ record { next = head_told.next; count = head_told.count; values = head_told.values })
        head_is = ok_of head_told.answer head_told.next (record { next = head_told.next; count = head_told.count; values = head_told.values }) head h

        pub head_moved : {b : List ℕ} {p q : ℕ} → b ≡ l → p ≡ form.next → q ≡ (head_read_of b form.value p).next → q ≡ head.next
        head_moved b p e =
            rw (b, p) at e
            ∙ ap (λ (n : Number). (head_read_of l n.value n.next).next) form_is.1
            ∙ sym (ap (λ (h : Head). h.next) head_is.1)

        -- the positions are those of the file
        pub positions_at : {r : Result Positions Fault} {b : List ℕ} {p : ℕ} → b ≡ l → p ≡ head.next → r ≡ positions_or_fault (table_read b form.value head.count p) → r ≡ positions_or_fault positions_told
        positions_at b p e =
            rw (b, p) at e
            ∙ ap (λ (n : Number). positions_or_fault (table_read l n.value head.count head.next)) form_is.1
            ∙ ap (λ (h : Head). positions_or_fault (table_read l form_told.value h.count h.next)) head_is.1

        -- ---- the positions
        pub positions_refused : (f : Fault) → Err f ≡ positions_or_fault positions_told → Err f.answer ≡ account_read l
        unfolding load_answer
        positions_refused f p =
            let o = err_of positions_told.answer positions_told.next (record { next = positions_told.next; table = positions_told.table }) f p in
            let a = ap (λ (f : Fault). f.answer) o.1 in
            refused_as l f.answer (ap is_done a ∙ o.0) (a ∙ sym (simp (form_is.0, form-known, head_is.0, o.0)))

        module _ (positions : Positions) (p : Ok positions ≡ positions_or_fault positions_told) where
          positions_are : (is_done positions_told.answer ≡ true) × (positions ≡ record { next = positions_told.next; table = positions_told.table })
          positions_are = ok_of positions_told.answer positions_told.next (record { next = positions_told.next; table = positions_told.table }) positions p

          positions_next : positions_told.next ≡ positions.next
          positions_next = sym (ap (λ (q : Positions). q.next) positions_are.1)

          pub positions_moved : {b : List ℕ} {p q : ℕ} → b ≡ l → p ≡ head.next → q ≡ (table_read b form.value head.count p).next → q ≡ positions.next
          positions_moved b p e =
              rw (b, p) at e
              ∙ ap (λ (n : Number). (table_read l n.value head.count head.next).next) form_is.1
              ∙ ap (λ (h : Head). (table_read l form_told.value h.count h.next).next) head_is.1
              ∙ positions_next

          pub left_over : (place : ℕ) → place ≡ positions.next → (place ≡ length l → ⊥) → Err (LeftOver place) ≡ account_read l
          unfolding load_answer
          left_over place q n =
              let e : positions_told.next ≡ place = positions_next ∙ sym q in
              refused_as l (LeftOver place) refl (sym (simp (form_is.0, form-known, head_is.0, positions_are.0, ne_eqb positions_told.next (length l) (λ z. n (sym e ∙ z))) (ap LeftOver e)))

          -- the account is that of the file
          pub account_here : account_of head.values positions.table ≡ file_account l
          unfolding file_account
          account_here = ap (λ (h : Head). account_of h.values positions.table) head_is.1 ∙ ap (λ (q : Positions). account_of head_told.values q.table) positions_are.1

          -- ---- what is left over, and soundness
          module _ (place : ℕ) (q : place ≡ positions.next) (ended : place ≡ length l) (account : Account) (held : account ≡ account_of head.values positions.table) where
            at_end : eqb positions_told.next (length l) ≡ true
            at_end = eq-eqb positions_told.next (length l) (positions_next ∙ sym q ∙ ended)

            held_here : account ≡ file_account l
            held_here = held ∙ account_here

            judged : load_answer l ≡ unless_unsound account Done
            unfolding load_answer
            judged = simp (form_is.0, form-known, head_is.0, positions_are.0, at_end) (sym (ap (λ (a : Account). unless_unsound a Done) held_here))

            sound_by : (t : Bool) → sound_account account ≡ t → (w : Answer) → Err w ≡ checked (pick t Done Unsound) → Err w ≡ account_read l
            sound_by true s w c = cc
            sound_by false s w c = let u : w ≡ Unsound = cc in refused_as l w (ap is_done u) (u ∙ sym (judged ∙ simp s))

            pub not_sound : (w : Answer) → Err w ≡ checked (unless_unsound account Done) → Err w ≡ account_read l
            not_sound w c = sound_by (sound_account account) refl w c

            whole_by : (t : Bool) → sound_account account ≡ t → Ok tt ≡ checked (pick t Done Unsound) → Ok account ≡ account_read l
            whole_by true s c =
                let j : load_answer l ≡ Done = judged ∙ simp s in
                let d : is_done (load_answer l) ≡ true = ap is_done j in
                let r : account_read l ≡ Ok (file_account l) = simp d in
                ap (λ (a : Account). Ok a) held_here ∙ sym r
            whole_by false s c = cc

            pub all-good : Ok tt ≡ checked (unless_unsound account Done) → Ok account ≡ account_read l
            all-good c = whole_by (sound_account account) refl c

-- ---- the public answer: all zeros where the file is refused
module _ (l : List ℕ) where
  good_by : (t : Bool) (w : Answer) (a b : Account) → Ok a ≡ pick t (Ok b) (Err w) → answered Done a ≡ pick t (answered Done b) (answered w zero_account)
  good_by true w a b e = let s : a ≡ b = cc in ap (answered Done) s
  good_by false w a b e = cc

  pub good : (a : Account) → Ok a ≡ account_read l → answered Done a ≡ loaded l
  unfolding loaded
  good a e = good_by (is_done (load_answer l)) (load_answer l) a (file_account l) e

  bad_by : (t : Bool) (w v : Answer) (b : Account) → Err v ≡ pick t (Ok b) (Err w) → answered v zero_account ≡ pick t (answered Done b) (answered w zero_account)
  bad_by true w v b e = cc
  bad_by false w v b e = let s : v ≡ w = cc in ap (λ (w : Answer). answered w zero_account) s

  pub bad : (w : Answer) → Err w ≡ account_read l → answered w zero_account ≡ loaded l
  unfolding loaded
  bad w e = bad_by (is_done (load_answer l)) (load_answer l) w (file_account l) e
