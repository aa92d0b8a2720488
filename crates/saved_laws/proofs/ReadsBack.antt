-- The file of a sound account is read back, zeros' signs apart, and every proper part of it from its start ends early.
use mathlib.Core.Path.{◌≡◌, refl, sym, ◌∙◌, ap}
use Prim.Native.Nat.{ℕ, ◌+◌, ◌<◌}
use native.Mathlib.Omega.{arith}
use mathlib.Core.Bool.{true}
use mathlib.Core.List.{List, [], ◌++◌, append-nil}
use lib.Dec.{eqb}
use lib.ListN.{length, take, drop, length-append}
use borrow.Author.Tests.{eq-eqb}
use Rattle.answer.specs.Numbers.{unless, or_later}
use Rattle.answer.specs.declared.Answer.{Answer}
use Rattle.answer.specs.declared.Answer.TheVariants.{Done, Unsound, EndsEarly, LeftOver}
use Rattle.account.specs.declared.account.Account.{Account}
use Rattle.account.specs.Account.{sound_account}
use Rattle.account.specs.Calls.{answered}
use Rattle.account_bytes.proofs.AccountKept.{KeptAccount}
use Rattle.seven_bit.specs.Placed.{ToldNumber, number_at_of}
use Rattle.seven_bit.specs.Groups.{groups}
use Rattle.saved_form.specs.Fields.{newest}
use Rattle.saved_form.specs.Values.{scalars_of, head_values, account_of}
use Rattle.saved_form.specs.Writing.{file_of}
use Rattle.loading.specs.Reading.{ToldHead, ToldPositions, head_in_of, positions_in}
use Rattle.loading.specs.Loading.{file_account, load_answer, loaded}
use Rattle.zero_laws.specs.Zeros.{plain_account}
use Rattle.saved_laws.proofs.Places.{after, was}
use Rattle.zero_laws.proofs.Sound.{plain-sound}
use Rattle.saved_laws.proofs.Values.{head_back}
use Rattle.saved_laws.proofs.Files.{head_file, held_file, head_to, form_in, head_in, positions_in_lem}
use Rattle.saved_laws.proofs.PlacesTold.{taken_ends}

-- ---- the answer by the parts of a file
abbrev pub judgement : ToldNumber → ToldHead → ToldPositions → ℕ → Account → Answer
judgement n h p end a =
    or_later n.answer
    (unless (eqb n.value newest) Unsound
    (or_later h.answer
    (or_later p.answer
    (unless (eqb p.next end) (LeftOver p.next)
    (unless (sound_account a) Unsound Done)))))

pub by_parts : (l : List ℕ) → load_answer l ≡ judgement (number_at_of l 0) (head_in_of l) (positions_in l) (length l) (file_account l)
unfolding load_answer
by_parts l = refl

all_done : (next : ℕ) (h : ToldHead) (p : ToldPositions) (end : ℕ) (a : Account) → h.answer ≡ Done → p.answer ≡ Done → p.next ≡ end → sound_account a ≡ true → judgement (was newest next) h p end a ≡ Done
all_done next h p end a d e n s = simp (d, e, eq-eqb p.next end n, s)

-- the account that is loaded where the answer is Done
pub loaded-done : (l : List ℕ) → load_answer l ≡ Done → loaded l ≡ answered Done (file_account l)
unfolding loaded
loaded-done l e = rw e

-- a file by its account: zeros written with their positive sign
module _ (a : Account) (e : sound_account a ≡ true) (k : KeptAccount a) where
  abbrev after_form : ℕ
  after_form = 0 + length (groups newest)

  abbrev after_head : ℕ
  after_head = after_form + length (head_file a)

  abbrev positions_to : ToldPositions
  positions_to = record { answer = Done; next = after_head + length (held_file a); table = a.positions }

  -- ---- the whole file
  module _ (l : List ℕ) (q : l ≡ groups newest ++ (head_file a ++ held_file a)) where
    form-read : number_at_of l 0 ≡ was newest after_form
    form-read = form_in a e k l (head_file a ++ held_file a) q

    behind-form : drop after_form l ≡ head_file a ++ held_file a
    behind-form = after l (groups newest) (head_file a ++ held_file a) 0 q

    head_read : head_in_of l ≡ head_to a after_head
    head_read = head_in a e k l after_form form-read (held_file a) behind-form

    positions_read_lem : positions_in l ≡ positions_to
    positions_read_lem = positions_in_lem a e k l after_form form-read after_head head_read [] (after l (head_file a) (held_file a) after_form behind-form ∙ sym (append-nil (held_file a)))

    account-read : file_account l ≡ plain_account a
    unfolding file_account
    account-read =
        ap (λ (h : ToldHead). account_of h.values (positions_in l).table) head_read
        ∙ ap (λ (p : ToldPositions). account_of (head_values (scalars_of a)) p.table) positions_read_lem
        ∙ head_back a k

    ends_there : (positions_in l).next ≡ length l
    ends_there =
        ap (λ (p : ToldPositions). p.next) positions_read_lem
        ∙ omega (arith, ap length q, length-append (groups newest) (head_file a ++ held_file a), length-append (head_file a) (held_file a))

    answer-done : load_answer l ≡ Done
    answer-done =
        by_parts l
        ∙ ap (λ (n : ToldNumber). judgement n (head_in_of l) (positions_in l) (length l) (file_account l)) form-read
        ∙ all_done after_form (head_in_of l) (positions_in l) (length l) (file_account l) (ap (λ (h : ToldHead). h.answer) head_read) (ap (λ (p : ToldPositions). p.answer) positions_read_lem)
        ends_there (ap sound_account account-read ∙ plain-sound a ∙ e)

  pub file_account_lem : file_account (file_of a) ≡ plain_account a
  unfolding file_of
  file_account_lem = account-read (file_of a) refl

  pub file_done : load_answer (file_of a) ≡ Done
  unfolding file_of
  file_done = answer-done (file_of a) refl

  -- "reading what was written gives the account back", zeros' signs apart
  pub reads_back : loaded (file_of a) ≡ answered Done (plain_account a)
  reads_back = loaded-done (file_of a) file_done ∙ ap (answered Done) file_account_lem

  -- "every proper prefix of a good file is 16"
  pub ends-early : (j : ℕ) → j < length (file_of a) → load_answer (take j (file_of a)) ≡ EndsEarly j
  ends-early j h = taken_ends (file_of a) file_done j h
