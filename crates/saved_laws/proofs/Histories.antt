-- "Saving and loading between calls changes no later answer in demands 2 and 3, that sign apart.": with the file between them.
use Prim.Native.Nat.{◌≤◌}
use mathlib.Core.Path.{◌≡◌, refl, ap, ◌∙◌}
use mathlib.Core.Bool.{true}
use mathlib.Core.List.{List, [], ◌∷◌}
use Rattle.account.specs.declared.account.Account.{Account}
use Rattle.account.specs.Account.{sound_account}
use Rattle.account_bytes.proofs.AccountKept.{KeptAccount}
use Rattle.zero_laws.specs.Zeros.{plain_account, Alike}
use Rattle.zero_laws.specs.Told.{SameTold}
use Rattle.zero_laws.specs.History.{Reply, Step, call, reload, reply_to, left_by_of, replies, left, unsaved}
use Rattle.zero_laws.proofs.Histories.{later_answers-same, left-same}
use Rattle.zero_laws.proofs.Queries.{same-told}
use Rattle.saved_laws.specs.History.{filed_replies, filed_left}
use Rattle.saved_laws.proofs.Later.{loaded_is}

-- Wherever the account is saved it is sound, as an account that was opened stays; and its fields fit their widths, as those of every account in a program do.
abbrev pub Savable : List Step → Account → Type 0
Savable [] a = 0 ≤ 0
Savable (call c ∷ h) a = Savable h (left_by_of c a)
Savable (reload ∷ h) a = (sound_account a ≡ true) × KeptAccount a × Savable h (plain_account a)

replies-filed : (h : List Step) (a : Account) → Savable h a → filed_replies h a ≡ replies h a
unfolding filed_replies replies
replies-filed [] a s = refl
replies-filed (call c ∷ h) a s = ap (λ (rs : List Reply). reply_to c a ∷ rs) (replies-filed h (left_by_of c a) s)
replies-filed (reload ∷ h) a s = ap (filed_replies h) (loaded_is a s.0 s.1) ∙ replies-filed h (plain_account a) s.2

left-filed : (h : List Step) (a : Account) → Savable h a → filed_left h a ≡ left h a
unfolding filed_left left
left-filed [] a s = refl
left-filed (call c ∷ h) a s = left-filed h (left_by_of c a) s
left-filed (reload ∷ h) a s = ap (filed_left h) (loaded_is a s.0 s.1) ∙ left-filed h (plain_account a) s.2

module _ (h : List Step) (a : Account) (s : Savable h a) where
  -- every answer, record and lent place is that of the calls never saved
  pub files_change_no_answer : filed_replies h a ≡ replies (unsaved h) a
  files_change_no_answer = replies-filed h a s ∙ later_answers-same h a

  pub files_leave_alike : Alike (filed_left h a) (left (unsaved h) a)
  files_leave_alike = ap plain_account (left-filed h a s) ∙ left-same h a

  -- and so whatever is then asked of it
  pub files_change_no_query : SameTold (filed_left h a) (left (unsaved h) a)
  files_change_no_query = same-told (filed_left h a) (left (unsaved h) a) files_leave_alike
