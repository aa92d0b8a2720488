-- What is loaded is the account that was saved, that sign apart, and the sign changes no call.
use mathlib.Core.Path.{◌≡◌, sym, ap, ◌∙◌}
use mathlib.Core.Bool.{true}
use mathlib.Core.List.{List, ◌∷◌}
use Rattle.account.specs.declared.account.Account.{Account}
use Rattle.account.specs.declared.change.Changed.{Changed}
use Rattle.account.specs.Account.{sound_account}
use Rattle.account_bytes.proofs.AccountKept.{KeptAccount}
use Rattle.saved_form.specs.Writing.{file_of}
use Rattle.loading.specs.Loading.{loaded}
use Rattle.zero_laws.specs.Zeros.{plain_account, Alike}
use Rattle.zero_laws.specs.History.{Step, reload, replies, left, unsaved}
use Rattle.zero_laws.proofs.Queries.{same-told}
use Rattle.zero_laws.proofs.Histories.{later_answers-same, left-same}
use Rattle.saved_laws.specs.Statement.{Later}
use Rattle.saved_laws.proofs.ReadsBack.{reads_back}

module _ (a : Account) (e : sound_account a ≡ true) (k : KeptAccount a) where
  pub loaded_is : (loaded (file_of a)).account ≡ plain_account a
  loaded_is = ap (λ (c : Changed). c.account) (reads_back a e k)

  replies-after : (h : List Step) → replies h (loaded (file_of a)).account ≡ replies h a
  unfolding replies unsaved
  replies-after h = ap (replies h) loaded_is ∙ later_answers-same (reload ∷ h) a ∙ sym (later_answers-same h a)

  left_after : (h : List Step) → Alike (left h (loaded (file_of a)).account) (left h a)
  unfolding left unsaved
  left_after h = ap (λ (x : Account). plain_account (left h x)) loaded_is ∙ left-same (reload ∷ h) a ∙ sym (left-same h a)

  pub later : Later a
  later = record {
    replies-same = replies-after;
    left_alike = left_after;
    told_same = λ h. same-told (left h (loaded (file_of a)).account) (left h a) (left_after h);
  }
