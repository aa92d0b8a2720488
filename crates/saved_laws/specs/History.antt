-- "Saving and loading between calls": a history in which the account is written to a file and read from it. Definitions only.
use Rattle.std.specs.Prelude.{List, [], ◌∷◌}
use Rattle.account.specs.declared.account.Account.{Account}
use Rattle.saved_form.specs.Writing.{file_of}
use Rattle.loading.specs.Loading.{loaded}
use Rattle.zero_laws.specs.History.{Reply, Step, call, reload, reply_to, left_by_of}

abbrev pub reloaded : Account → Account
reloaded a = (loaded (file_of a)).account

-- its replies, and the account that it leaves
unfoldable pub filed_replies : List Step → Account → List Reply
filed_replies [] a = []
filed_replies (call c ∷ h) a = reply_to c a ∷ filed_replies h (left_by_of c a)
filed_replies (reload ∷ h) a = filed_replies h (reloaded a)

unfoldable pub filed_left : List Step → Account → Account
filed_left [] a = a
filed_left (call c ∷ h) a = filed_left h (left_by_of c a)
filed_left (reload ∷ h) a = filed_left h (reloaded a)
