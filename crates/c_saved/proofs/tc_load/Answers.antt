-- What loading answers, written into bytes of an account's length where it is done.
use mathlib.Core.Path.{sym, ◌∙◌}
use Rattle.c_saved.proofs.Filing as F
use Rattle.c_saved.proofs.tc_load.Goals as goal

pub returns-then-account-ne-ACCOUNT_BYTES : goal.returns-then-account-ne-ACCOUNT_BYTES
returns-then-account-ne-ACCOUNT_BYTES c = F.load_length _ _ _ c.number.ensures c.if-account-ne-ACCOUNT_BYTES.true

pub returns-then-not-is_done : goal.returns-then-not-is_done
returns-then-not-is_done c =
    F.load_refused _ _ c.if-account-ne-ACCOUNT_BYTES.false _ c.load-c.ensures _ (sym c.is_done.ensures ∙ c.if-not-is_done.true) c.word.ensures

pub returns : goal.returns
returns c =
    F.load_done _ _ c.if-account-ne-ACCOUNT_BYTES.false _ c.load-c.ensures _ _ (sym c.is_done.ensures ∙ c.if-not-is_done.false) c.word-2.ensures c.write_account.ensures
