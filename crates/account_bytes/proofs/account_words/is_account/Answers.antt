-- By the length, then by both tests.
use mathlib.Core.Path.{◌≡◌, sym, ◌∙◌}
use mathlib.Core.Bool.{true, false}
use borrow.Author.Tests.{eq-eqb, ne_eqb}
use Rattle.account_bytes.specs.Account.{hold_account}
use Rattle.account_bytes.proofs.account_words.is_account.Goals as goal
use Rattle.account_bytes.proofs.account_words.is_account.Goals.{then-bytes-eq-ACCOUNT_BYTES, else-bytes-eq-ACCOUNT_BYTES}

clash : {A : Type 0} → true ≡ false → A
clash e = cc

pub returns-then-are_settings : goal.returns-then-are_settings
unfolding hold_account
returns-then-are_settings c =
    elim c.if-bytes-eq-ACCOUNT_BYTES.branch [
      | then-bytes-eq-ACCOUNT_BYTES w ↦
          simp (eq-eqb _ _ w.if-bytes-eq-ACCOUNT_BYTES.true, sym w.are_settings.ensures ∙ sym w.value-is ∙ c.if-are_settings.true, c.spare_counters.ensures)
      | else-bytes-eq-ACCOUNT_BYTES w ↦ clash (sym c.if-are_settings.true ∙ w.value-is ∙ ne_eqb _ _ w.if-bytes-eq-ACCOUNT_BYTES.false)
    ]

pub returns-else-are_settings : goal.returns-else-are_settings
unfolding hold_account
returns-else-are_settings c =
    elim c.if-bytes-eq-ACCOUNT_BYTES.branch [
      | then-bytes-eq-ACCOUNT_BYTES w ↦
          simp (eq-eqb _ _ w.if-bytes-eq-ACCOUNT_BYTES.true, sym w.are_settings.ensures ∙ sym w.value-is ∙ c.if-are_settings.false, c.if-are_settings.false)
      | else-bytes-eq-ACCOUNT_BYTES w ↦ simp (ne_eqb _ _ w.if-bytes-eq-ACCOUNT_BYTES.false, c.if-are_settings.false)
    ]
