-- Settings where both tests are passed.
use mathlib.Core.Path.{sym, ◌∙◌}
use borrow.Author.Tests.{eq-eqb, ne_eqb}
use Rattle.account_bytes.specs.Settings.{hold_settings, read_settings}
use Rattle.account_bytes.proofs.setting_words.read_settings.Goals as goal
use Rattle.account_bytes.proofs.setting_words.read_settings.Goals.{else-bytes-eq-SETTINGS_BYTES-via-then-bytes-eq-SETTINGS_BYTES+else-are_settings, else-bytes-eq-SETTINGS_BYTES-via-else-bytes-eq-SETTINGS_BYTES}

pub returns-then-are_settings : goal.returns-then-are_settings
unfolding read_settings hold_settings
returns-then-are_settings c =
    simp (eq-eqb _ _ c.if-bytes-eq-SETTINGS_BYTES.true, sym c.are_settings.ensures ∙ c.if-are_settings.true, c.settings_at.ensures)

pub returns-else-bytes-eq-SETTINGS_BYTES : goal.returns-else-bytes-eq-SETTINGS_BYTES
unfolding read_settings hold_settings
returns-else-bytes-eq-SETTINGS_BYTES c =
    elim c.else-bytes-eq-SETTINGS_BYTES.branch [
      | else-bytes-eq-SETTINGS_BYTES-via-then-bytes-eq-SETTINGS_BYTES+else-are_settings w ↦
          simp (eq-eqb _ _ w.if-bytes-eq-SETTINGS_BYTES.true, sym w.are_settings.ensures ∙ w.if-are_settings.false)
      | else-bytes-eq-SETTINGS_BYTES-via-else-bytes-eq-SETTINGS_BYTES w ↦ simp (ne_eqb _ _ w.if-bytes-eq-SETTINGS_BYTES.false)
    ]
