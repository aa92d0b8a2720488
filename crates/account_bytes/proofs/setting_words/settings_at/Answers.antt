-- Each field from its own word.
use Rattle.account_bytes.specs.Settings.{settings_at}
use Rattle.account_bytes.proofs.Runs.{kept}
use Rattle.account_bytes.proofs.setting_words.settings_at.Goals as goal

pub returns : goal.returns
unfolding settings_at
returns c =
    simp (
      c.costs_at.ensures,
      kept (record { sfits = c.value_at.type_inv }) c.value_at.ensures,
      kept (record { sfits = c.value_at-2.type_inv }) c.value_at-2.ensures,
      kept (record { sfits = c.value_at-3.type_inv }) c.value_at-3.ensures,
      c.value_at-4.ensures,
      c.cap_of.ensures,
      c.word_at-mark.ensures,
      c.word_at-count.ensures,
      kept (record { sfits = c.value_at-5.type_inv }) c.value_at-5.ensures,
      c.word_at.ensures,
      c.word_at-2.ensures,
    )
