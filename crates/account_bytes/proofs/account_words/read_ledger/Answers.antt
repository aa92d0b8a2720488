-- Each part from its own words.
use Rattle.account_bytes.specs.Account.{table_from, account_of}
use Rattle.account_bytes.proofs.Runs.{kept}
use Rattle.account_bytes.proofs.account_words.read_ledger.Goals as goal

pub returns : goal.returns
unfolding table_from account_of
returns c =
    simp (
      kept (record { sfits = c.value_at.type_inv }) c.value_at.ensures,
      c.settings_at.ensures,
      c.counters_of.ensures,
      c.series_of.ensures,
      c.word_at.ensures,
    )
