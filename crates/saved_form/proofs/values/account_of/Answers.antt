-- Cash from the first number, and each other part from its own function.
use Rattle.account_bytes.proofs.Runs.{kept}
use Rattle.saved_form.specs.Values.{account_of}
use Rattle.saved_form.proofs.values.account_of.Goals as goal

pub returns : goal.returns
unfolding account_of
returns c =
    simp (
      kept (record { sfits = c.unfolded.type_inv }) c.unfolded.ensures,
      c.settings_of.ensures,
      c.counters_of.ensures,
      c.series_of.ensures,
    )
