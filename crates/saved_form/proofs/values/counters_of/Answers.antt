-- Each field from its own number.
use Rattle.account_bytes.proofs.Runs.{kept}
use Rattle.saved_form.specs.Values.{counters_of}
use Rattle.saved_form.proofs.values.counters_of.Goals as goal

pub returns : goal.returns
unfolding counters_of
returns c =
    simp (
      kept (record { sfits = c.unfolded.type_inv }) c.unfolded.ensures,
      kept (record { sfits = c.unfolded-2.type_inv }) c.unfolded-2.ensures,
    )
