-- Each field from its own number.
use Rattle.account_bytes.proofs.Runs.{kept}
use Rattle.saved_form.specs.Values.{series_of}
use Rattle.saved_form.proofs.values.series_of.Goals as goal

pub returns : goal.returns
unfolding series_of
returns c = simp (kept (record { sfits = c.unfolded.type_inv }) c.unfolded.ensures)
