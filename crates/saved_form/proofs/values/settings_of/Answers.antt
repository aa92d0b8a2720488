-- Each field from its own number.
use Rattle.account_bytes.proofs.Runs.{kept}
use Rattle.saved_form.specs.Values.{settings_of}
use Rattle.saved_form.proofs.values.settings_of.Goals as goal

pub returns : goal.returns
unfolding settings_of
returns c =
    simp (
      c.float.ensures,
      c.float-2.ensures,
      kept (record { sfits = c.unfolded.type_inv }) c.unfolded.ensures,
      kept (record { sfits = c.unfolded-2.type_inv }) c.unfolded-2.ensures,
      kept (record { sfits = c.unfolded-3.type_inv }) c.unfolded-3.ensures,
      kept (record { sfits = c.unfolded-4.type_inv }) c.unfolded-4.ensures,
      kept (record { sfits = c.unfolded-5.type_inv }) c.unfolded-5.ensures,
      c.float-3.ensures,
      c.cap_of.ensures,
      kept (record { sfits = c.unfolded-6.type_inv }) c.unfolded-6.ensures,
    )
