-- The order of the columns, then each position.
use mathlib.Core.Path.{◌∙◌, sym}
use Rattle.account.specs.Account.{sound_columns}
use Rattle.account.proofs.Columns.{ordered-small}
use Rattle.account.proofs.soundness.sound_columns.Goals as goal

pub sound_positions-requires : goal.sound_positions-requires
sound_positions-requires c = ordered-small _ _ (sym c.is_ordered.ensures ∙ c.if-is_ordered.true)

pub returns-then-is_ordered : goal.returns-then-is_ordered
unfolding sound_columns
returns-then-is_ordered c =
    let t = sym c.is_ordered.ensures ∙ c.if-is_ordered.true in
    rw t c.sound_positions.ensures

pub returns-else-is_ordered : goal.returns-else-is_ordered
unfolding sound_columns
returns-else-is_ordered c =
    let t = sym c.is_ordered.ensures ∙ c.if-is_ordered.false in
    rw t c.if-is_ordered.false
