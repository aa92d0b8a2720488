-- The doubles that the figures start from, and the size of one. Definitions only.
use Rattle.std.specs.Prelude.{false, Float}
use Rattle.std.specs.Float.{nan, inf, fin}
pub use Rattle.doubles.specs.Doubles.{zero, one}

-- `f64::INFINITY`
abbrev pub infinity : Float
infinity = inf false

-- `f64::abs`: the sign is cleared.
unfoldable pub absolute : Float → Float
absolute nan = nan
absolute (inf s) = inf false
absolute (fin s m e) = fin false m e
