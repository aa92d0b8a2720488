-- Which returns win and which lose, and how many a series may have. Definitions only.
use Rattle.std.specs.Prelude.{Bool, ℕ, Float}
use Rattle.std.specs.Float.Ieee.{lt}
use Rattle.metrics.specs.Double.{zero}

-- "4,096 returns in one set of figures"
abbrev pub most_returns : ℕ
most_returns = 4096

-- `r > 0.0`
abbrev pub wins : Float → Bool
wins r = lt zero r

-- `r < 0.0`
abbrev pub loses : Float → Bool
loses r = lt r zero
