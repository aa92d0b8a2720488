-- How many orders a trade cap admits of a plan of 64 places.
use Rattle.std.specs.Prelude.{ℕ}
use Rattle.table.specs.Inner.Places.{shorter}
use Rattle.account.specs.declared.settings.Settings.{Settings}
use Rattle.account.specs.declared.settings.TradeCap.{TradeCap}
use Rattle.account.specs.declared.settings.TradeCap.TheVariants.{Absent, AtMost}

abbrev pub most_in : TradeCap → ℕ
most_in Absent = 64
most_in (AtMost cap) = shorter cap 64

unfoldable pub most_of : Settings → ℕ
most_of s = most_in s.max_trades_per_rebalance
