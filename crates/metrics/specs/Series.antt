-- Each figure of a whole series as its own fold, filter or count, as the Rust's `compute_metrics` takes it. Definitions only.
use Rattle.std.specs.Prelude.{Bool, cond, ℕ, length, Float}
use mathlib.Core.List.{List, [], ◌∷◌, foldl}
use Rattle.std.specs.Float.{binary64}
use Rattle.std.specs.Float.Ieee.{add, sub}
use Rattle.metrics.specs.Double.{zero, one}
use Rattle.metrics.specs.Curve.{compounded, flat, curve_after}
use Rattle.metrics.specs.Tally.{wins, loses}
use Rattle.metrics.specs.Ratio.{win_rate_of, mean, gain_over_loss, kelly_of}

-- "Total return: product of (1 + r_i) - 1"
unfoldable pub total_return_of : List Float → Float
total_return_of rs = sub binary64 (foldl compounded one rs) one

-- "Compute maximum drawdown from a return series."
unfoldable pub max_drawdown_of : List Float → Float
max_drawdown_of rs = (foldl curve_after flat rs).max_drawdown

-- `returns.iter().filter(test)`
unfoldable pub filtered : (Float → Bool) → List Float → List Float
filtered test [] = []
filtered test (r ∷ rs) = cond (test r) (r ∷ filtered test rs) (filtered test rs)

-- "Win/loss counts"
unfoldable pub winning_periods_of : List Float → ℕ
winning_periods_of rs = length (filtered wins rs)

unfoldable pub losing_periods_of : List Float → ℕ
losing_periods_of rs = length (filtered loses rs)

-- `.sum()`, from +0.0
unfoldable pub sum_of : List Float → Float
sum_of rs = foldl (add binary64) zero rs

unfoldable pub sum_positive_of : List Float → Float
sum_positive_of rs = sum_of (filtered wins rs)

unfoldable pub sum_negative_of : List Float → Float
sum_negative_of rs = sum_of (filtered loses rs)

unfoldable pub series_win_rate : List Float → Float
series_win_rate rs = win_rate_of (winning_periods_of rs) (length rs)

-- "Profit factor: sum(positive) / |sum(negative)|"
unfoldable pub profit_factor_of : List Float → Float
profit_factor_of rs = gain_over_loss (sum_positive_of rs) (sum_negative_of rs)

-- "Payoff ratio: mean(winning) / |mean(losing)|"
unfoldable pub payoff_ratio_of : List Float → Float
payoff_ratio_of rs = gain_over_loss (mean (sum_positive_of rs) (winning_periods_of rs)) (mean (sum_negative_of rs) (losing_periods_of rs))

unfoldable pub kelly : List Float → Float
kelly rs = kelly_of (series_win_rate rs) (payoff_ratio_of rs)
