-- The quotients among the figures, as the Rust's `compute_metrics` has them. Definitions only.
use Rattle.std.specs.Prelude.{cond, ◌&&◌, ℕ, ltb, Float}
use Rattle.std.specs.Float.{binary64}
use Rattle.std.specs.Float.Ieee.{sub, div, lt, ne}
use Rattle.doubles.specs.Doubles.{finite, of_u64}
use Rattle.metrics.specs.Double.{zero, one, infinity, absolute}

-- "Win rate": `winning_periods as f64 / n as f64`
unfoldable pub win_rate_of : ℕ → ℕ → Float
win_rate_of winning periods = div binary64 (of_u64 winning) (of_u64 periods)

-- `if count > 0 { sum / count as f64 } else { 0.0 }`
unfoldable pub mean : Float → ℕ → Float
mean sum count = cond (ltb 0 count) (div binary64 sum (of_u64 count)) zero

-- `if loss != 0.0 { gain / loss.abs() } else if gain > 0.0 { f64::INFINITY } else { 0.0 }`
unfoldable pub gain_over_loss : Float → Float → Float
gain_over_loss gain loss = cond (ne loss zero) (div binary64 gain (absolute loss)) (cond (lt zero gain) infinity zero)

-- "Kelly criterion: w - (1 - w) / b", and 0.0 unless `payoff_ratio > 0.0 && payoff_ratio.is_finite()`
unfoldable pub kelly_of : Float → Float → Float
kelly_of rate payoff = cond (lt zero payoff && finite payoff) (sub binary64 rate (div binary64 (sub binary64 one rate) payoff)) zero
