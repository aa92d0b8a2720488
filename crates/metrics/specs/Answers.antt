-- The answer to a return series. Definitions only.
use Rattle.std.specs.Prelude.{Bool, cond, ◌&&◌, List, ltb, length, Float}
use Rattle.doubles.specs.Doubles.{all_finite}
use Rattle.answer.specs.declared.Answer.{Answer}
use Rattle.answer.specs.declared.Answer.TheVariants.{Done, TooLong, BadSeries}
use Rattle.metrics.specs.Tally.{most_returns}
use Rattle.metrics.specs.Figures.{figures_of, no_figures}
use Rattle.metrics.specs.declared.Metrics.{Metrics}

-- "a list or return series is over its bound"
abbrev pub over_bound : List Float → Bool
over_bound rs = ltb most_returns (length rs)

-- "a return series is empty or has a non-finite member"
abbrev pub good_series : List Float → Bool
good_series rs = ltb 0 (length rs) && all_finite rs

-- "Each refusal returns its number with zero figures"
abbrev pub refusal : Answer → Metrics
refusal a = record { answer = a; figures = no_figures }

-- The check order is 6, then 12.
unfoldable pub metrics_of : List Float → Metrics
metrics_of rs = cond (over_bound rs) (refusal TooLong) (cond (good_series rs) (record { answer = Done; figures = figures_of rs }) (refusal BadSeries))
