-- What one pass over a series gathers, and the figures that follow from it. Definitions only.
use mathlib.Core.List.{List, foldl}
use Rattle.std.specs.Prelude.{cond, ℕ, Float, Option, Some, None, Result, Ok, Err}
use Rattle.std.specs.Float.{binary64}
use Rattle.std.specs.Float.Ieee.{sub}
use Rattle.doubles.specs.Doubles.{all_finite}
use Rattle.metrics.specs.Double.{one}
use Rattle.answer.specs.declared.Answer.{Answer}
use Rattle.answer.specs.declared.Answer.TheVariants.{TooLong, BadSeries}
use Rattle.metrics.specs.Answers.{over_bound, good_series}
use Rattle.metrics.specs.Figures.{figures_of}
use Rattle.metrics.specs.Curve.{flat, curve_after}
use Rattle.metrics.specs.Inner.Tally.{no_returns, tally_after}
use Rattle.metrics.specs.Ratio.{win_rate_of, mean, gain_over_loss, kelly_of}
use Rattle.metrics.specs.declared.Figures.{Figures}
use Rattle.metrics.specs.declared.curve.Curve.{Curve}
use Rattle.metrics.specs.declared.series.Gathered.{Gathered}
use Rattle.metrics.specs.declared.tally.Tally.{Tally}

-- what the returns come to, where all of them are finite
unfoldable pub gathered : List Float → Option Gathered
gathered rs = cond (all_finite rs) (Some (record { curve = foldl curve_after flat rs; tally = foldl tally_after no_returns rs })) None

-- The payoff ratio of a tally.
unfoldable pub tally_payoff : Tally → Float
tally_payoff t = gain_over_loss (mean t.sum_positive t.winning_periods) (mean t.sum_negative t.losing_periods)

-- the figures of a series, and else the answer that refuses it
unfoldable pub measured : List Float → Result Figures Answer
measured rs = cond (over_bound rs) (Err TooLong) (cond (good_series rs) (Ok (figures_of rs)) (Err BadSeries))

unfoldable pub figures_from : ℕ → Curve → Tally → Figures
figures_from n c t =
    record {
      total_return = sub binary64 c.equity one;
      max_drawdown = c.max_drawdown;
      num_periods = n;
      winning_periods = t.winning_periods;
      losing_periods = t.losing_periods;
      win_rate = win_rate_of t.winning_periods n;
      profit_factor = gain_over_loss t.sum_positive t.sum_negative;
      payoff_ratio = tally_payoff t;
      kelly = kelly_of (win_rate_of t.winning_periods n) (tally_payoff t);
    }
