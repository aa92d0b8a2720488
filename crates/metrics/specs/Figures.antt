-- The figures of a series, and those of a refusal. Definitions only.
use Rattle.std.specs.Prelude.{List, length, Float}
use Rattle.metrics.specs.Double.{zero}
use Rattle.metrics.specs.Series.{total_return_of, max_drawdown_of, winning_periods_of, losing_periods_of, series_win_rate, profit_factor_of, payoff_ratio_of, kelly}
use Rattle.metrics.specs.declared.Figures.{Figures}

unfoldable pub figures_of : List Float → Figures
figures_of rs =
    record {
      total_return = total_return_of rs;
      max_drawdown = max_drawdown_of rs;
      num_periods = length rs;
      winning_periods = winning_periods_of rs;
      losing_periods = losing_periods_of rs;
      win_rate = series_win_rate rs;
      profit_factor = profit_factor_of rs;
      payoff_ratio = payoff_ratio_of rs;
      kelly = kelly rs;
    }

-- "Each refusal returns its number with zero figures"
unfoldable pub no_figures : Figures
no_figures =
    record {
      total_return = zero;
      max_drawdown = zero;
      num_periods = 0;
      winning_periods = 0;
      losing_periods = 0;
      win_rate = zero;
      profit_factor = zero;
      payoff_ratio = zero;
      kelly = zero;
    }
