-- The winning and the losing returns of a series, counted and summed one return at a time.
use Rattle.std.specs.Prelude.{Bool, cond, ℕ, ◌+◌, Float}
use Rattle.std.specs.Float.{binary64}
use Rattle.std.specs.Float.Ieee.{add}
use Rattle.metrics.specs.Double.{zero}
use Rattle.metrics.specs.declared.tally.Tally.{Tally}
use Rattle.metrics.specs.Tally.{wins, loses}

abbrev pub counted_if : ℕ → Bool → ℕ
counted_if n counts = cond counts (n + 1) n

abbrev pub summed_if : Float → Bool → Float → Float
summed_if sum counts r = cond counts (add binary64 sum r) sum

abbrev pub no_returns : Tally
no_returns = record { winning_periods = 0; losing_periods = 0; sum_positive = zero; sum_negative = zero }

unfoldable pub tally_after : Tally → Float → Tally
tally_after t r =
    record {
      winning_periods = counted_if t.winning_periods (wins r);
      losing_periods = counted_if t.losing_periods (loses r);
      sum_positive = summed_if t.sum_positive (wins r) r;
      sum_negative = summed_if t.sum_negative (loses r) r;
    }
