-- Which number a series is answered by.
use mathlib.Core.Path.{◌≡◌, refl}
use mathlib.Core.Bool.{Bool, true, false, cond}
use mathlib.Core.List.{List}
use lib.Ieee.{Float}
use Rattle.answer.specs.Numbers.{number_of}
use Rattle.answer.specs.declared.Answer.TheVariants.{Done, TooLong, BadSeries}
use Rattle.metrics.specs.Answers.{over_bound, good_series, refusal, metrics_of}
use Rattle.metrics.specs.Figures.{figures_of}

-- "6: a return series is over its bound", "12: a return series is empty or has a non-finite member", in that order
pub numbered : (rs : List Float) → number_of (metrics_of rs).answer ≡ cond (over_bound rs) 6 (cond (good_series rs) 0 12)
unfolding metrics_of
numbered rs = go (over_bound rs) (good_series rs)
  where
    go : (long good : Bool) → number_of (cond long (refusal TooLong) (cond good (record { answer = Done; figures = figures_of rs }) (refusal BadSeries))).answer ≡ cond long 6 (cond good 0 12)
    go true good = refl
    go false true = refl
    go false false = refl
