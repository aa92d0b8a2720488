-- One pass gives what each figure's own fold, filter or count gives, so its figures are those of the series.
use Prim.Native.Nat.{ℕ, ◌+◌}
use mathlib.Core.Path.{◌≡◌, refl, ap, ◌∙◌}
use mathlib.Core.Bool.{Bool, true, false, cond}
use mathlib.Core.List.{List, [], ◌∷◌, foldl}
use native.Mathlib.Nat.{zero-add}
use native.Mathlib.Omega.{arith}
use lib.ListN.{length}
use lib.Ieee.{Float, binary64, add}
use Rattle.metrics.specs.Double.{zero, one}
use Rattle.metrics.specs.Curve.{compounded, flat, curve_after}
use Rattle.metrics.specs.Tally.{wins, loses}
use Rattle.metrics.specs.Inner.Tally.{counted_if, summed_if, no_returns, tally_after}
use Rattle.metrics.specs.Series.{total_return_of, max_drawdown_of, filtered, winning_periods_of, losing_periods_of, sum_of, sum_positive_of, sum_negative_of, series_win_rate, profit_factor_of, payoff_ratio_of, kelly}
use Rattle.metrics.specs.Inner.Gathered.{tally_payoff, figures_from}
use Rattle.metrics.specs.Figures.{figures_of}

-- a part of the state that goes its own way goes it to the end
pub fold_part : {S A : Type 0} (part : S → A) (f : S → Float → S) (g : A → Float → A) → ((s : S) (r : Float) → part (f s r) ≡ g (part s) r)
    → (s : S) (rs : List Float) → part (foldl f s rs) ≡ foldl g (part s) rs
fold_part part f g step s [] = refl
fold_part part f g step s (r ∷ rs) = fold_part part f g step (f s r) rs ∙ ap (λ a. foldl g a rs) (step s r)

module _ (test : Float → Bool) where
  pub fold_count : (n : ℕ) (rs : List Float) → foldl (λ k r. counted_if k (test r)) n rs ≡ n + length (filtered test rs)
  unfolding filtered
  fold_count n [] = omega arith
  fold_count n (r ∷ rs) = go (λ k. fold_count k rs) (test r)
    where
      go : ((k : ℕ) → foldl (λ k r. counted_if k (test r)) k rs ≡ k + length (filtered test rs))
          → (b : Bool) → foldl (λ k x. counted_if k (test x)) (counted_if n b) rs ≡ n + length (cond b (r ∷ filtered test rs) (filtered test rs))
      go rest true = let h = rest (n + 1) in omega arith
      go rest false = rest n

  pub fold_sum : (s : Float) (rs : List Float) → foldl (λ x r. summed_if x (test r) r) s rs ≡ foldl (add binary64) s (filtered test rs)
  unfolding filtered
  fold_sum s [] = refl
  fold_sum s (r ∷ rs) = go (λ x. fold_sum x rs) (test r)
    where
      go : ((x : Float) → foldl (λ x r. summed_if x (test r) r) x rs ≡ foldl (add binary64) x (filtered test rs))
          → (b : Bool) → foldl (λ x y. summed_if x (test y) y) (summed_if s b r) rs ≡ foldl (add binary64) s (cond b (r ∷ filtered test rs) (filtered test rs))
      go rest true = rest (add binary64 s r)
      go rest false = rest s

module _ (rs : List Float) where
  pub equity_is : (foldl curve_after flat rs).equity ≡ foldl compounded one rs
  unfolding curve_after
  equity_is = fold_part (λ c. c.equity) curve_after compounded (λ c r. refl) flat rs

  winning_is : (foldl tally_after no_returns rs).winning_periods ≡ winning_periods_of rs
  unfolding tally_after winning_periods_of
  winning_is = fold_part (λ t. t.winning_periods) tally_after (λ n r. counted_if n (wins r)) (λ t r. refl) no_returns rs ∙ fold_count wins 0 rs ∙ zero-add _

  losing_is : (foldl tally_after no_returns rs).losing_periods ≡ losing_periods_of rs
  unfolding tally_after losing_periods_of
  losing_is = fold_part (λ t. t.losing_periods) tally_after (λ n r. counted_if n (loses r)) (λ t r. refl) no_returns rs ∙ fold_count loses 0 rs ∙ zero-add _

  positive_is : (foldl tally_after no_returns rs).sum_positive ≡ sum_positive_of rs
  unfolding tally_after sum_positive_of sum_of
  positive_is = fold_part (λ t. t.sum_positive) tally_after (λ x r. summed_if x (wins r) r) (λ t r. refl) no_returns rs ∙ fold_sum wins zero rs

  negative_is : (foldl tally_after no_returns rs).sum_negative ≡ sum_negative_of rs
  unfolding tally_after sum_negative_of sum_of
  negative_is = fold_part (λ t. t.sum_negative) tally_after (λ x r. summed_if x (loses r) r) (λ t r. refl) no_returns rs ∙ fold_sum loses zero rs

  pub figures_are : figures_from (length rs) (foldl curve_after flat rs) (foldl tally_after no_returns rs) ≡ figures_of rs
  unfolding figures_from tally_payoff figures_of total_return_of max_drawdown_of series_win_rate profit_factor_of payoff_ratio_of kelly
  figures_are = simp (equity_is, winning_is, losing_is, positive_is, negative_is)
