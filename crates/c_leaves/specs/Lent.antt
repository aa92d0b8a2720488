-- Positions and figures in lent places: what a C function takes and gives as slices of numbers.
use Rattle.std.specs.Prelude.{Bool, cond, ◌&&◌, List, [], ◌∷◌, ℕ, eqb, ℤ, pos, Float, length, get_or}
use Rattle.answer.specs.declared.Answer.TheVariants.{TooLong, Unsound}
use Rattle.answer.specs.Numbers.{number_of}
use Rattle.answer.specs.Places.{word_of}
use Rattle.position.specs.declared.position.Position.{Position}
use Rattle.position.specs.Rows.{row, numbers_of}
use Rattle.position.specs.Fills.{apply_fill}
use Rattle.metrics.specs.declared.Figures.{Figures}
use Rattle.metrics.specs.Answers.{metrics_of}

-- ---- a position: its symbol, and quantity, average, realized profit and total cost in four places
abbrev pub position_from : ℕ → List ℤ → Position
position_from s ns = row s (get_or ns 0 (pos 0)) (get_or ns 1 (pos 0)) (get_or ns 2 (pos 0)) (get_or ns 3 (pos 0))

-- "Account bytes of the wrong length answer 11": so do a position's numbers of another count than four.
unfoldable pub answer_to_fill : ℕ → List ℤ → ℤ → ℤ → ℕ
answer_to_fill s ns q price = cond (eqb (length ns) 4) (word_of (apply_fill (position_from s ns) q price).answer) (word_of Unsound)

unfoldable pub after_fill : ℕ → List ℤ → ℤ → ℤ → List ℤ
after_fill s ns q price = cond (eqb (length ns) 4) (numbers_of (apply_fill (position_from s ns) q price).position) ns

-- ---- the figures: six rates and three counts
abbrev pub rates_of : Figures → List Float
rates_of f = f.total_return ∷ f.max_drawdown ∷ f.win_rate ∷ f.profit_factor ∷ f.payoff_ratio ∷ f.kelly ∷ []

abbrev pub counts_of : Figures → List ℕ
counts_of f = f.num_periods ∷ f.winning_periods ∷ f.losing_periods ∷ []

abbrev pub places : List Float → List ℕ → Bool
places rates counts = eqb (length rates) 6 && eqb (length counts) 3

-- Places of another count answer 6, as lists of unequal length do.
unfoldable pub answer_to_figures : List Float → List Float → List ℕ → ℕ
answer_to_figures rs rates counts = cond (places rates counts) (number_of (metrics_of rs).answer) (number_of TooLong)

-- "Each refusal returns .. every lent place as found."
unfoldable pub rates_after : List Float → List Float → List ℕ → List Float
rates_after rs rates counts = cond (eqb (answer_to_figures rs rates counts) 0) (rates_of (metrics_of rs).figures) rates

unfoldable pub counts_after : List Float → List Float → List ℕ → List ℕ
counts_after rs rates counts = cond (eqb (answer_to_figures rs rates counts) 0) (counts_of (metrics_of rs).figures) counts
