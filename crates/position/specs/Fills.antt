-- What a fill does to a position, by the branches of 001's `apply_fill`, and when a position is sound: document 01, 'Numbers that bound an account' and 'Filling'.
use Rattle.std.specs.Prelude.{Bool, not, cond, ◌&&◌, ℕ, ℤ, pos}
use Rattle.std.specs.Int.Signed.{lt_z, le_z}
use Rattle.answer.specs.declared.Answer.TheVariants.{Done, BadPrice, Unsound}
use Rattle.answer.specs.Places.{alone}
use Rattle.sums.specs.Sums.{sat_add, sat_sub, sat_abs, value, price_at}
use Rattle.position.specs.Rows.{row, key_of, held, avg, realized, total}
use Rattle.position.specs.Shares.{is_zero, is_positive}
use Rattle.position.specs.Symbols.{good_symbol}
use Rattle.position.specs.declared.position.Position.{Position}
use Rattle.position.specs.declared.position.Filled.{Filled}

-- "A flat position has average and total cost 0; otherwise the average is at least 0, a long's total cost is at least, and a short's at most, its
-- market value at its average."
unfoldable pub sound_numbers : ℤ → ℤ → ℤ → Bool
sound_numbers q a t =
    cond (is_zero q)
    (is_zero a && is_zero t)
    (le_z (pos 0) a && cond (is_positive q) (le_z (value q a) t) (le_z t (value q a)))

-- and "positions with good symbols"
unfoldable pub sound : Position → Bool
sound p = good_symbol (key_of p) && sound_numbers (held p) (avg p) (total p)

-- two quantities that are not zero, both long or both short
unfoldable pub same_side : ℤ → ℤ → Bool
same_side a b = cond (is_positive a) (is_positive b) (not (is_positive b))

-- ---- opening, and what is left after flipping: all of it entered at the price
unfoldable pub entered : ℕ → ℤ → ℤ → ℤ → Position
entered s q r price = row s q price r (value q price)

-- ---- adding: the average is worked out from the new total
unfoldable pub averaged : ℕ → ℤ → ℤ → ℤ → Position
averaged s q r t = row s q (price_at t q) r t

unfoldable pub grown : Position → ℤ → ℤ → Position
grown p q price = averaged (key_of p) (sat_add (held p) q) (realized p) (sat_add (total p) (value q price))

-- ---- reducing: the smaller of the fill and the holding is closed
unfoldable pub closed_by : ℤ → ℤ → ℤ
closed_by h q = cond (lt_z (sat_abs q) (sat_abs h)) (sat_abs q) (sat_abs h)

-- Profit for a whole share: price less average of a long, average less price of a short. The difference saturates, so that it is defined for every
-- input; of an average and a price of at least 0 it is the plain one.
unfoldable pub gain : Position → ℤ → ℤ
gain p price = cond (is_positive (held p)) (sat_sub price (avg p)) (sat_sub (avg p) price)

unfoldable pub realized_by : Position → ℤ → ℤ → ℤ
realized_by p q price = sat_add (realized p) (value (closed_by (held p) q) (gain p price))

-- The cost that the closed part takes out of the total: one rule for both sides, by which "a partial cover of a short subtracts a positive cost from
-- a negative total, so its average rises".
unfoldable pub closed_cost : Position → ℤ → ℤ
closed_cost p closed = value closed (avg p)

unfoldable pub closed : Position → ℤ → Position
closed p r = row (key_of p) (pos 0) (pos 0) r (pos 0)

unfoldable pub partly_closed : Position → ℤ → ℤ → Position
partly_closed p q r = averaged (key_of p) (sat_add (held p) q) r (sat_sub (total p) (closed_cost p (closed_by (held p) q)))

unfoldable pub reduced : Position → ℤ → ℤ → Position
reduced p q price =
    cond (is_zero (sat_add (held p) q))
    (closed p (realized_by p q price))
    (cond (same_side (sat_add (held p) q) (held p))
    (partly_closed p q (realized_by p q price))
    (entered (key_of p) (sat_add (held p) q) (realized_by p q price) price))

-- ---- a fill of so many micro-shares, below 0 for a sale, at a price
unfoldable pub applied : Position → ℤ → ℤ → Position
applied p q price =
    cond (is_zero q)
    p
    (cond (is_zero (held p))
    (entered (key_of p) q (realized p) price)
    (cond (same_side (held p) q)
    (grown p q price)
    (reduced p q price)))

-- "`apply_fill` is as in 001; called by itself it answers 11 for an unsound position and 4 only below 0". "Each refusal returns .. as given".
unfoldable pub apply_fill : Position → ℤ → ℤ → Filled
apply_fill p q price =
    cond (not (sound p))
    (record { answer = Unsound; position = p })
    (cond (lt_z price (pos 0))
    (record { answer = BadPrice alone; position = p })
    (record { answer = Done; position = applied p q price }))

-- ---- what a position is worth
unfoldable pub market_value : Position → ℤ → ℤ
market_value p price = value (held p) price

unfoldable pub unrealized_pnl : Position → ℤ → ℤ
unrealized_pnl p price = cond (is_zero (held p)) (pos 0) (value (held p) (sat_sub price (avg p)))
