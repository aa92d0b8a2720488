-- What an account is worth at given prices. `price s` is the listed price of s, 0 where there is none.
use Rattle.std.specs.Prelude.{ℕ, List, [], ◌∷◌, ℤ, pos}
use Rattle.sums.specs.Sums.{sat_add, value}
use Rattle.position.specs.declared.position.Position.{Position}
use Rattle.position.specs.Rows.{key_of}

-- "its market value"
abbrev pub worth : (ℕ → ℤ) → Position → ℤ
worth price p = value p.quantity.0 (price (key_of p))

unfoldable pub worth_from : (ℕ → ℤ) → ℤ → List Position → ℤ
worth_from price sum [] = sum
worth_from price sum (p ∷ ps) = worth_from price (sat_add sum (worth price p)) ps

-- "Equity is cash plus the finished sum of position values in symbol order, each step saturating; a missing price counts 0."
unfoldable pub equity_of : (ℕ → ℤ) → ℤ → List Position → ℤ
equity_of price cash held = sat_add cash (worth_from price (pos 0) held)
