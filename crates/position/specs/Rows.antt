-- A position from its five numbers, and back.
use Rattle.std.specs.Prelude.{ℕ, List, [], ◌∷◌, ℤ, pos}
use Rattle.position.specs.declared.shares.Shares.{Shares}
use Rattle.position.specs.declared.symbol.Symbol.{Symbol}
use Rattle.position.specs.declared.position.Position.{Position}

abbrev pub shares : ℤ → Shares
shares n = record { 0 = n }

abbrev pub symbol : ℕ → Symbol
symbol n = record { 0 = n }

-- the position of a symbol, with its quantity, average, realized profit and total cost
abbrev pub row : ℕ → ℤ → ℤ → ℤ → ℤ → Position
row s q a r t = record { symbol = symbol s; quantity = shares q; avg_entry_price = a; realized_pnl = r; total_cost = t }

-- a flat one
abbrev pub fresh : ℕ → Position
fresh s = row s (pos 0) (pos 0) (pos 0) (pos 0)

abbrev pub key_of : Position → ℕ
key_of p = p.symbol.0

abbrev pub held : Position → ℤ
held p = p.quantity.0

abbrev pub avg : Position → ℤ
avg p = p.avg_entry_price

abbrev pub realized : Position → ℤ
realized p = p.realized_pnl

abbrev pub total : Position → ℤ
total p = p.total_cost

abbrev pub numbers_of : Position → List ℤ
numbers_of p = held p ∷ avg p ∷ realized p ∷ total p ∷ []
