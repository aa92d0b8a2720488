-- What the walks over an account's places answer, place by place.
use Rattle.std.specs.Prelude.{ℕ, ◌+◌, ◌<◌, ◌≡◌, List, length, get_or, set, ℤ, pos, Float}
use Rattle.std.specs.Prelude.{Option, Some, None}
use Rattle.std.proofs.Math.Option as M
use Rattle.std.specs.Float.{binary64}
use Rattle.std.specs.Float.Ieee.{div}
use Rattle.sums.specs.Sums.{value}
use Rattle.doubles.specs.Doubles.{of_i64}
use Rattle.position.specs.declared.position.Position.{Position}
use Rattle.position.specs.declared.symbol.Symbol.{Symbol}
use Rattle.position.specs.Rows.{key_of, fresh}
use Rattle.table.specs.Keyed.{pick}
use Rattle.table.specs.Inner.Keyed.{Rising}
use Rattle.table.specs.Rows.{is_zero}
use Rattle.call_lists.specs.Lists.{price_of}
use Rattle.wanted.specs.Equity.{worth_from}
use Rattle.queries.specs.declared.answered.Weighed.{Weighed}
use Rattle.queries.specs.declared.sum.Sums.{Sums}
use Rattle.queries.specs.Queries.{open_ones, weigh, weights_of, first_unpriced, profit_from}
use Rattle.queries.specs.Answers.{weighed}

-- ---- a column of prices
-- the prices of the symbols at the first n places
abbrev pub PricesOf : (ℕ → ℤ) → ℕ → List ℕ → List ℤ → Type 0
PricesOf price n ks ls = (i : ℕ) → i < n → get_or ls i (pos 0) ≡ price (get_or ks i 0)

-- as a list of prices gives them, where its symbols ascend
pub record Looks (n : ℕ) (ks symbols : List ℕ) (prices ls : List ℤ) : Type 0 where
  pub settled : Rising symbols → PricesOf (price_of symbols prices) n ks ls

-- the prices of positions
abbrev pub PositionPrices : (ℕ → ℤ) → List Position → List ℤ → Type 0
PositionPrices price ps ls = (i : ℕ) → i < length ps → get_or ls i (pos 0) ≡ price (key_of (get_or ps i (fresh 0)))

-- ---- walks over positions and a column of their prices
-- the number of a symbol that is told, if one is
abbrev pub told_symbol : Option Symbol → M.Option ℕ
told_symbol None = M.none
told_symbol (Some s) = M.some s.0

pub record First (ps : List Position) (ls : List ℤ) (r : Option Symbol) : Type 0 where
  pub settled : (price : ℕ → ℤ) → PositionPrices price ps ls → told_symbol r ≡ first_unpriced price ps

pub record AddsUp (ps : List Position) (ls : List ℤ) (r : Sums) : Type 0 where
  pub worth : (price : ℕ → ℤ) → PositionPrices price ps ls → r.worth ≡ worth_from price (pos 0) ps
  pub opens : r.open_count ≡ length (open_ones ps)
  pub profit : r.profit ≡ profit_from (pos 0) ps

-- ---- weights in two columns
abbrev pub weight_columns : ℕ → List ℕ → List Float → Weighed
weight_columns n ks ws = record { count = n; symbol = ks; weight = ws }

-- the weight of a position at a price goes to the next place; a flat one has none
unfoldable pub added_weight : Position → ℤ → Float → Weighed → Weighed
unfolding div
added_weight p price equity c =
    pick (is_zero p.quantity.0) c
    (weight_columns (c.count + 1) (set c.symbol c.count (key_of p)) (set c.weight c.count (div binary64 (of_i64 (value p.quantity.0 price)) equity)))

pub record Weighs (ps : List Position) (ls : List ℤ) (equity : ℤ) (r : Weighed) : Type 0 where
  pub settled : (price : ℕ → ℤ) → PositionPrices price ps ls → r ≡ weighed (weigh price equity (open_ones ps))

pub record WeighsAt (ps : List Position) (ls : List ℤ) (equity : ℤ) (r : Weighed) : Type 0 where
  pub settled : (price : ℕ → ℤ) → PositionPrices price ps ls → r ≡ weighed (weights_of price equity ps)
