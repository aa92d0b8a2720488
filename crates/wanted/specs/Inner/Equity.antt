-- What the places of two columns are worth at listed prices.
use Rattle.std.specs.Prelude.{ℕ, zero, suc, ◌≡◌, List, get_or, ℤ, pos}
use Rattle.sums.specs.Sums.{sat_add, value}
use Rattle.table.specs.Inner.Keyed.{Rising}
use Rattle.table.specs.Inner.Places.{shorter}
use Rattle.call_lists.specs.Lists.{price_of}

-- of the first n places of a column of symbols and a column of quantities
unfoldable pub worth_places : (ℕ → ℤ) → ℕ → List ℕ → List ℤ → ℤ
worth_places price zero ks qs = pos 0
worth_places price (suc n) ks qs = sat_add (worth_places price n ks qs) (value (get_or qs n (pos 0)) (price (get_or ks n 0)))

-- r is the worth of the first n of 64 places at the listed prices, where the symbols of the prices ascend
pub record Worth (ks : List ℕ) (qs : List ℤ) (n : ℕ) (symbols : List ℕ) (prices : List ℤ) (r : ℤ) : Type 0 where
  pub settled : Rising symbols → r ≡ worth_places (price_of symbols prices) (shorter n 64) ks qs
