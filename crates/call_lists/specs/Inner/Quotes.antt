-- The price that a list gives a symbol, as a search in symbols that ascend gives it.
use Rattle.std.specs.Prelude.{ℕ, ◌+◌, ◌≡◌, List, ℤ}
use Rattle.table.specs.Inner.Keyed.{Rising}
use Rattle.table.specs.Inner.Places.{found}
use Rattle.table.specs.declared.found.Found.{Found}
use Rattle.table.specs.declared.found.Found.TheVariants.{At, Absent}
use Rattle.call_lists.specs.declared.price.Quote.{Quote}
use Rattle.call_lists.specs.Lists.{price_of}

-- where the next symbol may stand: after the place of this one
abbrev pub place_after : Found → ℕ
place_after (At i) = i + 1
place_after (Absent i) = i

abbrev pub quoted : List ℕ → List ℤ → ℕ → Quote
quoted ks ps s = record { price = price_of ks ps s; next = place_after (found s ks) }

pub record Quotes (ks : List ℕ) (ps : List ℤ) (s : ℕ) (r : Quote) : Type 0 where
  pub settled : Rising ks → r ≡ quoted ks ps s
