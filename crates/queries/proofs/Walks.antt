-- A walk over positions: what each is for the sums, the count and the search, and the prices beside them.
use Prim.Native.Nat.{ℕ, ◌+◌, ◌≤◌, ◌<◌}
use mathlib.Core.Path.{◌≡◌, refl, sym, ap, ◌∙◌}
use mathlib.Core.Bool.{Bool, true, false}
use mathlib.Core.List.{List, ◌∷◌}
use mathlib.Core.Option.{none, some}
use native.Mathlib.Omega.{arith}
use borrow.Author.Tests.{ltb-true, ltb-false}
use lib.Dec.{ltb}
use lib.ListN.{length, drop, get_or, set}
use lib.Seq.{get_or-set_same, get_or-set_other}
use lib.IntN.{ℤ, pos}
use Rattle.sums.specs.Sums.{sat_add, value}
use Rattle.position.specs.declared.position.Position.{Position}
use Rattle.position.specs.Rows.{fresh, key_of}
use Rattle.table.specs.Keyed.{pick}
use Rattle.table.specs.Rows.{is_zero, rows}
use Rattle.table.specs.declared.table.Columns.{Columns}
use Rattle.table.specs.Inner.Rows.{Ordered}
use Rattle.call_lists.proofs.Lists.{from_place, from_end}
use Rattle.account.proofs.Columns.{rows-length, row_of}
use Rattle.wanted.specs.Equity.{worth, worth_from}
use Rattle.queries.specs.Queries.{open_ones, unpriced, first_unpriced, profit_from}
use Rattle.queries.specs.Inner.Places.{PricesOf, PositionPrices}

-- ---- the position at place i, and those after it
module _ (ps : List Position) (i : ℕ) (h : i < length ps) where
  pub worth_at : (price : ℕ → ℤ) (sum : ℤ) → worth_from price sum (drop i ps) ≡ worth_from price (sat_add sum (worth price (get_or ps i (fresh 0)))) (drop (i + 1) ps)
  unfolding worth_from
  worth_at price sum = from_place (worth_from price sum) ps i (fresh 0) h

  pub profit_at : (sum : ℤ) → profit_from sum (drop i ps) ≡ profit_from (sat_add sum (get_or ps i (fresh 0)).realized_pnl) (drop (i + 1) ps)
  unfolding profit_from
  profit_at sum = from_place (profit_from sum) ps i (fresh 0) h

  pub open_at : length (open_ones (drop i ps)) ≡ pick (is_zero (get_or ps i (fresh 0)).quantity.0) 0 1 + length (open_ones (drop (i + 1) ps))
  unfolding open_ones
  open_at = from_place (λ l. length (open_ones l)) ps i (fresh 0) h ∙ go (is_zero (get_or ps i (fresh 0)).quantity.0)
    where
      go : (z : Bool) → length (pick z (open_ones (drop (i + 1) ps)) (get_or ps i (fresh 0) ∷ open_ones (drop (i + 1) ps))) ≡ pick z 0 1 + length (open_ones (drop (i + 1) ps))
      go true = omega arith
      go false = omega arith

  pub first_at : (price : ℕ → ℤ) → let p = get_or ps i (fresh 0) in
      first_unpriced price (drop i ps) ≡ pick (unpriced p.quantity.0 (price (key_of p))) (some (key_of p)) (first_unpriced price (drop (i + 1) ps))
  unfolding first_unpriced
  first_at price = from_place (first_unpriced price) ps i (fresh 0) h

-- ---- the same, as the walk finds the position p and its price
module _ (ps : List Position) (ls : List ℤ) (i : ℕ) (h : i < length ps) (p : Position) (e : p ≡ get_or ps i (fresh 0)) where
  pub worth_on : (price : ℕ → ℤ) (sum : ℤ) → PositionPrices price ps ls → worth_from price (sat_add sum (value p.quantity.0 (get_or ls i (pos 0)))) (drop (i + 1) ps) ≡ worth_from price sum (drop i ps)
  worth_on price sum listed = rw (e, listed i h) (sym (worth_at ps i h price sum))

  pub profit_on : (sum : ℤ) → profit_from (sat_add sum p.realized_pnl) (drop (i + 1) ps) ≡ profit_from sum (drop i ps)
  profit_on sum = rw e (sym (profit_at ps i h sum))

  pub open_on : pick (is_zero p.quantity.0) 0 1 + length (open_ones (drop (i + 1) ps)) ≡ length (open_ones (drop i ps))
  open_on = rw e (sym (open_at ps i h))

  same_test : (price : ℕ → ℤ) → PositionPrices price ps ls → let q = get_or ps i (fresh 0) in unpriced q.quantity.0 (price (key_of q)) ≡ unpriced p.quantity.0 (get_or ls i (pos 0))
  same_test price listed = ap (unpriced (get_or ps i (fresh 0)).quantity.0) (sym (listed i h)) ∙ ap (λ q. unpriced q.quantity.0 (get_or ls i (pos 0))) (sym e)

  pub first_found : (price : ℕ → ℤ) → PositionPrices price ps ls → unpriced p.quantity.0 (get_or ls i (pos 0)) ≡ true → first_unpriced price (drop i ps) ≡ some (key_of p)
  first_found price listed t = first_at ps i h price ∙ rw (same_test price listed ∙ t) (ap (λ q. some (key_of q)) (sym e))

  pub first_passed : (price : ℕ → ℤ) → PositionPrices price ps ls → unpriced p.quantity.0 (get_or ls i (pos 0)) ≡ false → first_unpriced price (drop (i + 1) ps) ≡ first_unpriced price (drop i ps)
  first_passed price listed t = sym (first_at ps i h price ∙ rw (same_test price listed ∙ t))

pub one-most : (z : Bool) → pick z 0 1 ≤ 1
one-most true = omega arith
one-most false = omega arith

-- ---- after the last
module _ (ps : List Position) (i : ℕ) (h : length ps ≤ i) where
  pub worth-end : (price : ℕ → ℤ) (sum : ℤ) → worth_from price sum (drop i ps) ≡ sum
  unfolding worth_from
  worth-end price sum = from_end (worth_from price sum) ps i h

  pub profit-end : (sum : ℤ) → profit_from sum (drop i ps) ≡ sum
  unfolding profit_from
  profit-end sum = from_end (profit_from sum) ps i h

  pub open_end : length (open_ones (drop i ps)) ≡ 0
  unfolding open_ones
  open_end = from_end (λ l. length (open_ones l)) ps i h

  pub first-end : (price : ℕ → ℤ) → first_unpriced price (drop i ps) ≡ none
  unfolding first_unpriced
  first-end price = from_end (first_unpriced price) ps i h

-- ---- one price more in the column
pub price-more : (price : ℕ → ℤ) (i : ℕ) (ks : List ℕ) (ls : List ℤ) (v : ℤ) → i < length ls → PricesOf price i ks ls → v ≡ price (get_or ks i 0) → PricesOf price (i + 1) ks (set ls i v)
price-more price i ks ls v h before e j k = go (ltb j i) refl
  where
    go : (b : Bool) → ltb j i ≡ b → get_or (set ls i v) j (pos 0) ≡ price (get_or ks j 0)
    go true t =
        let l = ltb-true j i t in
        get_or-set_other ls i j v (pos 0) (λ q. omega arith) ∙ before j l
    go false t =
        let l : j ≡ i = omega (arith, ltb-false j i t) in
        rw l (get_or-set_same ls i v (pos 0) h ∙ e)

-- ---- prices of the places are prices of the positions there
pub places-priced : (price : ℕ → ℤ) (n : ℕ) (c : Columns) (ls : List ℤ) → Ordered n c → PricesOf price n c.symbol ls → PositionPrices price (rows n c) ls
places-priced price n c ls o e i h =
    let k : i < n = omega (arith, rows-length c o.full n o.small) in
    e i k ∙ sym (ap (λ p. price (key_of p)) (row_of c o.full n i k))
