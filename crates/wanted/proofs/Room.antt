-- How many orders a plan can have: no more than held symbols and target symbols together.
use Prim.Native.Nat.{ℕ, suc, ◌+◌, ◌≤◌}
use mathlib.Core.Path.{◌≡◌, refl, sym}
use mathlib.Core.Bool.{Bool, true, false, not}
use mathlib.Core.List.{List, [], ◌∷◌, ◌++◌}
use mathlib.Core.Option.{none, some}
use native.Mathlib.Omega.{arith}
use lib.Dec.{eqb, leb}
use lib.IntN.{ℤ}
use lib.ListN.{length}
use borrow.Author.Tests.{eqb-true, eqb-false}
use Rattle.position.specs.declared.position.Position.{Position}
use Rattle.position.specs.Rows.{key_of}
use Rattle.table.specs.Keyed.{pick, there, seek}
use Rattle.table.specs.Rows.{is_zero}
use Rattle.call_lists.specs.Lists.{among, distinct}
use Rattle.call_lists.proofs.Lists.{among_own, among_other, among-more, distinct-first, distinct-rest}
use Rattle.account.specs.declared.settings.Settings.{Settings}
use Rattle.wanted.specs.declared.planned.PlannedOrder.{PlannedOrder}
use Rattle.wanted.specs.Plan.{planned_close, closing, closings}
use Rattle.wanted.specs.Inner.Plan.{order_count_of}

-- ---- the count of a list of orders
pub count-append : (os rs : List PlannedOrder) → order_count_of (os ++ rs) ≡ order_count_of os + order_count_of rs
unfolding order_count_of
count-append [] rs = omega arith
count-append (o ∷ os) rs = go (is_zero o.quantity.0) (count-append os rs)
  where
    go : (b : Bool) → order_count_of (os ++ rs) ≡ order_count_of os + order_count_of rs → pick b (order_count_of (os ++ rs)) (order_count_of (os ++ rs) + 1) ≡ pick b (order_count_of os) (order_count_of os + 1) + order_count_of rs
    go true e = e
    go false e = omega arith

pub count_most : (os : List PlannedOrder) → order_count_of os ≤ length os
unfolding order_count_of
count_most [] = omega arith
count_most (o ∷ os) = go (is_zero o.quantity.0) (count_most os)
  where
    go : (b : Bool) → order_count_of os ≤ length os → pick b (order_count_of os) (order_count_of os + 1) ≤ suc (length os)
    go true h = omega arith
    go false h = omega arith

-- ---- positions whose symbols are among some symbols, and the others
unfoldable one : Bool → ℕ
one true = 1
one false = 0

unfoldable inside : List ℕ → List Position → ℕ
inside ts [] = 0
inside ts (p ∷ ps) = one (among (key_of p) ts) + inside ts ps

unfoldable outside : List ℕ → List Position → ℕ
outside ts [] = 0
outside ts (p ∷ ps) = one (not (among (key_of p) ts)) + outside ts ps

both_sides : (ts : List ℕ) (ps : List Position) → inside ts ps + outside ts ps ≡ length ps
unfolding inside outside one
both_sides ts [] = refl
both_sides ts (p ∷ ps) = go (among (key_of p) ts) (both_sides ts ps)
  where
    go : (b : Bool) → inside ts ps + outside ts ps ≡ length ps → one b + inside ts ps + (one (not b) + outside ts ps) ≡ suc (length ps)
    go true e = omega arith
    go false e = omega arith

one-most : (a b : Bool) → (a ≡ true → b ≡ true) → one a ≤ one b
unfolding one
one-most false b h = omega arith
one-most true b h = rw (h refl) (omega arith)

-- one symbol more, which holds as many positions as were inside
inside_more : (t : ℕ) (l : List ℕ) (ps : List Position) → inside l ps ≤ inside (t ∷ l) ps
unfolding inside
inside_more t l [] = omega arith
inside_more t l (p ∷ ps) = omega (arith, inside_more t l ps, one-most (among (key_of p) l) (among (key_of p) (t ∷ l)) (among-more (key_of p) t l))

-- and one more where a position has it
inside_held : (t : ℕ) (l : List ℕ) (ps : List Position) → among t l ≡ false → inside l ps + one (there (seek key_of t ps)) ≤ inside (t ∷ l) ps
unfolding inside one
inside_held t l [] h = omega arith
inside_held t l (p ∷ ps) h = go (eqb (key_of p) t) refl (inside_held t l ps h)
  where
    most : (b : Bool) → one b ≤ 1
    most true = omega arith
    most false = omega arith

    look : (b : Bool) → inside l ps + one (there (seek key_of t ps)) ≤ inside (t ∷ l) ps
        → one (among (key_of p) l) + inside l ps + one (there (pick b none (seek key_of t ps))) ≤ one (among (key_of p) l) + inside (t ∷ l) ps
    look true ih = omega (arith, inside_more t l ps)
    look false ih = omega arith

    go : (b : Bool) → eqb (key_of p) t ≡ b → inside l ps + one (there (seek key_of t ps)) ≤ inside (t ∷ l) ps
        → one (among (key_of p) l) + inside l ps + one (there (pick (leb t (key_of p)) (pick (eqb (key_of p) t) (some p) none) (seek key_of t ps))) ≤ one (among (key_of p) (t ∷ l)) + inside (t ∷ l) ps
    go true e ih =
        let k : key_of p ≡ t = eqb-true (key_of p) t e in
        let a : among (key_of p) l ≡ false = rw k h in
        let b : among (key_of p) (t ∷ l) ≡ true = rw k (among_own t l) in
        rw (a, b) (omega (arith, inside_more t l ps, most (there (pick (leb t (key_of p)) (pick (eqb (key_of p) t) (some p) none) (seek key_of t ps)))))
    go false e ih = rw (among_other (key_of p) t l (λ q. eqb-false (key_of p) t e (sym q)), e) (look (leb t (key_of p)) ih)

-- ---- "held symbols (flat ones too) and target symbols together": the held ones, and the targets that are not held, as not_held counts them
module _ (held : List Position) (not_held : List ℕ → ℕ) (each : (t : ℕ) (l : List ℕ) → not_held (t ∷ l) ≡ pick (there (seek key_of t held)) (not_held l) (not_held l + 1)) where
  targets-counted : (ts : List ℕ) → distinct ts ≡ true → length ts ≤ inside ts held + not_held ts
  unfolding one
  targets-counted [] e = omega arith
  targets-counted (t ∷ l) e = rw each (go (there (seek key_of t held)) (inside_held t l held (distinct-first t l e)) (targets-counted l (distinct-rest t l e)))
    where
      go : (b : Bool) → inside l held + one b ≤ inside (t ∷ l) held → length l ≤ inside l held + not_held l → suc (length l) ≤ inside (t ∷ l) held + pick b (not_held l) (not_held l + 1)
      go true h ih = omega arith
      go false h ih = omega arith

  module _ (s : Settings) (equity : ℤ) (price : ℕ → ℤ) where
    closes-outside : (ts : List ℕ) (ps : List Position) → order_count_of (closings s equity price ts ps) ≤ outside ts ps
    unfolding order_count_of closings outside one closing planned_close is_zero
    closes-outside ts [] = omega arith
    closes-outside ts (p ∷ ps) = go (among (key_of p) ts) refl (closes-outside ts ps)
      where
        go : (b : Bool) → among (key_of p) ts ≡ b → order_count_of (closings s equity price ts ps) ≤ outside ts ps
            → pick (is_zero (closing s equity price ts p).quantity.0) (order_count_of (closings s equity price ts ps)) (order_count_of (closings s equity price ts ps) + 1) ≤ one (not b) + outside ts ps
        go true e h = rw e (omega arith)
        go false e h = look (is_zero (closing s equity price ts p).quantity.0)
          where
            look : (z : Bool) → pick z (order_count_of (closings s equity price ts ps)) (order_count_of (closings s equity price ts ps) + 1) ≤ 1 + outside ts ps
            look true = omega arith
            look false = omega arith

    -- the closes, and one order a target
    pub orders_at_most : (ts : List ℕ) → distinct ts ≡ true → order_count_of (closings s equity price ts held) + length ts ≤ length held + not_held ts
    orders_at_most ts e = omega (arith, closes-outside ts held, both_sides ts held, targets-counted ts e)
