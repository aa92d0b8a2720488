-- The orders of a done rebalance have all that condition 3 asks of orders, but for the range of cash. That their symbols differ and have room is told by sums over
-- symbols: an insertion adds one order to a sum, admission lowers it, and wanted is at most one order for each held symbol that is no target and for each target.
use Prim.Native.Nat.{ℕ, ◌+◌, ◌≤◌, ◌<◌}
use mathlib.Core.Bool.{Bool, true, false}
use mathlib.Core.List.{List, [], ◌∷◌, ◌++◌, map}
use mathlib.Core.Option.{Option, none, some}
use mathlib.Core.Path.{◌≡◌, refl, sym, ap}
use native.Mathlib.Omega.{arith}
use lib.Dec.{eqb, leb}
use lib.IntN.{ℤ, pos, ◌-ℤ◌}
use lib.Ieee.{Float}
use lib.ListN.{length}
use lib.Signed.{lt_z, le_z}
use borrow.Author.Tests.{eqb-true, eqb-false, leb-true, leb-false, eq-eqb, ne_eqb}
use Rattle.position.specs.declared.position.Position.{Position}
use Rattle.position.specs.Rows.{fresh, key_of}
use Rattle.sizing.specs.Sizing.{cut_to}
use Rattle.table.specs.Keyed.{pick, there, new, seek}
use Rattle.table.specs.Inner.Keyed.{Rising}
use Rattle.table.specs.Rows.{columns_of, is_zero, Full}
use Rattle.table.proofs.Keyed.{by_test, rising_ascends}
use Rattle.table.proofs.Ordering.{at_all}
use Rattle.table.proofs.Zipped.{keys_of}
use Rattle.call_lists.specs.Lists.{among, distinct, price_of}
use Rattle.call_lists.proofs.Lists.{below_first, below_not_among, ascending-distinct, among_own, among-more, distinct-first, distinct-rest}
use Rattle.account.specs.declared.account.Account.{Account}
use Rattle.account.specs.declared.settings.Settings.{Settings}
use Rattle.account.specs.Account.{held_in}
use Rattle.account.proofs.SoundAccounts.{account-ordered}
use Rattle.wanted.specs.declared.planned.PlannedOrder.{PlannedOrder}
use Rattle.wanted.specs.Equity.{equity_of}
use Rattle.wanted.specs.Plan.{planned, planned_close, closing, targeting, closings, targetings, wanted}
use Rattle.wanted.proofs.Plans as planning
use Rattle.admission.specs.Admission.{notional_of, insert_by, reached, added, added_all, last_admitted, admitted_from, admitted}
use Rattle.admission.specs.Inner.Kept.{Each, Start, none, last, more}
use Rattle.admission.specs.Running.{plan_of}
use Rattle.admission.proofs.Kept.{wanted-all, added_keeps, added_all-all, admitted_is_start}
use Rattle.fills.specs.declared.terms.Order.{Order}
use Rattle.portfolio.specs.Answers.{is_done, not_held, rebalance_answer}
use Rattle.portfolio.specs.Rebalance.{order_of, admitted_plan}
use Rattle.portfolio.proofs.Refusals.{rebalance-done}
use Rattle.order.specs.Running.{total, All, nothing, and, Pairs, Different, Room}
use Rattle.order.specs.Statement.{Tradable, symbol_of, places_asked}

-- "non-zero orders for different symbols .. with table room for all"
pub record OwnOrders (held : List Position) (os : List Order) : Type 0 where
  pub orders : All Order Tradable os
  pub different : Pairs Order (Different symbol_of) os
  pub room : Room (length held) (total (places_asked held) os)

-- ---- sums over lists of symbols
total-none : (f : ℕ → ℕ) (l : List ℕ) → ((k : ℕ) → among k l ≡ true → f k ≡ 0) → total f l ≡ 0
unfolding total
total-none f [] h = refl
total-none f (k ∷ l) h = omega (arith, h k (among_own k l), total-none f l (λ j e. h j (among-more j k l e)))

-- of a figure that is 0 but for one symbol, where no symbol stands twice
total-once : (f : ℕ → ℕ) (j : ℕ) → ((k : ℕ) → (k ≡ j → ⊥) → f k ≡ 0) → (l : List ℕ) → distinct l ≡ true → total f l ≤ pick (among j l) (f j) 0
unfolding total among
total-once f j z [] e = omega arith
total-once f j z (k ∷ l) e = go (eqb k j) refl (total-once f j z l (distinct-rest k l e))
  where
    go : (b : Bool) → eqb k j ≡ b → total f l ≤ pick (among j l) (f j) 0 → f k + total f l ≤ pick (pick b true (among j l)) (f j) 0
    go true q h =
        let n : among j l ≡ false = rw (eqb-true k j q) at (distinct-first k l e) in
        omega (arith, rw n at h, ap f (eqb-true k j q))
    go false q h = omega (arith, z k (eqb-false k j q))

-- a figure of symbols that are no targets
abbrev besides : List ℕ → (ℕ → ℕ) → ℕ → ℕ
besides ts f k = pick (among k ts) 0 (f k)

besides_none : (ts : List ℕ) (f : ℕ → ℕ) (k : ℕ) → f k ≡ 0 → besides ts f k ≡ 0
besides_none ts f k e = by_test (λ n. n ≡ 0) (among k ts) 0 (f k) (λ q. refl) (λ q. e)

-- 1 for the symbol j
abbrev is : ℕ → ℕ → ℕ
is j k = pick (eqb k j) 1 0

module _ (j : ℕ) where
  is_own : (k : ℕ) → k ≡ j → is j k ≡ 1
  is_own k e = rw (eq-eqb k j e)

  is_other : (k : ℕ) → (k ≡ j → ⊥) → is j k ≡ 0
  is_other k n = rw (ne_eqb k j n)

  -- no symbol is twice among symbols that are no targets, and targets
  counted-once : (ks ts : List ℕ) → distinct ks ≡ true → distinct ts ≡ true → total (besides ts (is j)) ks + total (is j) ts ≤ 1
  counted-once ks ts d e =
      go (among j ks) (among j ts) (is j j) (is_own j refl)
      (total-once (besides ts (is j)) j (λ k n. besides_none ts (is j) k (is_other k n)) ks d) (total-once (is j) j is_other ts e)
    where
      go : (a b : Bool) (n : ℕ) → n ≡ 1 → total (besides ts (is j)) ks ≤ pick a (pick b 0 n) 0 → total (is j) ts ≤ pick b n 0 → total (besides ts (is j)) ks + total (is j) ts ≤ 1
      go true true n q g h = omega arith
      go true false n q g h = omega arith
      go false true n q g h = omega arith
      go false false n q g h = omega arith

  none-counted : (os : List Order) → total (λ o. is j (symbol_of o)) os ≤ 0 → All Order (λ o. j ≡ symbol_of o → ⊥) os
  unfolding total
  none-counted [] h = nothing
  none-counted (o ∷ os) h = and {a = o} (λ e. omega (arith, is_own (symbol_of o) (sym e))) (none-counted os (omega arith))

-- orders among which each symbol counts at most once are for different symbols
once_differ : (os : List Order) → ((j : ℕ) → total (λ o. is j (symbol_of o)) os ≤ 1) → Pairs Order (Different symbol_of) os
unfolding total
once_differ [] h = nothing
once_differ (o ∷ os) h = and (none-counted (symbol_of o) os (omega (arith, h (symbol_of o), is_own (symbol_of o) (symbol_of o) refl))) (once_differ os (λ j. omega (arith, h j)))

-- ---- places that are asked
-- a held symbol has an entry
found_among : (k : ℕ) (ps : List Position) → Rising (map key_of ps) → among k (map key_of ps) ≡ true → new (seek key_of k ps) ≡ 0
unfolding among
found_among k [] r e = let z : ◌≡◌ {A = ℕ} 0 1 = cc in absurd (omega arith)
found_among k (p ∷ ps) r e = go (eqb (key_of p) k) (leb k (key_of p)) refl refl e (found_among k ps r.1)
  where
    go : (b c : Bool) → eqb (key_of p) k ≡ b → leb k (key_of p) ≡ c → pick b true (among k (map key_of ps)) ≡ true → (among k (map key_of ps) ≡ true → new (seek key_of k ps) ≡ 0)
        → new (pick c (pick b (some p) none) (seek key_of k ps)) ≡ 0
    go true true x y m h = refl
    go true false x y m h = absurd (omega (arith, eqb-true (key_of p) k x, leb-false k (key_of p) y))
    go false true x y m h =
        let l : k < key_of p = omega (arith, leb-true k (key_of p) y, eqb-false (key_of p) k x) in
        let n : among k (map key_of ps) ≡ false = below_not_among k (map key_of ps) (below_first k (key_of p) (map key_of ps) l r.0) r.1 in
        let z : ◌≡◌ {A = ℕ} 0 1 = cc in
        absurd (omega arith)
    go false false x y m h = h m

asked_of_targets : (held : List Position) (ts : List ℕ) → total (λ k. new (seek key_of k held)) ts ≡ not_held ts held
unfolding total not_held
asked_of_targets held [] = refl
asked_of_targets held (t ∷ ts) = go (seek key_of t held) (asked_of_targets held ts)
  where
    go : (o : Option Position) → total (λ k. new (seek key_of k held)) ts ≡ not_held ts held → new o + total (λ k. new (seek key_of k held)) ts ≡ pick (there o) (not_held ts held) (not_held ts held + 1)
    go none h = omega arith
    go (some p) h = omega arith

-- ---- sums over the symbols of orders
module _ (g : ℕ → ℕ) where
  abbrev sum : List PlannedOrder → ℕ
  sum l = total (λ o. g (symbol_of o)) (map order_of l)

  -- an order of quantity 0 is none
  abbrev share : PlannedOrder → ℕ
  share o = pick (is_zero o.quantity.0) 0 (g o.symbol.0)

  share_most : (k : ℕ) (o : PlannedOrder) → o.symbol.0 ≡ k → share o ≤ g k
  share_most k o e = by_test (λ n. n ≤ g k) (is_zero o.quantity.0) 0 (g o.symbol.0) (λ z. omega arith) (λ z. omega (arith, ap g e))

  sum_inserted : (first : PlannedOrder → PlannedOrder → Bool) (o : PlannedOrder) (l : List PlannedOrder) → sum (insert_by first o l) ≡ g o.symbol.0 + sum l
  unfolding total insert_by
  sum_inserted first o [] = refl
  sum_inserted first o (x ∷ l) = by_test (λ k. sum k ≡ g o.symbol.0 + sum (x ∷ l)) (first o x) (o ∷ (x ∷ l)) (x ∷ insert_by first o l) (λ e. refl) (λ e. omega (arith, sum_inserted first o l))

  sum_added : (s : Settings) (os plan : List PlannedOrder) → sum (added_all s os plan) ≤ total share os + sum plan
  unfolding total added_all
  sum_added s [] plan = omega arith
  sum_added s (o ∷ os) plan =
      omega (arith, sum_added s os (added s o plan), added_keeps (λ l. sum l ≤ share o + sum plan) s o plan (omega arith) (λ first e. rw e (omega (arith, sum_inserted first o plan))))

  sum_start : {l k : List PlannedOrder} → Start l k → sum k ≤ sum l
  unfolding total
  sum_start none = omega arith
  sum_start (last e p) = omega (arith, ap g e)
  sum_start (more h) = omega (arith, sum_start h)

  module _ (s : Settings) (equity : ℤ) (price : ℕ → ℤ) where
    -- a close of some quantity is of no target
    share-closing : (ts : List ℕ) (p : Position) → share (closing s equity price ts p) ≤ besides ts g (key_of p)
    unfolding closing planned_close is_zero
    share-closing ts p = go (among (key_of p) ts)
      where
        close : Bool → PlannedOrder
        close b = planned_close s equity (key_of p) p.quantity.0 (price (key_of p)) b

        go : (b : Bool) → share (close b) ≤ pick b 0 (g (key_of p))
        go true = omega arith
        go false = share_most (key_of p) (close false) (planning.close-order s equity (key_of p) p.quantity.0 (price (key_of p)) false).symbol

    sum-closings : (ts : List ℕ) (ps : List Position) (l : List PlannedOrder) → total share (closings s equity price ts ps ++ l) ≤ total (besides ts g) (map key_of ps) + total share l
    unfolding total closings
    sum-closings ts [] l = omega arith
    sum-closings ts (p ∷ ps) l = omega (arith, share-closing ts p, sum-closings ts ps l)

    sum-targetings : (held : List Position) (ts : List ℕ) (ws : List Float) → total share (targetings s equity price held ts ws) ≤ total g ts
    unfolding total targetings
    sum-targetings held [] ws = omega arith
    sum-targetings held (t ∷ ts) [] = omega arith
    sum-targetings held (t ∷ ts) (w ∷ ws) = omega (arith, share_most t (targeting s equity price held t w) (planning.targeting-order s equity price held t w).symbol, sum-targetings held ts ws)

    -- the held symbols that are no targets, and the targets
    sum-plan : (held : List Position) (ts : List ℕ) (ws : List Float) → sum (plan_of s equity price held ts ws) ≤ total (besides ts g) (map key_of held) + total g ts
    unfolding plan_of wanted total
    sum-plan held ts ws =
        let os = wanted s equity price held ts ws in
        omega (arith, sum_start (admitted_is_start s (added_all s os [])), sum_added s os [], sum-closings ts held (targetings s equity price held ts ws), sum-targetings held ts ws)

-- ---- each order is of some quantity, at a price
-- an order that is wanted, unless it is of nothing
abbrev Wanted : PlannedOrder → Type 0
Wanted o = is_zero o.quantity.0 ≡ false → Tradable (order_of o)

order-wanted : (k : ℕ) (p : ℤ) (o : PlannedOrder) → planning.OrderFor k p o → Wanted o
order-wanted k p o h z = record { quantity = z; price = rw (h.priced z).0 (h.priced z).1 }

abbrev Traded : List PlannedOrder → Type 0
Traded l = All Order Tradable (map order_of l)

module _ (s : Settings) where
  -- an order that is cut to nothing is not admitted
  last-traded : (left : ℤ) (o : PlannedOrder) → Tradable (order_of o) → Traded (last_admitted s left o)
  unfolding last_admitted
  last-traded left o h =
      let cut = planned o.symbol.0 (cut_to o.quantity.0 o.price s.quantity_step left) o.price o.drift_bps in
      by_test Traded (is_zero cut.quantity.0) [] _ (λ e. nothing) (λ e.
      by_test Traded (lt_z (notional_of cut) s.min_order_value) [] (cut ∷ []) (λ q. nothing) (λ q.
      and (record { quantity = e; price = h.price }) nothing))

  admitted-traded : (n : ℕ) (left : ℤ) (l : List PlannedOrder) → Each (λ o. Tradable (order_of o)) l → Traded (admitted_from s n left l)
  unfolding admitted_from
  admitted-traded n left [] h = nothing
  admitted-traded n left (o ∷ l) h =
      by_test Traded (reached s.max_trades_per_rebalance n) [] _ (λ a. nothing) (λ a.
      by_test Traded (le_z s.max_rebalance_notional (pos 0)) (o ∷ admitted_from s (n + 1) left l) _ (λ b. and h.0 (admitted-traded (n + 1) left l h.1)) (λ b.
      by_test Traded (le_z left (pos 0)) [] _ (λ c. nothing) (λ c.
      by_test Traded (lt_z left (notional_of o)) (last_admitted s left o) (o ∷ admitted_from s (n + 1) (left -ℤ notional_of o) l) (λ d. last-traded left o h.0) (λ d.
      and h.0 (admitted-traded (n + 1) (left -ℤ notional_of o) l h.1)))))

module _ (s : Settings) (equity : ℤ) (price : ℕ → ℤ) where
  module _ (held : List Position) (ts : List ℕ) (ws : List Float) where
    plan-traded : Traded (plan_of s equity price held ts ws)
    unfolding plan_of admitted
    plan-traded =
        let os = wanted s equity price held ts ws in
        admitted-traded s 0 s.max_rebalance_notional (added_all s os [])
        (added_all-all s (λ o. Tradable (order_of o)) os []
        (wanted-all Wanted s equity price (λ p. true) (λ t. true) held ts ws
        (λ p e. order-wanted (key_of p) (price (key_of p)) (closing s equity price ts p) (planning.closing-order s equity price ts p))
        (λ t w e. order-wanted t (price t) (targeting s equity price held t w) (planning.targeting-order s equity price held t w))
        (at_all (λ p. true) (fresh 0) held (λ i h. refl)) (at_all (λ t. true) 0 ts (λ i h. refl)))
        (omega arith))

    -- ---- all three
    own-plan : Rising (map key_of held) → distinct ts ≡ true → length held + not_held ts held ≤ 64 → OwnOrders held (map order_of (plan_of s equity price held ts ws))
    own-plan r e few =
        let ks = map key_of held in
        let asked : ℕ → ℕ = λ k. new (seek key_of k held) in
        record {
          orders = plan-traded;
          different = once_differ _ (λ j. omega (arith, sum-plan (is j) s equity price held ts ws, counted-once j ks ts (ascending-distinct ks (rising_ascends ks r)) e));
          room = omega (arith, sum-plan asked s equity price held ts ws, asked_of_targets held ts, total-none (besides ts asked) ks (λ k m. besides_none ts asked k (found_among k held r m)));
        }

-- "At equity 0 or below the call is done with no orders"
pub own_orders : (a : Account) → Full (columns_of a.positions) → (ts : List ℕ) (ws : List Float) (ps : List ℕ) (vs : List ℤ) (room : ℕ)
    → is_done (rebalance_answer a ts ws ps vs room) ≡ true → OwnOrders (held_in a.positions) (map order_of (admitted_plan a ts ws (price_of ps vs)))
unfolding admitted_plan total
own_orders a full ts ws ps vs room d =
    let r = rebalance-done a ts ws ps vs room d in
    let held = held_in a.positions in
    let price = price_of ps vs in
    let equity = equity_of price a.cash held in
    let rises : Rising (map key_of held) = rw (keys_of a.positions.count (columns_of a.positions) full) (account-ordered a r.sound full).rising in
    by_test (λ l. OwnOrders held (map order_of l)) (le_z equity (pos 0)) [] (plan_of a.settings equity price held ts ws)
    (λ e. record { orders = nothing; different = nothing; room = omega (arith, r.few) })
    (λ e. own-plan a.settings equity price held ts ws rises r.lists.targets_distinct r.few)
