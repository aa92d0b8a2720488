-- A call on a sound account leaves it sound, done or refused.
-- Numbers of the code fit 64 bits, and a table's columns have 64 places; the laws take both as given.
use Prim.Native.Nat.{ℕ}
use mathlib.Core.Path.{◌≡◌}
use mathlib.Core.Bool.{true, false}
use mathlib.Core.List.{List, [], ◌∷◌, map}
use native.Mathlib.Omega.{arith}
use lib.IntN.{ℤ, pos}
use lib.Ieee.{Float}
use lib.ListN.{length, get_or}
use lib.Signed.{le_z}
use mir.Syntax.{w64}
use mir.Val.{SFits}
use Rattle.position.specs.declared.position.Position.{Position}
use Rattle.position.specs.Rows.{key_of}
use Rattle.position.specs.Symbols.{good_symbol}
use Rattle.position.specs.Fills.{sound}
use Rattle.table.specs.Keyed.{all}
use Rattle.table.specs.Rows.{columns_of, is_zero, Full}
use Rattle.table.proofs.Keyed.{by_test, both_true, rising_ascends}
use Rattle.table.proofs.Zipped.{keys_of}
use Rattle.call_lists.specs.Lists.{all_good, price_of}
use Rattle.call_lists.proofs.Prices.{price-fits}
use Rattle.fills.specs.declared.terms.Order.{Order}
use Rattle.fills.specs.declared.record.ExecutionKind.{ExecutionKind}
use Rattle.fills.specs.Orders.{State}
use Rattle.fills.specs.Fill.{fill_all}
use Rattle.fills.proofs.Soundness.{Sound, AllListed, fills-keep-sound}
use Rattle.account.specs.declared.account.Account.{Account}
use Rattle.account.specs.declared.settings.Settings.{Settings}
use Rattle.account.specs.Account.{sound_account, held_in}
use Rattle.account.proofs.Columns.{rows-length}
use Rattle.account.proofs.SoundAccounts.{account-cash, account-settings, account-costs, account-ordered, account_positions, parts_account, series-keep-sound}
use Rattle.account.proofs.Tables.{table-sound}
use Rattle.wanted.specs.declared.planned.PlannedOrder.{PlannedOrder}
use Rattle.wanted.specs.Equity.{equity_of}
use Rattle.wanted.specs.Plan.{wanted}
use Rattle.wanted.proofs.Plans as planning
use Rattle.admission.specs.Admission.{added_all}
use Rattle.admission.specs.Inner.Kept.{Each}
use Rattle.admission.specs.Running.{in_running_order, plan_of}
use Rattle.admission.proofs.Kept.{wanted-all, added_all-all, admitted-all, running_all}
use Rattle.portfolio.specs.Answers.{is_done, close_answer, rebalance_answer, return_answer}
use Rattle.portfolio.specs.Rebalance.{Outcome, order_of, terms_of, state_of, account_after, admitted_plan, after_plan, after_rebalance, rebalanced}
use Rattle.portfolio.specs.Close.{close_order, after_close, position_closed}
use Rattle.portfolio.specs.Returns.{Recorded, recorded}
use Rattle.portfolio.proofs.Refusals.{close-done, rebalance-done}

-- ---- orders of good symbols at listed prices
abbrev Tradable : PlannedOrder → Type 0
Tradable o = (good_symbol o.symbol.0 ≡ true) × (le_z (pos 1) o.price ≡ true) × SFits w64 o.price

-- an order, unless it is of nothing
abbrev Wanted : PlannedOrder → Type 0
Wanted o = is_zero o.quantity.0 ≡ false → Tradable o

order-wanted : (k : ℕ) (p : ℤ) (o : PlannedOrder) → planning.OrderFor k p o → good_symbol k ≡ true → SFits w64 p → Wanted o
order-wanted k p o h g f z =
    let w = h.priced z in
    (rw h.symbol g, rw w.0 w.1, h.price-fits f)

sound-symbol : (p : Position) → sound p ≡ true → good_symbol (key_of p) ≡ true
unfolding sound
sound-symbol p e = (both_true (good_symbol (key_of p)) _ e).0

module _ (s : Settings) (equity : ℤ) (price : ℕ → ℤ) (fits : (k : ℕ) → SFits w64 (price k)) where
  plan_tradable : (held : List Position) (ts : List ℕ) (ws : List Float) → all sound held ≡ true → all_good ts ≡ true → Each Tradable (plan_of s equity price held ts ws)
  unfolding plan_of all_good
  plan_tradable held ts ws e g =
      admitted-all s (added_all s (wanted s equity price held ts ws) []) (λ k p. (good_symbol k ≡ true) × (le_z (pos 1) p ≡ true) × SFits w64 p)
      (added_all-all s Tradable (wanted s equity price held ts ws) []
      (wanted-all Wanted s equity price sound good_symbol held ts ws
      (λ p h. order-wanted (key_of p) (price (key_of p)) _ (planning.closing-order s equity price ts p) (sound-symbol p h) (fits (key_of p)))
      (λ t w h. order-wanted t (price t) _ (planning.targeting-order s equity price held t w) h (fits t))
      e g)
      (omega arith))

orders_listed : (l : List PlannedOrder) → Each Tradable l → AllListed (map order_of l)
orders_listed [] h = omega arith
orders_listed (o ∷ l) h = (record { symbol = h.0.0; price = h.0.1; price-fits = h.0.2 }, orders_listed l h.1)

-- ---- calls
module _ (a : Account) (f : Full (columns_of a.positions)) (e : sound_account a ≡ true) where
  state-sound : Sound (state_of a)
  state-sound =
      let o = account-ordered a e f in
      record {
        cash = account-cash a e;
        positions = account_positions a e f;
        rising = rw (keys_of a.positions.count (columns_of a.positions) f) o.rising;
        room = omega (arith, rows-length (columns_of a.positions) f a.positions.count o.small, o.small);
      }

  after-sound : (s : State) (n : ℕ) (v : ℤ) → Sound s → sound_account (account_after a s n v) ≡ true
  unfolding account_after
  after-sound s n v h = parts_account (account_after a s n v) h.cash (account-settings a e) (table-sound s.held h.room (rising_ascends (map key_of s.held) h.rising) h.positions)

  run_sound : (os : List Order) (period : ℕ) (kind : ExecutionKind) → AllListed os → Sound (fill_all (terms_of a period kind) os (state_of a))
  run_sound os period kind l = fills-keep-sound (terms_of a period kind) (account-costs a e) os l (state_of a) state-sound

  pub close_keeps_sound : (s : ℕ) (price : ℤ) → SFits w64 price → (period : ℕ) (kind : ExecutionKind) (room : ℕ) → sound_account (position_closed a s price period kind room).account ≡ true
  unfolding position_closed after_close fill_all
  close_keeps_sound s price fits period kind room =
      by_test (λ (o : Outcome). sound_account o.account ≡ true) (is_done (close_answer a s price room)) _ _
      (λ d.
      let c = close-done a s price room d in
      after-sound _ _ _ (run_sound (close_order a s price ∷ []) period kind (record { symbol = c.good; price = c.priced; price-fits = fits }, omega arith)))
      (λ d. e)

  pub rebalance_keeps_sound : (ts : List ℕ) (ws : List Float) (ps : List ℕ) (vs : List ℤ) → ((i : ℕ) → SFits w64 (get_or vs i (pos 0))) → (period : ℕ) (kind : ExecutionKind) (room : ℕ)
      → sound_account (rebalanced a ts ws ps vs period kind room).account ≡ true
  unfolding rebalanced after_rebalance after_plan admitted_plan
  rebalance_keeps_sound ts ws ps vs fits period kind room =
      by_test (λ (o : Outcome). sound_account o.account ≡ true) (is_done (rebalance_answer a ts ws ps vs room)) _ _
      (λ d.
      let h = rebalance-done a ts ws ps vs room d in
      let price = price_of ps vs in
      let equity = equity_of price a.cash (held_in a.positions) in
      let p = plan_tradable a.settings equity price (λ k. price-fits k ps vs fits) (held_in a.positions) ts ws (account_positions a e f) h.lists.targets_good in
      let plan = admitted_plan a ts ws price in
      let q : Each Tradable plan = by_test (Each Tradable) (le_z equity (pos 0)) [] (plan_of a.settings equity price (held_in a.positions) ts ws) (λ z. omega arith) (λ z. p) in
      after-sound _ _ _ (run_sound _ period kind (orders_listed (in_running_order a.settings plan) (running_all a.settings plan Tradable q))))
      (λ d. e)

  pub return_keeps_sound : (ps : List ℕ) (vs : List ℤ) (equities : List ℤ) (returns : List Float) → sound_account (recorded a ps vs equities returns).account ≡ true
  unfolding recorded
  return_keeps_sound ps vs equities returns = by_test (λ (o : Recorded). sound_account o.account ≡ true) (is_done (return_answer a ps vs (length equities) (length returns))) _ _ (λ d. series-keep-sound a e _) (λ d. e)
