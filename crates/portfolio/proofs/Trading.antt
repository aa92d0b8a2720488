-- A run of orders on an account's columns is the run on the account, and its records stand in the first places.
use Prim.Native.Nat.{ℕ, ◌*◌, ◌/◌, ◌≤◌, min}
use mathlib.Core.Path.{◌≡◌, refl, sym, ap, ◌∙◌}
use mathlib.Core.Bool.{Bool, true, false}
use mathlib.Core.List.{List, [], ◌∷◌}
use native.Mathlib.Omega.{arith}
use lib.Dec.{leb}
use lib.ListN.{length, length-take, set, replicate}
use lib.IntN.{ℤ, pos}
use borrow.Author.Tests.{leb-true}
use Rattle.answer.specs.declared.Answer.TheVariants.{Done}
use Rattle.table.specs.Rows.{holding}
use Rattle.table.specs.declared.table.Columns.{Columns}
use Rattle.fills.specs.declared.terms.Book.{Book}
use Rattle.fills.specs.declared.terms.Order.{Order}
use Rattle.fills.specs.declared.record.ExecutionKind.{ExecutionKind}
use Rattle.fills.specs.declared.record.ExecutionRecord.{ExecutionRecord}
use Rattle.fills.specs.Records.{Buffers, buffers, all_words, all_ints, fronted}
use Rattle.fills.specs.Orders.{order}
use Rattle.fills.specs.Inner.Runs.{orders, Runs}
use Rattle.fills.specs.Fill.{fill_all}
use Rattle.fills.proofs.Fronts.{run_fronts, unrecorded, unrecorded-run}
use Rattle.account.specs.declared.account.Account.{Account}
use Rattle.account.specs.declared.account.Ledger.{Ledger}
use Rattle.account.specs.Account.{held_in}
use Rattle.account.specs.Inner.Account.{account_with}
use Rattle.account.proofs.SoundAccounts.{with_positions}
use Rattle.account.proofs.Tables.{ordered-table}
use Rattle.portfolio.specs.Answers.{is_done, record_places, has_room_of, close_answer}
use Rattle.portfolio.specs.Rebalance.{Outcome, terms_by, terms_of, state_of, account_after}
use Rattle.sums.specs.Sums.{sat_neg}
use Rattle.portfolio.specs.Close.{after_close, position_closed}
use Rattle.portfolio.specs.Trades.{Filed, filed}
use Rattle.portfolio.specs.Inner.Trades.{state_after, after_orders, book_of_ledger, ledger_from}

pub orders-most : (m : ℕ) (s : List ℕ) (q p : List ℤ) → length (orders m s q p) ≤ m
unfolding orders
orders-most m s q p = simp length-take (omega arith)

-- ---- the room that was asked for
room-recorded : (m w i : ℕ) → leb m (record_places w i) ≡ true → (m * 4 ≤ w) × (m * 8 ≤ i)
room-recorded m w i e =
    let h : m ≤ min (w / 4) (i / 8) = leb-true _ _ e in
    (omega arith, omega arith)

abbrev pub filing : Account → Buffers → Filed
filing x b = record { answer = Done; account = x; records = b.written; words = b.words; ints = b.ints }

module _ (h : Ledger) (c : Columns) (os : List Order) (period : ℕ) (kind : ExecutionKind) (ws : List ℕ) (is : List ℤ) (r : Book) (d : Columns) (ws' : List ℕ) (is' : List ℤ)
    (m : ℕ) (few : length os ≤ m) (room : has_room_of (account_with h c) m (record_places (length ws) (length is)) ≡ true)
    (g : Runs (terms_by h.settings period kind) os (book_of_ledger h) c (buffers ws is 0) r d (buffers ws' is' r.written)) where
  abbrev a : Account
  a = account_with h c

  abbrev made : List ExecutionRecord
  made = (state_after a os period kind).records

  abbrev fronts : List ExecutionRecord → Buffers
  fronts rs = buffers (fronted (all_words rs) ws) (fronted (all_ints rs) is) (length rs)

  -- "records fill the first places [..] and the rest are as found"
  records-filed : buffers ws' is' r.written ≡ fronts made
  unfolding has_room_of all_words all_ints
  records-filed = go a.settings.recording refl
    where
      go : (b : Bool) → a.settings.recording ≡ b → buffers ws' is' r.written ≡ fronts made
      go true e =
          let k = room-recorded m (length ws) (length is) (rw e at room) in
          let u : length os * 4 ≤ length ws = omega (arith, k.0) in
          let v : length os * 8 ≤ length is = omega (arith, k.1) in
          run_fronts _ os (book_of_ledger h) c (buffers ws is 0) r d (buffers ws' is' r.written) g refl u v
      go false e =
          let n : made ≡ [] = unrecorded (terms_of a period kind) os (state_of a) e in
          unrecorded-run _ os (book_of_ledger h) c (buffers ws is 0) r d (buffers ws' is' r.written) g e ∙ sym (ap fronts n)

  account-put : (n : ℕ) (traded : ℤ) → account_with (ledger_from h r n traded) d ≡ account_after a (state_after a os period kind) n traded
  unfolding account_after
  account-put n traded = ap (λ t. with_positions t (account_with (ledger_from h r n traded) d)) (sym (ordered-table r.count d g.ordered)) ∙ ap (λ s. account_after a s n traded) g.done

  pub run-filed : (n : ℕ) (traded : ℤ) → filing (account_with (ledger_from h r n traded) d) (buffers ws' is' r.written) ≡ filed (after_orders a os period kind n traded) ws is
  run-filed n traded = ap (λ x. filing x (buffers ws' is' r.written)) (account-put n traded) ∙ ap (filing (account_after a (state_after a os period kind) n traded)) records-filed

-- ---- a close is a run of one order
pub one-order : (s : ℕ) (q p : ℤ) → orders 1 (set (replicate 64 0) 0 s) (set (replicate 64 (pos 0)) 0 q) (set (replicate 64 (pos 0)) 0 p) ≡ order s q p ∷ []
unfolding orders
one-order s q p = refl

-- a run that leaves the last-rebalance figures
abbrev kept : Account → ℕ → ExecutionKind → List Order → Outcome
kept a period kind os = after_orders a os period kind a.counters.last_rebalance_order_count a.counters.last_rebalance_notional

module _ (a : Account) (s : ℕ) (price : ℤ) (period : ℕ) (kind : ExecutionKind) (room : ℕ) where
  pub closed_by_run : is_done (close_answer a s price room) ≡ true → (q : ℤ) → q ≡ sat_neg (holding s (held_in a.positions)).quantity.0
      → after_orders a (orders 1 (set (replicate 64 0) 0 s) (set (replicate 64 (pos 0)) 0 q) (set (replicate 64 (pos 0)) 0 price)) period kind a.counters.last_rebalance_order_count a.counters.last_rebalance_notional
      ≡ position_closed a s price period kind room
  unfolding position_closed after_close fill_all
  closed_by_run e q h =
      rw e (ap (kept a period kind) (one-order s q price) ∙ ap (λ k. kept a period kind (order s k price ∷ [])) h)
