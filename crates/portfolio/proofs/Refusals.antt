-- What a call that is not refused has.
use Prim.Native.Nat.{ℕ, ◌+◌, ◌≤◌, ◌<◌}
use mathlib.Core.Path.{◌≡◌, refl, sym, ap, ◌∙◌}
use mathlib.Core.Bool.{Bool, true, false}
use mathlib.Core.List.{List}
use native.Mathlib.Omega.{arith}
use lib.Dec.{leb}
use lib.IntN.{ℤ, pos}
use lib.Ieee.{Float}
use lib.ListN.{length}
use lib.Signed.{le_z}
use borrow.Author.Tests.{leb-true}
use Rattle.std.proofs.Common.{Result, Ok, Err}
use Rattle.answer.specs.declared.Answer.{Answer}
use Rattle.answer.specs.Numbers.{checked}
use Rattle.answer.specs.declared.Answer.TheVariants.{Done, BadSymbol, BadPrice, TooMany, NoRecordRoom, BufferFull, Unsound}
use Rattle.answer.specs.Places.{alone}
use Rattle.answer.proofs.Answers.{done_is, passed, passed_both}
use Rattle.table.specs.Keyed.{pick, both}
use Rattle.table.specs.Inner.Keyed.{Rising}
use Rattle.table.specs.Rows.{cols, columns_of, Full}
use Rattle.table.proofs.Keyed.{both_true}
use Rattle.call_lists.specs.Checks.{unless, lists_answer, prices_answer}
use Rattle.call_lists.proofs.Checks.{Accepted, done_accepted}
use Rattle.account.specs.declared.account.Account.{Account}
use Rattle.position.specs.Symbols.{good_symbol}
use Rattle.account.specs.Account.{sound_account, held_in}
use Rattle.portfolio.specs.Answers.{is_done, or_later, has_room_of, not_held, rebalance_answer, query_answer, return_answer, close_answer}
use Rattle.portfolio.specs.Inner.Planned.{Ready}

-- columns of 64 places, as every function knows of those that it is lent
pub full : {k : List ℕ} {q a r t : List ℤ} → length k ≡ 64 → length q ≡ 64 → length a ≡ 64 → length r ≡ 64 → length t ≡ 64 → Full (cols k q a r t)
full k q a r t = record { symbol = k; quantity = q; average = a; realized = r; total = t }

-- ---- what a check tells of its answer
no_error_at : (w : Answer) (b : Bool) → ◌≡◌ {A = Result Unit Answer} (Ok tt) (pick b (Ok tt) (Err w)) → b ≡ true
no_error_at w true e = refl
no_error_at w false e = absurd (let z : ◌≡◌ {A = ℕ} 0 1 = cc in omega arith)

pub no_error : (w : Answer) → Ok tt ≡ checked w → is_done w ≡ true
no_error w e = no_error_at w (is_done w) e

error_at : (v w : Answer) (b : Bool) → ◌≡◌ {A = Result Unit Answer} (Err v) (pick b (Ok tt) (Err w)) → (v ≡ w) × (b ≡ false)
error_at v w true e = absurd (let z : ◌≡◌ {A = ℕ} 0 1 = cc in omega arith)
error_at v w false e = (cc, refl)

pub an_error : (v w : Answer) → Err v ≡ checked w → (v ≡ w) × (is_done w ≡ false)
an_error v w e = error_at v w (is_done w) e

-- ---- a query with prices
pub record Queried (a : Account) (ps : List ℕ) (vs : List ℤ) : Type 0 where
  pub sound : sound_account a ≡ true
  pub prices : prices_answer ps vs ≡ Done

pub query_done : (a : Account) (ps : List ℕ) (vs : List ℤ) → is_done (query_answer a ps vs) ≡ true → Queried a ps vs
unfolding query_answer
query_done a ps vs e =
    let p = passed (sound_account a) Unsound (prices_answer ps vs) refl e in
    record { sound = p.0; prices = done_is _ p.1 }

-- ---- recording a return
-- the answer of a query comes first
return_as_query : (a : Account) (ps : List ℕ) (vs : List ℤ) (n m : ℕ) → return_answer a ps vs n m
    ≡ or_later (query_answer a ps vs) (unless (both (leb (a.series.equity_count + 1) n) (leb (a.series.return_count + 1) m)) BufferFull Done)
unfolding return_answer query_answer
return_as_query a ps vs n m = go (sound_account a)
  where
    go : (b : Bool) → unless b Unsound (or_later (prices_answer ps vs) (unless (both (leb (a.series.equity_count + 1) n) (leb (a.series.return_count + 1) m)) BufferFull Done))
        ≡ or_later (unless b Unsound (prices_answer ps vs)) (unless (both (leb (a.series.equity_count + 1) n) (leb (a.series.return_count + 1) m)) BufferFull Done)
    go true = refl
    go false = refl

pub record Returned (a : Account) (ps : List ℕ) (vs : List ℤ) (n m : ℕ) : Type 0 where
  pub query : query_answer a ps vs ≡ Done
  pub equities : a.series.equity_count < n
  pub returns : a.series.return_count < m

pub return-done : (a : Account) (ps : List ℕ) (vs : List ℤ) (n m : ℕ) → is_done (return_answer a ps vs n m) ≡ true → Returned a ps vs n m
return-done a ps vs n m e =
    let p = passed_both (query_answer a ps vs) _ (sym (ap is_done (return_as_query a ps vs n m)) ∙ e) in
    let q = passed (both (leb (a.series.equity_count + 1) n) (leb (a.series.return_count + 1) m)) BufferFull Done refl p.1 in
    let r = both_true (leb (a.series.equity_count + 1) n) _ q.0 in
    let k : a.series.equity_count + 1 ≤ n = leb-true _ _ r.0 in
    let l : a.series.return_count + 1 ≤ m = leb-true _ _ r.1 in
    record { query = done_is _ p.0; equities = omega arith; returns = omega arith }

-- ---- closing
pub record Closing (a : Account) (s : ℕ) (price : ℤ) (room : ℕ) : Type 0 where
  pub sound : sound_account a ≡ true
  pub good : good_symbol s ≡ true
  pub priced : le_z (pos 1) price ≡ true
  pub roomy : has_room_of a 1 room ≡ true

pub close-done : (a : Account) (s : ℕ) (price : ℤ) (room : ℕ) → is_done (close_answer a s price room) ≡ true → Closing a s price room
unfolding close_answer
close-done a s price room e =
    let p = passed (sound_account a) Unsound _ refl e in
    let q = passed (good_symbol s) (BadSymbol alone) _ refl p.1 in
    let r = passed (le_z (pos 1) price) (BadPrice alone) _ refl q.1 in
    let t = passed (has_room_of a 1 room) NoRecordRoom _ refl r.1 in
    record { sound = p.0; good = q.0; priced = r.0; roomy = t.0 }

-- ---- a rebalance
pub record Rebalancing (a : Account) (ts : List ℕ) (ws : List Float) (ps : List ℕ) (vs : List ℤ) (room : ℕ) : Type 0 where
  pub sound : sound_account a ≡ true
  pub lists : Accepted ts ws ps vs
  pub roomy : has_room_of a 64 room ≡ true
  pub few : length (held_in a.positions) + not_held ts (held_in a.positions) ≤ 64

module _ (a : Account) (ts : List ℕ) (ws : List Float) (ps : List ℕ) (vs : List ℤ) (room : ℕ) where
  pub rebalance-done : is_done (rebalance_answer a ts ws ps vs room) ≡ true → Rebalancing a ts ws ps vs room
  unfolding rebalance_answer
  rebalance-done e =
      let p = passed (sound_account a) Unsound _ refl e in
      let q = passed_both (lists_answer ts ws ps vs) _ p.1 in
      let r = passed (has_room_of a 64 room) NoRecordRoom _ refl q.1 in
      let t = passed (leb (length (held_in a.positions) + not_held ts (held_in a.positions)) 64) TooMany _ refl r.1 in
      record { sound = p.0; lists = done_accepted ts ws ps vs (done_is _ q.0); roomy = r.0; few = leb-true _ _ t.0 }

  -- at prices whose symbols ascend: those of the call, or others that serve for them
  pub rebalance_ready : Rebalancing a ts ws ps vs room → Full (columns_of a.positions) → (symbols : List ℕ) → Rising symbols → Ready a ts ws symbols room
  rebalance_ready h f symbols r = record {
    sound = h.sound;
    full = f;
    paired = h.lists.targets_paired;
    apart = h.lists.targets_distinct;
    priced = r;
    roomy = h.roomy;
    few = h.few;
  }
