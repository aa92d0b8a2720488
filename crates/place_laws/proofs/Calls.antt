-- What each call that is given lists answers says what it should of them, and each with one symbol tells index 0 of its prices.
use Prim.Native.Nat.{ℕ, ◌+◌, ◌*◌, ◌≤◌, ◌<◌}
use mathlib.Core.Path.{◌≡◌, refl, sym, ap, ◌∙◌}
use mathlib.Core.Bool.{Bool, true, false, not}
use mathlib.Core.List.{List, []}
use mathlib.Core.Option.{Option, none, some}
use native.Mathlib.Omega.{arith}
use lib.IntN.{ℤ, pos, negsuc}
use lib.Ieee.{Float}
use lib.Signed.{le_z, lt_z}
use lib.Dec.{eqb, leb}
use lib.ListN.{length}
use borrow.Author.Tests.{leb-true, eqb-true, ltb-true}
use Rattle.doubles.specs.Doubles.{all_finite}
use Rattle.position.specs.Symbols.{good_symbol}
use Rattle.position.specs.Rows.{key_of, held, avg, total}
use Rattle.position.specs.declared.position.Filled.{Filled}
use Rattle.position.specs.Fills.{sound_numbers, sound, applied, apply_fill}
use Rattle.table.specs.Keyed.{pick, both, seek}
use Rattle.table.specs.Rows.{holding, is_zero}
use Rattle.answer.specs.declared.Answer.{Answer}
use Rattle.answer.specs.declared.Answer.TheVariants.{Done, BadPrice, TooMany, NoRecordRoom, NotHeld, BufferFull, Unsound}
use Rattle.answer.specs.Numbers.{is_done, unless, or_later}
use Rattle.answer.specs.Places.{alone, place_of}
use Rattle.answer.proofs.Answers.{done_is}
use Rattle.answer.proofs.Choice.{by_test, both_true}
use Rattle.position.specs.declared.position.Position.{Position}
use Rattle.account.specs.declared.account.Account.{Account}
use Rattle.account.specs.declared.holding.Held.{Held}
use Rattle.account.specs.Account.{sound_account, held_in}
use Rattle.account.specs.Calls.{position_of, present_or, absent}
use Rattle.call_lists.specs.Lists.{all_good, distinct, all_priced}
use Rattle.call_lists.specs.Checks.{short_enough, lists_answer}
use Rattle.portfolio.specs.Answers.{has_room_of, not_held, rebalance_answer, close_answer, query_answer, return_answer}
use Rattle.place_laws.specs.Statement.{Says, SaysAlone}
use Rattle.place_laws.proofs.Lists.{lists_say, is_below, first-bad, first-unpriced}
use Rattle.place_laws.proofs.Firsts.{first-repeat}

-- ---- calls with lists
-- a refusal is told as it is; and else what comes later, where the first was done
said_first : (Q : Answer → Type 0) (first later : Answer) → Q first → (Q Done → Q later) → Q (or_later first later)
said_first Q first later p q = by_test Q (is_done first) later first (λ e. let d : Q Done = rw (done_is first e) at p in q d) (λ e. p)

module _ (a : Account) (ts : List ℕ) (ws : List Float) (ps : List ℕ) (vs : List ℤ) where
  pub rebalance-says : (room : ℕ) → Says ts ws ps vs (rebalance_answer a ts ws ps vs room)
  unfolding rebalance_answer
  rebalance-says room =
      by_test Q (sound_account a) _ _
      (λ s. said_first Q (lists_answer ts ws ps vs) later (lists_say ts ws ps vs) (λ c. by_test Q (has_room_of a 64 room) fewer NoRecordRoom (λ r. by_test Q few Done TooMany (λ f. c) (λ f. c)) (λ r. c)))
      (λ s. tt)
    where
      Q : Answer → Type 0
      Q = Says ts ws ps vs

      few : Bool
      few = leb (length (held_in a.positions) + not_held ts (held_in a.positions)) 64

      fewer : Answer
      fewer = unless few TooMany Done

      later : Answer
      later = unless (has_room_of a 64 room) NoRecordRoom fewer

module _ (a : Account) (ps : List ℕ) (vs : List ℤ) where
  pub query_says : Says [] [] ps vs (query_answer a ps vs)
  unfolding query_answer
  query_says = by_test (Says [] [] ps vs) (sound_account a) _ _ (λ s. lists_say [] [] ps vs) (λ s. tt)

  pub return-says : (equities returns : ℕ) → Says [] [] ps vs (return_answer a ps vs equities returns)
  unfolding return_answer
  return-says equities returns =
      by_test (Says [] [] ps vs) (sound_account a) _ _
      (λ s. said_first (Says [] [] ps vs) (lists_answer [] [] ps vs) _ (lists_say [] [] ps vs) (λ c. by_test (Says [] [] ps vs) places Done BufferFull (λ f. c) (λ f. c)))
      (λ s. tt)
    where
      places : Bool
      places = both (leb (a.series.equity_count + 1) equities) (leb (a.series.return_count + 1) returns)

-- ---- calls with one symbol
pub close-says : (a : Account) (s : ℕ) (price : ℤ) (room : ℕ) → SaysAlone s price (close_answer a s price room)
unfolding close_answer
close-says a s price room =
    by_test Q (sound_account a) _ _
    (λ e. by_test Q (good_symbol s) _ _
    (λ g. by_test Q (le_z (pos 1) price) _ _ (λ p. by_test Q (has_room_of a 1 room) asked NoRecordRoom (λ r. by_test Q standing Done NotHeld (λ h. g) (λ h. g)) (λ r. g)) (λ p. (refl, g, is_below price p)))
    (λ g. (refl, g)))
    (λ e. tt)
  where
    Q : Answer → Type 0
    Q = SaysAlone s price

    standing : Bool
    standing = not (is_zero (holding s (held_in a.positions)).quantity.0)

    asked : Answer
    asked = unless standing NotHeld Done

pub position-says : (s : ℕ) (price : ℤ) (a : Account) → SaysAlone s price (position_of s a).answer
unfolding position_of
position-says s price a =
    by_test Q (sound_account a) _ _
    (λ e. by_test Q (good_symbol s) _ _ (λ g. found g (seek key_of s (held_in a.positions))) (λ g. (refl, g)))
    (λ e. tt)
  where
    Q : Held → Type 0
    Q h = SaysAlone s price h.answer

    found : good_symbol s ≡ true → (o : Option Position) → Q (present_or o)
    found g none = g
    found g (some p) = g

-- a fill by itself: its price is asked to be at least 0
below_both : (price : ℤ) → lt_z price (pos 0) ≡ true → lt_z price (pos 1) ≡ true
below_both (pos n) e = absurd (omega (arith, ltb-true n 0 e))
below_both (negsuc n) e = refl

pub apply_fill-says : (p : Position) (q price : ℤ) → SaysAlone (key_of p) price (apply_fill p q price).answer
unfolding apply_fill sound
apply_fill-says p q price = go (good_symbol (key_of p)) refl (sound_numbers (held p) (avg p) (total p)) (lt_z price (pos 0)) refl
  where
    go : (g : Bool) → good_symbol (key_of p) ≡ g → (n : Bool) (below : Bool) → lt_z price (pos 0) ≡ below
        → SaysAlone (key_of p) price (pick {A = Filled} (not (both g n)) (record { answer = Unsound; position = p }) (pick below (record { answer = BadPrice alone; position = p }) (record { answer = Done; position = applied p q price }))).answer
    go true e true true b = (refl, e, below_both price b)
    go true e true false b = e
    go true e false below b = tt
    go false e n below b = tt

-- ---- C's word cuts nothing of a place in lists
module _ (ts : List ℕ) (ws : List Float) (ps : List ℕ) (vs : List ℤ) where
  pub place_small : place_of (lists_answer ts ws ps vs) < 256
  unfolding lists_answer short_enough
  place_small =
      by_test Small (short_enough ts ws ps vs) _ _
      (λ s. let b = both_true (both (leb (length ts) 64) (eqb (length ts) (length ws))) (both (leb (length ps) 128) (eqb (length ps) (length vs))) s in
      let t : length ts ≤ 64 = leb-true (length ts) 64 (both_true (leb (length ts) 64) (eqb (length ts) (length ws)) b.0).0 in
      let c = both_true (leb (length ps) 128) (eqb (length ps) (length vs)) b.1 in
      let p : length ps ≤ 128 = leb-true (length ps) 128 c.0 in
      let q : length ps ≡ length vs = eqb-true (length ps) (length vs) c.1 in
      by_test Small (all_good ts) _ _
      (λ g. by_test Small (all_good ps) _ _
      (λ h. by_test Small (distinct ts) _ _
      (λ d. by_test Small (distinct ps) _ _
      (λ e. by_test Small (all_finite ws) _ _
      (λ f. by_test Small (all_priced vs) _ _ (λ v. omega arith) (λ v. omega (arith, (first-unpriced vs v).within)))
      (λ f. omega arith))
      (λ e. omega (arith, (first-repeat ps e).within)))
      (λ d. omega (arith, (first-repeat ts d).within)))
      (λ h. omega (arith, (first-bad ps h).within)))
      (λ g. omega (arith, (first-bad ts g).within)))
      (λ s. omega arith)
    where
      Small : Answer → Type 0
      Small w = place_of w < 256
