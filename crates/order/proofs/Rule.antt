-- Condition 3 for any fills that keep a few laws. Cash is a sum that has to stay at or above 0, so raising before lowering never hurts; the table's changes for
-- different symbols commute. Nothing here knows what an order costs or what it makes of a position.
use Prim.Native.Nat.{ℕ, ◌+◌, ◌-◌, ◌≤◌, ◌<◌, ◌^◌}
use mathlib.Core.List.{List, [], ◌∷◌}
use mathlib.Core.Bool.{Bool, true, false, ◌&&◌}
use mathlib.Core.Option.{Option, some}
use mathlib.Core.Path.{◌≡◌, refl, sym, ap, ◌∙◌, subst}
use native.Mathlib.Omega.{arith}
use lib.Dec.{T}
use lib.Ieee.Bits.{is_true}
use lib.ListN.{length}
use lib.IntN.{ℤ, pos, neg_ℤ, ◌+ℤ◌, ◌-ℤ◌}
use lib.Signed.{lt_z, le_z}
use Rattle.sums.specs.Sums.{sat_sub}
use Rattle.sums.proofs.Ints.{P, N, P_pos, N-pos, P-neg, N-neg, P-add, P-sub, P-zero, N-zero, fits_of, sat_sub_exact, eq_of, le_yes, le_is, lt_yes, lt_no}
use Rattle.table.specs.Keyed.{seek, put, put64, new}
use Rattle.table.proofs.Keyed.{both_true, seek_key, seek-put, put-swap, put-length, put-room}
use Rattle.order.specs.Running.{Perm, done, keep, swap, then, total, All, nothing, and, Pairs, Last, Different, Room, NotBelow0, InRange}
use Rattle.order.proofs.Perms.{total_perm, all_perm, pairs_perm, all_map}

-- What the theorem asks of the fills of orders O on states A with positions Q.
pub record Rule (O Q A : Type 0) : Type 1 where
  -- an order's symbol, and a position's
  pub symbol : O → ℕ
  pub key : Q → ℕ
  -- the cash that the order takes when it fills whole (below 0: what it raises), and what it makes of its symbol's position
  pub taken : O → ℤ
  pub apply : O → Option Q → Q
  pub cash : A → ℤ
  pub held : A → List Q
  -- whether the order fills whole, and what running it makes of the state, filled whole or not
  pub whole : O → A → Bool
  pub run : O → A → A
  -- the orders that the laws speak of
  pub Good : O → Type 0
  -- the laws
  pub made_key : (o : O) (q : Option Q) → ((p : Q) → q ≡ some p → key p ≡ symbol o) → key (apply o q) ≡ symbol o
  pub whole_is : (o : O) (a : A) → Good o → whole o a ≡ le_z (taken o) (cash a)
  pub run-cash : (o : O) (a : A) → Good o → whole o a ≡ true → cash (run o a) ≡ sat_sub (cash a) (taken o)
  pub run-held : (o : O) (a : A) → Good o → whole o a ≡ true → held (run o a) ≡ put64 key (apply o (seek key (symbol o) (held a))) (held a)

abbrev pub change : {O Q A : Type 0} → Rule O Q A → O → ℤ
change R o = neg_ℤ (R.taken o)

abbrev pub lowers : {O Q A : Type 0} → Rule O Q A → O → Bool
lowers R o = lt_z (change R o) (pos 0)

abbrev pub raises : {O Q A : Type 0} → Rule O Q A → O → Bool
raises R o = lt_z (pos 0) (change R o)

abbrev pub raised : {O Q A : Type 0} → Rule O Q A → O → ℕ
raised R o = P (change R o)

-- the state after a list of orders, and whether each of them filled whole
unfoldable pub after : {O Q A : Type 0} → Rule O Q A → List O → A → A
after R [] a = a
after R (o ∷ os) a = after R os (R.run o a)

unfoldable pub all_whole_of : {O Q A : Type 0} → Rule O Q A → List O → A → Bool
all_whole_of R [] a = true
all_whole_of R (o ∷ os) a = R.whole o a && all_whole_of R os (R.run o a)

-- no order that lowers cash stands ahead of one that does not
abbrev pub LowersLast : {O Q A : Type 0} → Rule O Q A → List O → Type 0
LowersLast R os = Last (lowers R) os

-- no order that lowers cash stands ahead of one that raises it; one that does neither may stand anywhere
abbrev pub RaisesFirst : {O Q A : Type 0} → Rule O Q A → List O → Type 0
RaisesFirst {O} R os = Pairs O (λ x y. T (lowers R x) → T (raises R y) → ⊥) os

-- 1 for an order whose symbol the table lacks
abbrev pub new_of : {O Q A : Type 0} → Rule O Q A → List Q → O → ℕ
new_of R ps o = new (seek R.key (R.symbol o) ps)

abbrev pub Differ : {O Q A : Type 0} → Rule O Q A → O → O → Type 0
Differ R x y = Different R.symbol x y

-- what the cash asks
pub record Funded {O Q A : Type 0} (R : Rule O Q A) (os : List O) (a : A) : Type 0 where
  pub orders : All O R.Good os
  pub cash-low : NotBelow0 (R.cash a)
  pub cash_top : InRange (R.cash a +ℤ pos (total (raised R) os))

-- what the positions ask besides
pub record Apart {O Q A : Type 0} (R : Rule O Q A) (os : List O) (a : A) : Type 0 where
  pub differ : Pairs O (Differ R) os
  pub room : Room (length (R.held a)) (total (new_of R (R.held a)) os)

-- ---- tests and numbers
not_above : (z : ℤ) → lt_z (pos 0) z ≡ false → P z ≡ 0
unfolding P N
not_above z e = P-zero z (le_is z (pos 0) (omega (arith, lt_no (pos 0) z e)))

not_below : (z : ℤ) → lt_z z (pos 0) ≡ false → N z ≡ 0
unfolding P N
not_below z e = N-zero z (le_is (pos 0) z (omega (arith, lt_no z (pos 0) e)))

not_both : (z : ℤ) → T (lt_z z (pos 0)) → T (lt_z (pos 0) z) → ⊥
unfolding P N
not_both z s t = omega (arith, lt_yes z (pos 0) (is_true _ s), lt_yes (pos 0) z (is_true _ t))

-- a difference that is a number of an i64
sub-whole : (c : ℕ) (d : ℤ) (m : ℕ) → m + P d ≡ c + N d → m < 2 ^ 63 → sat_sub (pos c) d ≡ pos m
unfolding P N
sub-whole c d m e h =
    let same : pos c -ℤ d ≡ pos m = eq_of (pos c -ℤ d) (pos m) (omega (arith, P-sub (pos c) d)) in
    sat_sub_exact (pos c) d (fits_of (pos c -ℤ d) (omega (arith, ap P same, ap N same)) (omega (arith, ap P same, ap N same))) ∙ same

module _ {O Q A : Type 0} (R : Rule O Q A) where
  -- ---- the table
  up : O → List Q → List Q
  up o ps = put R.key (R.apply o (seek R.key (R.symbol o) ps)) ps

  ups : List O → List Q → List Q
  ups [] ps = ps
  ups (o ∷ os) ps = ups os (up o ps)

  applied_key : (o : O) (ps : List Q) → R.key (R.apply o (seek R.key (R.symbol o) ps)) ≡ R.symbol o
  applied_key o ps = R.made_key o (seek R.key (R.symbol o) ps) (λ p e. seek_key R.key (R.symbol o) ps p e)

  seek_up : (x o : O) (ps : List Q) → Differ R o x → seek R.key (R.symbol x) (up o ps) ≡ seek R.key (R.symbol x) ps
  unfolding up
  seek_up x o ps n = seek-put R.key (R.symbol x) (R.apply o (seek R.key (R.symbol o) ps)) ps (λ e. n (sym (applied_key o ps) ∙ sym e))

  up_swap : (x y : O) (ps : List Q) → Differ R x y → up x (up y ps) ≡ up y (up x ps)
  unfolding up
  up_swap x y ps n =
      let px : Q = R.apply x (seek R.key (R.symbol x) ps) in
      let py : Q = R.apply y (seek R.key (R.symbol y) ps) in
      ap (λ (q : Option Q). put R.key (R.apply x q) (put R.key py ps)) (seek_up x y ps (λ e. n (sym e)))
      ∙ put-swap R.key px py ps (λ e. n (sym (applied_key x ps) ∙ e ∙ applied_key y ps))
      ∙ sym (ap (λ (q : Option Q). put R.key (R.apply y q) (put R.key px ps)) (seek_up y x ps n))

  ups_perm : {x y : List O} → Perm O x y → Pairs O (Differ R) x → (ps : List Q) → ups x ps ≡ ups y ps
  unfolding ups
  ups_perm done h ps = refl
  ups_perm (keep {a} p) (and k h) ps = ups_perm p h (up a ps)
  ups_perm (swap {a} {b} {x}) (and (and n k) h) ps = ap (ups x) (up_swap b a ps (λ e. n (sym e)))
  ups_perm (then p q) h ps = ups_perm p h ps ∙ ups_perm q (pairs_perm (λ a b n e. n (sym e)) p h) ps

  new_up : (o : O) (os : List O) (ps : List Q) → All O (Differ R o) os → total (new_of R (up o ps)) os ≡ total (new_of R ps) os
  unfolding total
  new_up o [] ps nothing = refl
  new_up o (x ∷ os) ps (and n h) = omega (arith, ap new (seek_up x o ps n), new_up o os ps h)

  length_up : (o : O) (ps : List Q) → length (up o ps) ≡ length ps + new_of R ps o
  unfolding up
  length_up o ps =
      let q : Q = R.apply o (seek R.key (R.symbol o) ps) in
      put-length R.key q ps ∙ ap (λ (s : ℕ). length ps + new (seek R.key s ps)) (applied_key o ps)

  up_room : (o : O) (ps : List Q) → Room (length ps) (new_of R ps o) → put64 R.key (R.apply o (seek R.key (R.symbol o) ps)) ps ≡ up o ps
  unfolding up
  up_room o ps h =
      let q : Q = R.apply o (seek R.key (R.symbol o) ps) in
      put-room R.key q ps (subst (λ (s : ℕ). Room (length ps) (new (seek R.key s ps))) (sym (applied_key o ps)) h)

  -- the positions that a list of orders leaves, each filled whole
  held_after : (os : List O) (a : A) → All O R.Good os → Pairs O (Differ R) os → Room (length (R.held a)) (total (new_of R (R.held a)) os)
      → all_whole_of R os a ≡ true → R.held (after R os a) ≡ ups os (R.held a)
  unfolding after all_whole_of ups total
  held_after [] a nothing nothing r w = refl
  held_after (o ∷ os) a (and k ks) (and n ns) r w =
      let e : R.whole o a ≡ true = (both_true (R.whole o a) (all_whole_of R os (R.run o a)) w).0 in
      let f : all_whole_of R os (R.run o a) ≡ true = (both_true (R.whole o a) (all_whole_of R os (R.run o a)) w).1 in
      let m : Room (length (R.held a)) (new_of R (R.held a) o) = omega arith in
      let h : R.held (R.run o a) ≡ up o (R.held a) = R.run-held o a k e ∙ up_room o (R.held a) m in
      let l : Room (length (up o (R.held a))) (total (new_of R (up o (R.held a))) os) = omega (arith, length_up o (R.held a), new_up o os (R.held a) n) in
      let r' : Room (length (R.held (R.run o a))) (total (new_of R (R.held (R.run o a))) os) = subst (λ (ps : List Q). Room (length ps) (total (new_of R ps) os)) (sym h) l in
      held_after os (R.run o a) ks ns r' f ∙ ap (ups os) h

  -- ---- the cash
  takes : O → ℕ
  takes o = N (change R o)

  whole_le : (o : O) (a : A) (c : ℕ) → R.Good o → R.cash a ≡ pos c → R.whole o a ≡ true → takes o ≤ c + raised R o
  unfolding takes P N
  whole_le o a c k i w =
      let e : le_z (R.taken o) (pos c) ≡ true = ap (le_z (R.taken o)) (sym i) ∙ sym (R.whole_is o a k) ∙ w in
      omega (arith, le_yes (R.taken o) (pos c) e, P-neg (R.taken o), N-neg (R.taken o))

  le_whole : (o : O) (a : A) (c : ℕ) → R.Good o → R.cash a ≡ pos c → takes o ≤ c + raised R o → R.whole o a ≡ true
  unfolding takes P N
  le_whole o a c k i h =
      let e : le_z (R.taken o) (pos c) ≡ true = le_is (R.taken o) (pos c) (omega (arith, P-neg (R.taken o), N-neg (R.taken o))) in
      R.whole_is o a k ∙ ap (le_z (R.taken o)) i ∙ e

  cash-run : (o : O) (a : A) (c : ℕ) → R.Good o → R.cash a ≡ pos c → c + raised R o < 2 ^ 63 → R.whole o a ≡ true → R.cash (R.run o a) ≡ pos (c + raised R o - takes o)
  unfolding takes
  cash-run o a c k i h w =
      let l : takes o ≤ c + raised R o = whole_le o a c k i w in
      R.run-cash o a k w ∙ ap (λ (z : ℤ). sat_sub z (R.taken o)) i
      ∙ sub-whole c (R.taken o) (c + raised R o - takes o) (omega (arith, P-neg (R.taken o), N-neg (R.taken o))) (omega arith)

  record Left (z : ℤ) (c : ℕ) (os : List O) : Type 0 where
    left : ℕ
    is : z ≡ pos left
    sum : left + total takes os ≡ c + total (raised R) os

  cash-after : (os : List O) (a : A) (c : ℕ) → All O R.Good os → R.cash a ≡ pos c → c + total (raised R) os < 2 ^ 63
      → all_whole_of R os a ≡ true → Left (R.cash (after R os a)) c os
  unfolding after all_whole_of total
  cash-after [] a c nothing i t w = record { left = c; is = i; sum = refl }
  cash-after (o ∷ os) a c (and k ks) i t w =
      let e : R.whole o a ≡ true = (both_true (R.whole o a) (all_whole_of R os (R.run o a)) w).0 in
      let f : all_whole_of R os (R.run o a) ≡ true = (both_true (R.whole o a) (all_whole_of R os (R.run o a)) w).1 in
      let l : takes o ≤ c + raised R o = whole_le o a c k i e in
      let j : R.cash (R.run o a) ≡ pos (c + raised R o - takes o) = cash-run o a c k i (omega arith) e in
      let b = cash-after os (R.run o a) (c + raised R o - takes o) ks j (omega arith) f in
      record { left = b.left; is = b.is; sum = omega (arith, b.sum) }

  no_raise : (o : O) (os : List O) → All O (λ y. T (lowers R o) → T (raises R y) → ⊥) os → T (lowers R o) → total (raised R) os ≡ 0
  unfolding total
  no_raise o [] nothing t = refl
  no_raise o (x ∷ os) (and n h) t = go (raises R x) refl (n t) (no_raise o os h t)
    where
      go : (b : Bool) → raises R x ≡ b → (T b → ⊥) → total (raised R) os ≡ 0 → raised R x + total (raised R) os ≡ 0
      go true e k ih = absurd (k tt)
      go false e k ih = omega (arith, not_above (change R x) e)

  whole-first : (os : List O) (a : A) (c : ℕ) → All O R.Good os → R.cash a ≡ pos c → c + total (raised R) os < 2 ^ 63
      → total takes os ≤ c + total (raised R) os → RaisesFirst R os → all_whole_of R os a ≡ true
  unfolding all_whole_of total takes
  whole-first [] a c nothing i t l nothing = refl
  whole-first (o ∷ os) a c (and k ks) i t l (and n ns) =
      let m : takes o ≤ c + raised R o = go (lowers R o) refl in
      let e : R.whole o a ≡ true = le_whole o a c k i m in
      let j : R.cash (R.run o a) ≡ pos (c + raised R o - takes o) = cash-run o a c k i (omega arith) e in
      let f : all_whole_of R os (R.run o a) ≡ true = whole-first os (R.run o a) (c + raised R o - takes o) ks j (omega arith) (omega arith) ns in
      simp (e, f)
    where
      go : (b : Bool) → lowers R o ≡ b → takes o ≤ c + raised R o
      go true e = omega (arith, no_raise o os n (subst T (sym e) tt))
      go false e = omega (arith, not_below (change R o) e)

  -- ---- both
  raises_first : (os : List O) → LowersLast R os → RaisesFirst R os
  raises_first [] nothing = nothing
  raises_first (o ∷ os) (and h hs) = and (all_map (λ x k s t. not_both (change R x) (k s) t) h) (raises_first os hs)

  -- what holds of one running order holds of all
  pub funded_perm : (a : A) {x y : List O} → Perm O x y → Funded R x a → Funded R y a
  funded_perm a p r = record {
    orders = all_perm p r.orders;
    cash-low = r.cash-low;
    cash_top = subst (λ (n : ℕ). InRange (R.cash a +ℤ pos n)) (total_perm (raised R) p) r.cash_top;
  }

  pub apart_perm : (a : A) {x y : List O} → Perm O x y → Apart R x a → Apart R y a
  apart_perm a p r = record {
    differ = pairs_perm (λ x y n e. n (sym e)) p r.differ;
    room = subst (λ (n : ℕ). Room (length (R.held a)) n) (total_perm (new_of R (R.held a)) p) r.room;
  }

  record Opening (z : ℤ) (os : List O) : Type 0 where
    amount : ℕ
    is : z ≡ pos amount
    top : amount + total (raised R) os < 2 ^ 63

  opening : (os : List O) (a : A) → Funded R os a → Opening (R.cash a) os
  unfolding P N
  opening os a r =
      let z = R.cash a in
      let s = total (raised R) os in
      let n = N-zero z r.cash-low in
      record {
        amount = P z;
        is = eq_of z (pos (P z)) (omega (arith, P_pos (P z), N-pos (P z)));
        top = omega (arith, le_yes (z +ℤ pos s) (pos 9223372036854775807) r.cash_top, P-add z (pos s));
      }

  one-cash : (z : ℤ) (m n : ℕ) → z ≡ pos m → z ≡ pos n → m ≡ n
  one-cash z m n e f = cc

  module _ (os : List O) (a : A) (r : Funded R os a) where
    -- what is left in any running order in which each fills whole, by the sums of the list itself
    left-of : (w : List O) → Perm O os w → all_whole_of R w a ≡ true → Left (R.cash (after R w a)) (opening os a r).amount os
    left-of w p f =
        let ready : Funded R w a = funded_perm a p r in
        let b = opening os a r in
        let d = opening w a ready in
        let l = cash-after w a d.amount ready.orders d.is d.top f in
        record { left = l.left; is = l.is; sum = omega (arith, l.sum, one-cash (R.cash a) b.amount d.amount b.is d.is, total_perm takes p, total_perm (raised R) p) }

    -- If some running order lets each order fill whole, so does every running order with no order that lowers cash ahead of one that raises it.
    pub raises_first-fills : (w : List O) → Perm O os w → all_whole_of R w a ≡ true → (v : List O) → Perm O os v → RaisesFirst R v → all_whole_of R v a ≡ true
    raises_first-fills w p f v q s =
        let ready : Funded R v a = funded_perm a q r in
        let b = opening os a r in
        let d = opening v a ready in
        let l = left-of w p f in
        let m : total takes v ≤ d.amount + total (raised R) v =
        omega (arith, l.sum, one-cash (R.cash a) b.amount d.amount b.is d.is, total_perm takes q, total_perm (raised R) q) in
        whole-first v a d.amount ready.orders d.is d.top m s

    -- The same, of every running order that puts the orders not lowering cash ahead of those lowering it.
    pub lowers-last-fills : (w : List O) → Perm O os w → all_whole_of R w a ≡ true → (v : List O) → Perm O os v → LowersLast R v → all_whole_of R v a ≡ true
    lowers-last-fills w p f v q s = raises_first-fills w p f v q (raises_first v s)

    -- All running orders in which each order fills whole leave the same cash,
    pub same-cash : (v w : List O) → Perm O os v → Perm O os w → all_whole_of R v a ≡ true → all_whole_of R w a ≡ true → R.cash (after R v a) ≡ R.cash (after R w a)
    same-cash v w p q f g =
        let k = left-of v p f in
        let l = left-of w q g in
        let e : k.left ≡ l.left = omega (arith, k.sum, l.sum) in
        k.is ∙ ap pos e ∙ sym l.is

    -- the positions that any such order leaves are those that the list itself makes
    held_of : Apart R os a → (w : List O) → Perm O os w → all_whole_of R w a ≡ true → R.held (after R w a) ≡ ups os (R.held a)
    held_of h w p f =
        let there : Apart R w a = apart_perm a p h in
        held_after w a (all_perm p r.orders) there.differ there.room f ∙ sym (ups_perm p h.differ (R.held a))

    -- and the same positions.
    pub same-held : Apart R os a → (v w : List O) → Perm O os v → Perm O os w → all_whole_of R v a ≡ true → all_whole_of R w a ≡ true → R.held (after R v a) ≡ R.held (after R w a)
    same-held h v w p q f g = held_of h v p f ∙ sym (held_of h w q g)
