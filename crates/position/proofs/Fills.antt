-- What every fill keeps: the symbol, the range of each number, and soundness, saturation included.
use Prim.Native.Nat.{ℕ, ◌+◌, ◌<◌}
use mathlib.Core.Path.{◌≡◌, refl, sym, ap, ◌∙◌}
use mathlib.Core.Bool.{Bool, true, false, cond, ◌&&◌}
use mathlib.Core.Logic.{◌⊎◌, inl, inr}
use native.Mathlib.Omega.{arith}
use lib.IntN.{ℤ, pos, negsuc, ◌+ℤ◌, ◌-ℤ◌, nat_abs}
use lib.Signed.{lt_z, le_z}
use borrow.Author.Tests.{eqb-false, ltb-true, ltb-false, lt-ltb, ne_eqb, not-true}
use mir.Syntax.{w64}
use mir.Val.{SFits}
use Rattle.sums.specs.Sums.{clamp64, sat_add, sat_sub, sat_abs, value, price_at}
use Rattle.sums.proofs.Ints.{P, N, one_sided, nat_abs_parts, P-add, P-sub, le_yes, lt_yes, lt_no, le_is, P_clamp, N_clamp, sat_add-fits, sat_sub-fits, sat_add_clamp, sat_sub_clamp, sat_add_mono, sat_sub_mono, sat_sub-plain, le_refl, le_trans, ge_is}
use Rattle.sums.proofs.Laws.{value-fits, value_nonneg, value_nonpos, value_mono_quantity, price_at-fits, price-long_nonneg, price-short_nonneg, average-long, average-short}
use Rattle.position.specs.Rows.{fresh, key_of, held, avg, realized, total}
use Rattle.position.specs.Shares.{is_zero, is_positive}
use Rattle.position.specs.Symbols.{good_symbol}
use Rattle.position.specs.Fills.{sound_numbers, sound, same_side, entered, averaged, grown, closed_by, gain, realized_by, closed_cost, closed, partly_closed, reduced, applied, apply_fill}
use Rattle.position.specs.declared.position.Position.{Position}
use Rattle.position.specs.declared.position.Filled.{Filled}
use Rattle.answer.specs.declared.Answer.TheVariants.{Done, BadPrice, Unsound}
use Rattle.answer.specs.Places.{alone}
use Rattle.answer.proofs.Choice.{by_test, both_true}

-- ---- the branches
-- What holds of the position as it is and of what each branch makes holds after the fill.
module _ (Q : Position → Type 0) (p : Position) (q price : ℤ) where
  pub by_branch :
      Q p →
      (is_zero q ≡ false → is_zero (held p) ≡ true → Q (entered (key_of p) q (realized p) price)) →
      (is_zero q ≡ false → is_zero (held p) ≡ false → same_side (held p) q ≡ true → Q (grown p q price)) →
      Q (closed p (realized_by p q price)) →
      (is_zero (held p) ≡ false → is_zero (sat_add (held p) q) ≡ false → same_side (sat_add (held p) q) (held p) ≡ true → Q (partly_closed p q (realized_by p q price))) →
      (is_zero (sat_add (held p) q) ≡ false → Q (entered (key_of p) (sat_add (held p) q) (realized_by p q price) price)) →
      Q (applied p q price)
  unfolding applied reduced
  by_branch same fresh-one more done part other =
      by_test Q (is_zero q) _ _ (λ _. same) (λ nq.
      by_test Q (is_zero (held p)) _ _ (fresh-one nq) (λ nh.
      by_test Q (same_side (held p) q) _ _ (more nq nh) (λ _.
      by_test Q (is_zero (sat_add (held p) q)) _ _ (λ _. done) (λ nn.
      by_test Q (same_side (sat_add (held p) q) (held p)) _ _ (part nh nn) (λ _. other nn)))))

pub applied_keeps_symbol : (p : Position) (q price : ℤ) → key_of (applied p q price) ≡ key_of p
unfolding entered averaged grown closed partly_closed
applied_keeps_symbol p q price = by_branch (λ r. key_of r ≡ key_of p) p q price refl (λ _ _. refl) (λ _ _ _. refl) refl (λ _ _ _. refl) (λ _. refl)

pub applied-zero : (p : Position) (price : ℤ) → applied p (pos 0) price ≡ p
unfolding applied is_zero
applied-zero p price = refl

pub applied-fresh : (s : ℕ) (q price : ℤ) → is_zero q ≡ false → applied (fresh s) q price ≡ entered s q (pos 0) price
unfolding applied is_zero
applied-fresh s q price n = rw n

-- ---- the range of each number
pub record NumbersInRange (p : Position) : Type 0 where
  pub quantity : SFits w64 (held p)
  pub average : SFits w64 (avg p)
  pub profit : SFits w64 (realized p)
  pub cost : SFits w64 (total p)

pub applied_in_range : (p : Position) (q price : ℤ) → NumbersInRange p → SFits w64 q → SFits w64 price → NumbersInRange (applied p q price)
unfolding entered averaged grown closed partly_closed realized_by
applied_in_range p q price f fq fp =
    let none : SFits w64 (pos 0) = record { sfits = omega arith } in
    let h' = sat_add-fits (held p) q in
    let r' : SFits w64 (realized_by p q price) = sat_add-fits (realized p) _ in
    by_branch NumbersInRange p q price
    f
    (λ _ _. record { quantity = fq; average = fp; profit = f.profit; cost = value-fits q price })
    (λ _ _ _. record { quantity = h'; average = price_at-fits _ _; profit = f.profit; cost = sat_add-fits (total p) _ })
    (record { quantity = none; average = none; profit = r'; cost = none })
    (λ _ _ _. record { quantity = h'; average = price_at-fits _ _; profit = r'; cost = sat_sub-fits (total p) _ })
    (λ _. record { quantity = h'; average = fp; profit = r'; cost = value-fits _ price })

-- ---- sides
pub long_parts : (q : ℤ) → is_positive q ≡ true → (0 < P q) × (N q ≡ 0)
unfolding P N
long_parts (pos n) e = (ltb-true 0 n e, refl)
long_parts (negsuc n) e = let z : ◌≡◌ {A = ℕ} 0 1 = cc in absurd (omega arith)

pub short_parts : (q : ℤ) → is_zero q ≡ false → is_positive q ≡ false → (P q ≡ 0) × (0 < N q)
unfolding P N is_zero
short_parts (pos n) z e = absurd (eqb-false n 0 z (omega (arith, ltb-false 0 n e)))
short_parts (negsuc n) z e = (refl, omega arith)

is_long : (q : ℤ) → 0 < P q → is_positive q ≡ true
unfolding P
is_long (pos n) h = lt-ltb 0 n h
is_long (negsuc n) h = absurd (omega arith)

is_short : (q : ℤ) → 0 < N q → is_positive q ≡ false
unfolding N
is_short (pos n) h = absurd (omega arith)
is_short (negsuc n) h = refl

is_open : (q : ℤ) → 0 < P q + N q → is_zero q ≡ false
unfolding P N is_zero
is_open (pos n) h = ne_eqb n 0 (λ e. omega (arith, e, h))
is_open (negsuc n) h = refl

long_nonneg : (q : ℤ) → is_positive q ≡ true → le_z (pos 0) q ≡ true
unfolding P N
long_nonneg q e = le_is (pos 0) q (omega (arith, (long_parts q e).1))

short_nonpos : (q : ℤ) → is_zero q ≡ false → is_positive q ≡ false → le_z q (pos 0) ≡ true
unfolding P N
short_nonpos q z e = le_is q (pos 0) (omega (arith, (short_parts q z e).0))

long_same : (a b : ℤ) → same_side a b ≡ true → is_positive a ≡ true → is_positive b ≡ true
unfolding same_side
long_same a b s e = (rw e at s)

short-same : (a b : ℤ) → same_side a b ≡ true → is_positive a ≡ false → is_positive b ≡ false
unfolding same_side
short-same a b s e = not-true _ (rw e at s)

-- ---- order: a saturated sum is on the side that both its terms are on
both_nonneg : (a b : ℤ) → le_z (pos 0) a ≡ true → le_z (pos 0) b ≡ true → le_z (pos 0) (sat_add a b) ≡ true
unfolding sat_add clamp64
both_nonneg a b h k = sat_add_mono (pos 0) a (pos 0) b h k

both_nonpos : (a b : ℤ) → le_z a (pos 0) ≡ true → le_z b (pos 0) ≡ true → le_z (sat_add a b) (pos 0) ≡ true
unfolding sat_add clamp64
both_nonpos a b h k = sat_add_mono a (pos 0) b (pos 0) h k

less_nonpos : (a b : ℤ) → le_z a (pos 0) ≡ true → le_z (pos 0) b ≡ true → le_z (sat_sub a b) (pos 0) ≡ true
unfolding sat_sub clamp64
less_nonpos a b h k = sat_sub_mono a (pos 0) b (pos 0) h k

less_nonneg : (a b : ℤ) → le_z b a ≡ true → le_z (pos 0) (sat_sub a b) ≡ true
unfolding P N
less_nonneg a b h = go (one_sided (a -ℤ b))
  where
    none : N (a -ℤ b) ≡ 0 → le_z (pos 0) (sat_sub a b) ≡ true
    none e = le_is (pos 0) (sat_sub a b) (omega (arith, ap N (sat_sub_clamp a b), N_clamp (a -ℤ b), e))

    go : (P (a -ℤ b) ≡ 0) ⊎ (N (a -ℤ b) ≡ 0) → le_z (pos 0) (sat_sub a b) ≡ true
    go (inl e) = none (omega (arith, P-sub a b, le_yes b a h, e))
    go (inr e) = none e

-- ---- an open position that is sound
pub record Sided (q a t : ℤ) : Type 0 where
  pub average : le_z (pos 0) a ≡ true
  pub long : is_positive q ≡ true → le_z (value q a) t ≡ true
  pub short : is_positive q ≡ false → le_z t (value q a) ≡ true

pub sound_sided : (q a t : ℤ) → is_zero q ≡ false → sound_numbers q a t ≡ true → Sided q a t
unfolding sound_numbers
sound_sided q a t z s =
    let open-one : le_z (pos 0) a && cond (is_positive q) (le_z (value q a) t) (le_z t (value q a)) ≡ true = rw z at s in
    let side : cond (is_positive q) (le_z (value q a) t) (le_z t (value q a)) ≡ true = (both_true (le_z (pos 0) a) _ open-one).1 in
    record {
      average = (both_true (le_z (pos 0) a) _ open-one).0;
      long = λ e. (rw e at side);
      short = λ e. (rw e at side);
    }

pub sided_sound : (q a t : ℤ) → is_zero q ≡ false → Sided q a t → sound_numbers q a t ≡ true
unfolding sound_numbers
sided_sound q a t z s = rw (z, s.average) (by_test (λ b. b ≡ true) (is_positive q) _ _ s.long s.short)

flat_sound : sound_numbers (pos 0) (pos 0) (pos 0) ≡ true
unfolding sound_numbers is_zero
flat_sound = refl

-- a long's total cost is at least 0, a short's at most
long-cost : (q a t : ℤ) → is_positive q ≡ true → Sided q a t → le_z (pos 0) t ≡ true
long-cost q a t e s = le_trans (pos 0) (value q a) t (value_nonneg q a (long_nonneg q e) s.average) (s.long e)

short-cost : (q a t : ℤ) → is_zero q ≡ false → is_positive q ≡ false → Sided q a t → le_z t (pos 0) ≡ true
short-cost q a t z e s = le_trans t (value q a) (pos 0) (s.short e) (value_nonpos q a (short_nonpos q z e) s.average)

entered_sided : (q price : ℤ) → le_z (pos 0) price ≡ true → Sided q price (value q price)
entered_sided q price h = record { average = h; long = λ _. le_refl (value q price); short = λ _. le_refl (value q price) }

averaged_sided : (q t : ℤ) → is_zero q ≡ false → (is_positive q ≡ true → le_z (pos 0) t ≡ true) → (is_positive q ≡ false → le_z t (pos 0) ≡ true) → Sided q (price_at t q) t
averaged_sided q t z l s =
    record {
      average = go (is_positive q) refl;
      long = λ e. average-long t q (long_nonneg q e) (l e);
      short = λ e. average-short t q (short_nonpos q z e) (s e);
    }
  where
    go : (b : Bool) → is_positive q ≡ b → le_z (pos 0) (price_at t q) ≡ true
    go true e = price-long_nonneg t q (long_nonneg q e) (l e)
    go false e = price-short_nonneg t q (short_nonpos q z e) (s e)

-- ---- adding
module _ (h q : ℤ) (nh : is_zero h ≡ false) (nq : is_zero q ≡ false) (same : same_side h q ≡ true) where
  sum-long : is_positive h ≡ true → 0 < P (sat_add h q)
  sum-long e =
      let a = long_parts h e in
      let b = long_parts q (long_same h q same e) in
      omega (arith, ap P (sat_add_clamp h q), P_clamp (h +ℤ q), P-add h q, a.0, a.1, b.0, b.1)

  sum-short : is_positive h ≡ false → 0 < N (sat_add h q)
  sum-short e =
      let a = short_parts h nh e in
      let b = short_parts q nq (short-same h q same e) in
      omega (arith, ap N (sat_add_clamp h q), N_clamp (h +ℤ q), P-add h q, a.0, a.1, b.0, b.1)

  sum_open : is_zero (sat_add h q) ≡ false
  sum_open = go (is_positive h) refl
    where
      go : (b : Bool) → is_positive h ≡ b → is_zero (sat_add h q) ≡ false
      go true e = is_open (sat_add h q) (omega (arith, sum-long e))
      go false e = is_open (sat_add h q) (omega (arith, sum-short e))

  -- the side of the sum tells the side of the holding
  sum_side : (b : Bool) → is_positive (sat_add h q) ≡ b → is_positive h ≡ b
  sum_side b e = go (is_positive h) refl
    where
      go : (d : Bool) → is_positive h ≡ d → d ≡ b
      go true k = sym (is_long (sat_add h q) (sum-long k)) ∙ e
      go false k = sym (is_short (sat_add h q) (sum-short k)) ∙ e

-- ---- the closed part
magnitude_nonneg : (a : ℤ) → le_z (pos 0) (sat_abs a) ≡ true
unfolding sat_abs P N
magnitude_nonneg a = le_is (pos 0) (sat_abs a) (omega (arith, N_clamp (pos (nat_abs a))))

magnitude_within : (h : ℤ) → is_positive h ≡ true → le_z (sat_abs h) h ≡ true
unfolding sat_abs P N
magnitude_within h e = le_is (sat_abs h) h (omega (arith, P_clamp (pos (nat_abs h)), N_clamp (pos (nat_abs h)), nat_abs_parts h, (long_parts h e).1))

closed_nonneg : (h q : ℤ) → le_z (pos 0) (closed_by h q) ≡ true
unfolding closed_by
closed_nonneg h q = by_test (λ z. le_z (pos 0) z ≡ true) (lt_z (sat_abs q) (sat_abs h)) _ _ (λ _. magnitude_nonneg q) (λ _. magnitude_nonneg h)

closed-within : (h q : ℤ) → is_positive h ≡ true → le_z (closed_by h q) h ≡ true
unfolding closed_by
closed-within h q e =
    by_test (λ z. le_z z h ≡ true) (lt_z (sat_abs q) (sat_abs h)) _ _
    (λ l. le_is (sat_abs q) h (omega (arith, lt_yes (sat_abs q) (sat_abs h) l, le_yes (sat_abs h) h (magnitude_within h e))))
    (λ _. magnitude_within h e)

-- ---- soundness
module _ (p : Position) (q price : ℤ) (at_least_0 : le_z (pos 0) price ≡ true) (numbers : sound_numbers (held p) (avg p) (total p) ≡ true) where
  grown_sided : is_zero q ≡ false → is_zero (held p) ≡ false → same_side (held p) q ≡ true → Sided (sat_add (held p) q) (price_at (sat_add (total p) (value q price)) (sat_add (held p) q)) (sat_add (total p) (value q price))
  grown_sided nq nh same =
      let s = sound_sided (held p) (avg p) (total p) nh numbers in
      let h = held p in
      averaged_sided (sat_add h q) (sat_add (total p) (value q price)) (sum_open h q nh nq same)
      (λ e.
      let l = sum_side h q nh nq same true e in
      both_nonneg (total p) (value q price) (long-cost h (avg p) (total p) l s) (value_nonneg q price (long_nonneg q (long_same h q same l)) at_least_0))
      (λ e.
      let l = sum_side h q nh nq same false e in
      both_nonpos (total p) (value q price) (short-cost h (avg p) (total p) nh l s) (value_nonpos q price (short_nonpos q nq (short-same h q same l)) at_least_0))

  part_sided : is_zero (held p) ≡ false → is_zero (sat_add (held p) q) ≡ false → same_side (sat_add (held p) q) (held p) ≡ true → Sided (sat_add (held p) q) (price_at (sat_sub (total p) (closed_cost p (closed_by (held p) q))) (sat_add (held p) q)) (sat_sub (total p) (closed_cost p (closed_by (held p) q)))
  unfolding closed_cost
  part_sided nh nn same =
      let s = sound_sided (held p) (avg p) (total p) nh numbers in
      let h = held p in
      let k = closed_by h q in
      averaged_sided (sat_add h q) (sat_sub (total p) (value k (avg p))) nn
      (λ e.
      let l = long_same (sat_add h q) h same e in
      less_nonneg (total p) (value k (avg p)) (le_trans (value k (avg p)) (value h (avg p)) (total p) (value_mono_quantity k h (avg p) s.average (closed-within h q l)) (s.long l)))
      (λ e.
      let l = short-same (sat_add h q) h same e in
      less_nonpos (total p) (value k (avg p)) (short-cost h (avg p) (total p) nh l s) (value_nonneg k (avg p) (closed_nonneg h q) s.average))

  applied_numbers : sound_numbers (held (applied p q price)) (avg (applied p q price)) (total (applied p q price)) ≡ true
  unfolding entered averaged grown closed partly_closed
  applied_numbers =
      by_branch (λ r. sound_numbers (held r) (avg r) (total r) ≡ true) p q price
      numbers
      (λ nq _. sided_sound q price (value q price) nq (entered_sided q price at_least_0))
      (λ nq nh same. sided_sound (sat_add (held p) q) _ _ (sum_open (held p) q nh nq same) (grown_sided nq nh same))
      flat_sound
      (λ nh nn same. sided_sound (sat_add (held p) q) _ _ nn (part_sided nh nn same))
      (λ nn. sided_sound (sat_add (held p) q) price _ nn (entered_sided (sat_add (held p) q) price at_least_0))

-- An accepted fill keeps a position sound, whatever saturates on the way.
pub applied_keeps_sound : (p : Position) (q price : ℤ) → sound p ≡ true → le_z (pos 0) price ≡ true → sound (applied p q price) ≡ true
unfolding sound
applied_keeps_sound p q price s h =
    let h' = both_true (good_symbol (key_of p)) _ s in
    rw (applied_keeps_symbol p q price, h'.0) (applied_numbers p q price h h'.1)

pub fresh-sound : (s : ℕ) → good_symbol s ≡ true → sound (fresh s) ≡ true
unfolding sound
fresh-sound s g = rw g flat_sound

-- ---- the profit of a unit is the plain difference, as in 001, on an average and a price of at least 0
pub gain_is_plain : (p : Position) (price : ℤ) → SFits w64 (avg p) → SFits w64 price → le_z (pos 0) (avg p) ≡ true → le_z (pos 0) price ≡ true → gain p price ≡ cond (is_positive (held p)) (price -ℤ avg p) (avg p -ℤ price)
unfolding gain
gain_is_plain p price fa fp ha hp = rw (sat_sub-plain price (avg p) fp fa hp ha, sat_sub-plain (avg p) price fa fp ha hp)

-- ---- `apply_fill` by itself returns a sound position for a sound one, and a refused one as given
pub apply_fill-sound : (p : Position) (q price : ℤ) → sound p ≡ true → sound (apply_fill p q price).position ≡ true
unfolding apply_fill
apply_fill-sound p q price s = rw s (go (lt_z price (pos 0)) refl)
  where
    go : (t : Bool) → lt_z price (pos 0) ≡ t → sound (cond {A = Filled} t (record { answer = BadPrice alone; position = p }) (record { answer = Done; position = applied p q price })).position ≡ true
    go true e = s
    go false e = applied_keeps_sound p q price s (le_is (pos 0) price (omega (arith, lt_no price (pos 0) e)))

pub apply_fill_unsound : (p : Position) (q price : ℤ) → sound p ≡ false → apply_fill p q price ≡ record { answer = Unsound; position = p }
unfolding apply_fill
apply_fill_unsound p q price s = rw s

pub apply_fill-bad-price : (p : Position) (q price : ℤ) → sound p ≡ true → lt_z price (pos 0) ≡ true → apply_fill p q price ≡ record { answer = BadPrice alone; position = p }
unfolding apply_fill
apply_fill-bad-price p q price s h = rw (s, h)

pub apply_fill-done : (p : Position) (q price : ℤ) → sound p ≡ true → le_z (pos 0) price ≡ true → apply_fill p q price ≡ record { answer = Done; position = applied p q price }
unfolding apply_fill
apply_fill-done p q price s h = rw (s, ge_is price (pos 0) (omega (arith, le_yes (pos 0) price h)))
