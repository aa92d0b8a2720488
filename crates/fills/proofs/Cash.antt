-- What an order takes from cash: one comparison for buys and sells alike, and cash that never falls below 0.
use Prim.Native.Nat.{◌+◌, ◌-◌, ◌<◌, ◌^◌, min}
use mathlib.Core.Bool.{Bool, true, false}
use mathlib.Core.Logic.{◌⊎◌, inl, inr}
use mathlib.Core.Path.{◌≡◌, refl, sym, ap, ◌∙◌}
use native.Mathlib.Omega.{arith}
use lib.IntN.{ℤ, pos, ◌-ℤ◌}
use lib.Signed.{lt_z, le_z}
use mir.Syntax.{w64}
use mir.Val.{SFits}
use Rattle.sums.specs.Sums.{sat_sub}
use Rattle.sums.proofs.Ints.{P, N, one_sided, P-sub, P_clamp, N_clamp, sat_sub_clamp, sat_sub-plain, le_yes, le_no, le_is, gt_is, lt_is, N-zero}
use Rattle.position.specs.Shares.{is_zero}
use Rattle.position.proofs.Fills.{short_parts}
use Rattle.cost_model.specs.Costs.{good_costs}
use Rattle.cost_model.proofs.Costs.{buy-price_at_least_1}
use Rattle.sizing.specs.Afford.{need, affordable}
use Rattle.sizing.specs.Cash.{cash_taken}
use Rattle.sizing.proofs.Buys.{affordable_nonneg, affordable-fits}
use Rattle.sizing.proofs.Cash.{agree, need_is_taken}
use Rattle.table.specs.Keyed.{pick}
use Rattle.fills.specs.declared.terms.Order.{Order}
use Rattle.fills.specs.declared.terms.Terms.{Terms}
use Rattle.fills.specs.Orders.{State, buys, paid}
use Rattle.fills.specs.Fill.{fills_whole, counted, settled, trimmed_fill, fill}

-- ---- what becomes of an order
module _ (Q : State → Type 0) (t : Terms) (o : Order) (s : State) where
  abbrev got : ℤ
  got = affordable t.costs t.quantity_step s.cash o.quantity.0 (paid t o)

  pub by_outcome : Q s
      → (is_zero o.quantity.0 ≡ false → fills_whole t o s.cash ≡ true → Q (settled t o o.quantity.0 s))
      → (buys o ≡ true → is_zero got ≡ true → Q (counted t o got s))
      → (buys o ≡ true → is_zero got ≡ false → Q (settled t o got (counted t o got s)))
      → Q (fill t o s)
  unfolding fill trimmed_fill
  by_outcome same whole none part = go (is_zero o.quantity.0) (fills_whole t o s.cash) (buys o) (is_zero got) refl refl refl refl
    where
      go : (z w b g : Bool) → is_zero o.quantity.0 ≡ z → fills_whole t o s.cash ≡ w → buys o ≡ b → is_zero got ≡ g
          → Q (pick z s (pick w (settled t o o.quantity.0 s) (pick b (pick g (counted t o got s) (settled t o got (counted t o got s))) s)))
      go true w b g ez ew eb eg = same
      go false true b g ez ew eb eg = whole ez ew
      go false false true true ez ew eb eg = none eb eg
      go false false true false ez ew eb eg = part eb eg
      go false false false g ez ew eb eg = same

-- ---- a sale: its cash afterwards is at least 0 exactly when it takes at most the cash
pub left_is_taken : (c d : ℤ) → le_z (pos 0) (sat_sub c d) ≡ le_z d c
unfolding P N
left_is_taken c d =
    agree (le_z (pos 0) (sat_sub c d)) (le_z d c)
    (λ e. le_is d c (omega (arith, le_yes (pos 0) (sat_sub c d) e, sizes.0, sizes.1, P-sub c d)))
    (λ e. gt_is d c (short (one_sided (c -ℤ d)) (omega (arith, le_no (pos 0) (sat_sub c d) e))))
  where
    sizes : (P (sat_sub c d) ≡ min (P (c -ℤ d)) (2 ^ 63 - 1)) × (N (sat_sub c d) ≡ min (N (c -ℤ d)) (2 ^ 63))
    sizes = (ap P (sat_sub_clamp c d) ∙ P_clamp (c -ℤ d), ap N (sat_sub_clamp c d) ∙ N_clamp (c -ℤ d))

    short : (P (c -ℤ d) ≡ 0) ⊎ (N (c -ℤ d) ≡ 0) → P (sat_sub c d) < N (sat_sub c d) → P c + N d < P d + N c
    short (inl z) h = omega (arith, z, h, sizes.0, sizes.1, P-sub c d)
    short (inr z) h = omega (arith, z, h, sizes.0, sizes.1, P-sub c d)

-- ---- a buy: its need is the cash that it takes
from_one : (z : ℤ) → le_z (pos 1) z ≡ true → lt_z (pos 0) z ≡ true
unfolding P N
from_one z h = lt_is (pos 0) z (omega (arith, le_yes (pos 1) z h))

-- a count of at least 0 that is not 0
some_positive : (q : ℤ) → le_z (pos 0) q ≡ true → is_zero q ≡ false → lt_z (pos 0) q ≡ true
some_positive q h z = go (lt_z (pos 0) q) refl
  where
    go : (b : Bool) → lt_z (pos 0) q ≡ b → b ≡ true
    go true e = refl
    go false e = absurd (omega (arith, (short_parts q z e).1, N-zero q h))

module _ (t : Terms) (good : good_costs t.costs ≡ true) (o : Order) (price : le_z (pos 1) o.price ≡ true) where
  bought-above-zero : buys o ≡ true → lt_z (pos 0) (paid t o) ≡ true
  unfolding paid
  bought-above-zero e = from_one (paid t o) (rw e (buy-price_at_least_1 t.costs o.price good price))

  -- an order fills whole exactly when the cash that it takes is there
  pub whole_is_taken : (cash : ℤ) → fills_whole t o cash ≡ le_z (cash_taken t.costs o.quantity.0 (paid t o)) cash
  unfolding fills_whole
  whole_is_taken cash = go (buys o) refl
    where
      go : (b : Bool) → buys o ≡ b
          → pick b (le_z (need t.costs o.quantity.0 (paid t o)) cash) (le_z (pos 0) (sat_sub cash (cash_taken t.costs o.quantity.0 (paid t o)))) ≡ le_z (cash_taken t.costs o.quantity.0 (paid t o)) cash
      go true e = ap (λ (z : ℤ). le_z z cash) (need_is_taken t.costs o.quantity.0 (paid t o) e (bought-above-zero e))
      go false e = left_is_taken cash (cash_taken t.costs o.quantity.0 (paid t o))

  -- then it is settled whole
  pub whole_settles : (s : State) → is_zero o.quantity.0 ≡ false → fills_whole t o s.cash ≡ true → fill t o s ≡ settled t o o.quantity.0 s
  unfolding fill
  whole_settles s z w = rw (z, w)

  -- "cash at least 0" before a fill is so after it
  pub fill_keeps_cash : (s : State) → le_z (pos 0) s.cash ≡ true → le_z (pos 0) (fill t o s).cash ≡ true
  unfolding settled counted
  fill_keeps_cash s h = by_outcome (λ x. le_z (pos 0) x.cash ≡ true) t o s h
      (λ z w. left_is_taken s.cash (cash_taken t.costs o.quantity.0 (paid t o)) ∙ sym (whole_is_taken s.cash) ∙ w)
      (λ b z. h)
      (λ b z.
      let q = got (λ x. le_z (pos 0) x.cash ≡ true) t o s in
      let u = some_positive q (affordable_nonneg t.costs t.quantity_step s.cash o.quantity.0 (paid t o)) z in
      left_is_taken s.cash (cash_taken t.costs q (paid t o))
      ∙ ap (λ x. le_z x s.cash) (sym (need_is_taken t.costs q (paid t o) u (bought-above-zero b)))
      ∙ affordable-fits t.costs t.quantity_step s.cash o.quantity.0 (paid t o) h)

-- a record's change of cash is the plain difference, of cash of at least 0
pub change_is_plain : (after before : ℤ) → SFits w64 after → SFits w64 before → le_z (pos 0) after ≡ true → le_z (pos 0) before ≡ true → sat_sub after before ≡ after -ℤ before
change_is_plain = sat_sub-plain
