-- What callers need of costs: at least the floor and at most the ceiling, never falling as the notional rises, and the bounds of an effective price.
use Prim.Native.Nat.{ℕ, ◌≤◌, ◌<◌, ◌^◌}
use mathlib.Core.Path.{◌≡◌, refl, sym, ◌∙◌, subst}
use mathlib.Core.Bool.{Bool, true, false, cond, ◌||◌}
use native.Mathlib.Omega.{arith}
use lib.IntN.{ℤ, pos, negsuc, nat_abs}
use lib.Signed.{lt_z, le_z}
use lib.Dec.{T}
use lib.Ieee.{Float, nan, inf, fin, le}
use lib.Ieee.Bits.{is_true}
use borrow.Author.Tests.{leb-true}
use mir.Syntax.{w64}
use mir.Val.{SFits}
use Rattle.answer.proofs.Choice.{both_true}
use Rattle.doubles.specs.Doubles.{finite}
use Rattle.doubles.proofs.Fields.{yes}
use Rattle.doubles.proofs.Laws.{to_i64-fits}
use Rattle.doubles.proofs.Chain.{buy-price-above-zero, sell-price_not_negative}
use Rattle.doubles.proofs.Chain as Chain
use Rattle.sums.proofs.Ints.{P, N, nat_abs_parts, P-fits, N-fits, le_yes, lt_yes, lt_no, le_is, ge_is, le_refl, le_trans, lt_le, eq_of}
use Rattle.position.specs.Shares.{is_zero}
use Rattle.cost_model.specs.Costs as Costs
use Rattle.cost_model.specs.Costs.{ten_thousand, commission, at_least, uncapped, at_most, cost, slippage_factor, slipped, effective, good_rate, good_ceiling, good_costs}
use Rattle.cost_model.specs.declared.CostModel.{CostModel}

-- ---- good settings, part by part
pub record Good (m : CostModel) : Type 0 where
  pub finite_rate : T (finite m.commission_bps)
  pub rate : T (le Costs.zero m.commission_bps)
  pub slippage_low : T (le Costs.zero m.slippage_bps)
  pub slippage_high : T (le m.slippage_bps ten_thousand)
  pub floor : le_z (pos 0) m.min_commission ≡ true
  pub ceiling : good_ceiling m.min_commission m.max_commission ≡ true

pub good_parts : (m : CostModel) → good_costs m ≡ true → Good m
unfolding good_costs good_rate
good_parts m g =
    let a = both_true (good_rate m.commission_bps) _ g in
    let r = both_true (finite m.commission_bps) _ a.0 in
    let s = both_true (le Costs.zero m.slippage_bps) _ a.1 in
    let t = both_true (le m.slippage_bps ten_thousand) _ s.1 in
    let u = both_true (le_z (pos 0) m.min_commission) _ t.1 in
    record { finite_rate = yes r.0; rate = yes r.1; slippage_low = yes s.0; slippage_high = yes t.0; floor = u.0; ceiling = u.1 }

-- ---- the larger of two
floor_or_more : (f c : ℤ) → le_z f (at_least f c) ≡ true
unfolding at_least
floor_or_more f c = go (lt_z c f) refl
  where
    go : (t : Bool) → lt_z c f ≡ t → le_z f (cond t f c) ≡ true
    go true e = le_is f f (omega arith)
    go false e = le_is f c (omega (arith, lt_no c f e))

at_least_mono : (f c d : ℤ) → le_z c d ≡ true → le_z (at_least f c) (at_least f d) ≡ true
unfolding at_least
at_least_mono f c d h = go (lt_z c f) (lt_z d f) refl refl
  where
    go : (s t : Bool) → lt_z c f ≡ s → lt_z d f ≡ t → le_z (cond s f c) (cond t f d) ≡ true
    go true true a b = le_is f f (omega arith)
    go true false a b = le_is f d (omega (arith, lt_no d f b))
    go false true a b = le_is c f (omega (arith, le_yes c d h, lt_yes d f b))
    go false false a b = h

at_least_fits : (f c : ℤ) → SFits w64 f → SFits w64 c → SFits w64 (at_least f c)
unfolding at_least
at_least_fits f c a b = go (lt_z c f)
  where
    go : (t : Bool) → SFits w64 (cond t f c)
    go true = a
    go false = b

-- ---- the lesser of two, where there is a ceiling
at_most_mono : (k c d : ℤ) → le_z c d ≡ true → le_z (at_most k c) (at_most k d) ≡ true
unfolding at_most
at_most_mono k c d h = go (is_zero k) (lt_z k c) (lt_z k d) refl refl
  where
    go : (z s t : Bool) → lt_z k c ≡ s → lt_z k d ≡ t → le_z (cond z c (cond s k c)) (cond z d (cond t k d)) ≡ true
    go true s t a b = h
    go false true true a b = le_refl k
    go false true false a b = le_is k d (omega (arith, lt_yes k c a, le_yes c d h))
    go false false true a b = le_is c k (omega (arith, lt_no k c a))
    go false false false a b = h

at_most-fits : (k c : ℤ) → SFits w64 k → SFits w64 c → SFits w64 (at_most k c)
unfolding at_most
at_most-fits k c a b = go (is_zero k) (lt_z k c)
  where
    go : (z t : Bool) → SFits w64 (cond z c (cond t k c))
    go true t = b
    go false true = a
    go false false = b

no_more : (k c : ℤ) → le_z (at_most k c) c ≡ true
unfolding at_most
no_more k c = go (is_zero k) (lt_z k c) refl
  where
    go : (z t : Bool) → lt_z k c ≡ t → le_z (cond z c (cond t k c)) c ≡ true
    go true t e = le_refl c
    go false true e = lt_le k c e
    go false false e = le_refl c

ceiling_or_less : (k c : ℤ) → is_zero k ≡ false → le_z (at_most k c) k ≡ true
unfolding at_most
ceiling_or_less k c z = rw z (go (lt_z k c) refl)
  where
    go : (t : Bool) → lt_z k c ≡ t → le_z (cond t k c) k ≡ true
    go true e = le_refl k
    go false e = le_is c k (omega (arith, lt_no k c e))

-- what the ceiling does not reach stays
at_most_unreached : (k c : ℤ) → le_z c k ≡ true → at_most k c ≡ c
unfolding at_most
at_most_unreached k c h = go (is_zero k) (ge_is k c (omega (arith, le_yes c k h)))
  where
    go : (z : Bool) → lt_z k c ≡ false → cond z c (cond (lt_z k c) k c) ≡ c
    go true e = refl
    go false e = rw e

-- what reaches it is the ceiling
at_most-reached : (k c : ℤ) → is_zero k ≡ false → le_z k c ≡ true → at_most k c ≡ k
unfolding at_most
at_most-reached k c z h = rw z (go (lt_z k c) refl)
  where
    go : (t : Bool) → lt_z k c ≡ t → cond t k c ≡ k
    go true e = refl
    go false e = eq_of c k (omega (arith, lt_no k c e, le_yes k c h))

-- a good ceiling leaves the floor as it is
good_ceiling_keeps : (f k : ℤ) → good_ceiling f k ≡ true → at_most k f ≡ f
unfolding good_ceiling at_most
good_ceiling_keeps f k g = go (is_zero k) refl g
  where
    go : (z : Bool) → is_zero k ≡ z → z || le_z f k ≡ true → at_most k f ≡ f
    go true e h = rw e
    go false e h = at_most_unreached k f h

-- ---- costs
uncapped_at_least_floor : (m : CostModel) (n : ℤ) → le_z m.min_commission (uncapped m n) ≡ true
unfolding uncapped
uncapped_at_least_floor m n = floor_or_more m.min_commission (commission m.commission_bps (nat_abs n))

-- an account without a ceiling pays document 01's commission
pub cost-without_ceiling : (m : CostModel) (n : ℤ) → is_zero m.max_commission ≡ true → cost m n ≡ uncapped m n
unfolding cost at_most
cost-without_ceiling m n z = rw z

-- and so does a fill whose commission the ceiling does not reach
pub cost_unreached : (m : CostModel) (n : ℤ) → le_z (uncapped m n) m.max_commission ≡ true → cost m n ≡ uncapped m n
unfolding cost
cost_unreached m n h = at_most_unreached m.max_commission (uncapped m n) h

-- a fill whose commission reaches the ceiling pays just that
pub cost-reached : (m : CostModel) (n : ℤ) → is_zero m.max_commission ≡ false → le_z m.max_commission (uncapped m n) ≡ true → cost m n ≡ m.max_commission
unfolding cost
cost-reached m n z h = at_most-reached m.max_commission (uncapped m n) z h

-- a ceiling equal to the floor is a flat fee
pub cost-flat : (m : CostModel) (n : ℤ) → is_zero m.max_commission ≡ false → m.max_commission ≡ m.min_commission → cost m n ≡ m.min_commission
cost-flat m n z e =
    cost-reached m n z (subst (λ (k : ℤ). le_z k (uncapped m n) ≡ true) (sym e) (uncapped_at_least_floor m n)) ∙ e

-- a ceiling raises no cost
pub cost_at_most-uncapped : (m : CostModel) (n : ℤ) → le_z (cost m n) (uncapped m n) ≡ true
unfolding cost
cost_at_most-uncapped m n = no_more m.max_commission (uncapped m n)

pub cost_at_most_ceiling : (m : CostModel) (n : ℤ) → is_zero m.max_commission ≡ false → le_z (cost m n) m.max_commission ≡ true
unfolding cost
cost_at_most_ceiling m n z = ceiling_or_less m.max_commission (uncapped m n) z

-- at least the lesser of floor and ceiling, whatever they are
pub cost_at_least_lesser : (m : CostModel) (n : ℤ) → le_z (at_most m.max_commission m.min_commission) (cost m n) ≡ true
unfolding cost
cost_at_least_lesser m n = at_most_mono m.max_commission m.min_commission (uncapped m n) (uncapped_at_least_floor m n)

pub cost_at_least_floor : (m : CostModel) (n : ℤ) → good_costs m ≡ true → le_z m.min_commission (cost m n) ≡ true
cost_at_least_floor m n g =
    subst (λ (f : ℤ). le_z f (cost m n) ≡ true) (good_ceiling_keeps m.min_commission m.max_commission (good_parts m g).ceiling) (cost_at_least_lesser m n)

pub cost_nonneg : (m : CostModel) (n : ℤ) → good_costs m ≡ true → le_z (pos 0) (cost m n) ≡ true
cost_nonneg m n g = le_trans (pos 0) m.min_commission (cost m n) (good_parts m g).floor (cost_at_least_floor m n g)

pub cost-fits : (m : CostModel) (n : ℤ) → SFits w64 m.min_commission → SFits w64 m.max_commission → SFits w64 (cost m n)
unfolding cost uncapped commission
cost-fits m n f k = at_most-fits m.max_commission _ k (at_least_fits m.min_commission _ f (to_i64-fits _))

size_fits : (n : ℤ) → SFits w64 n → nat_abs n < 2 ^ 64
size_fits n f = omega (arith, nat_abs_parts n, P-fits n f, N-fits n f)

-- the cost never falls as the notional rises, in size
pub cost_mono_size : (m : CostModel) (n k : ℤ) → good_costs m ≡ true → SFits w64 k → nat_abs n ≤ nat_abs k → le_z (cost m n) (cost m k) ≡ true
unfolding cost uncapped commission
cost_mono_size m n k g f h =
    let p = good_parts m g in
    at_most_mono m.max_commission _ _ (at_least_mono m.min_commission _ _ (is_true _ (Chain.cost_mono m.commission_bps (nat_abs n) (nat_abs k) p.finite_rate p.rate h (size_fits k f))))

pub cost_mono : (m : CostModel) (n k : ℤ) → good_costs m ≡ true → SFits w64 k → le_z (pos 0) n ≡ true → le_z n k ≡ true → le_z (cost m n) (cost m k) ≡ true
cost_mono m (pos n) (pos k) g f z h = cost_mono_size m (pos n) (pos k) g f (leb-true n k h)
cost_mono m (pos n) (negsuc k) g f z h = let z : ◌≡◌ {A = ℕ} 0 1 = cc in absurd (omega arith)
cost_mono m (negsuc n) k g f z h = let z : ◌≡◌ {A = ℕ} 0 1 = cc in absurd (omega arith)

-- ---- effective prices
pub slipped-fits : (x : Float) (price : ℤ) → SFits w64 (slipped x price)
unfolding slipped
slipped-fits x price = to_i64-fits _

pub effective-fits : (m : CostModel) (buys : Bool) (price : ℤ) → SFits w64 (effective m buys price)
unfolding effective
effective-fits m buys price = slipped-fits (slippage_factor m buys) price

within-finite : (x : Float) → T (le Costs.zero x) → T (le x ten_thousand) → T (finite x)
unfolding le
within-finite nan a b = a
within-finite (inf true) a b = a
within-finite (inf false) a b = b
within-finite (fin s m e) a b = tt

pub buy-price_at_least_1 : (m : CostModel) (price : ℤ) → good_costs m ≡ true → le_z (pos 1) price ≡ true → le_z (pos 1) (effective m true price) ≡ true
unfolding effective slipped slippage_factor
buy-price_at_least_1 m (pos n) g h =
    let p = good_parts m g in
    is_true _ (buy-price-above-zero n m.slippage_bps (leb-true 1 n h) (within-finite _ p.slippage_low p.slippage_high) p.slippage_low)
buy-price_at_least_1 m (negsuc n) g h = let z : ◌≡◌ {A = ℕ} 0 1 = cc in absurd (omega arith)

pub sale_price_nonneg : (m : CostModel) (price : ℤ) → good_costs m ≡ true → SFits w64 price → le_z (pos 0) price ≡ true → le_z (pos 0) (effective m false price) ≡ true
unfolding effective slipped slippage_factor
sale_price_nonneg m (pos n) g f h =
    let p = good_parts m g in
    is_true _ (sell-price_not_negative n m.slippage_bps (omega (arith, f.sfits)) p.slippage_low p.slippage_high)
sale_price_nonneg m (negsuc n) g f h = let z : ◌≡◌ {A = ℕ} 0 1 = cc in absurd (omega arith)

-- either way a fill's price is one that a position takes
pub effective_nonneg : (m : CostModel) (buys : Bool) (price : ℤ) → good_costs m ≡ true → SFits w64 price → le_z (pos 1) price ≡ true → le_z (pos 0) (effective m buys price) ≡ true
unfolding P N
effective_nonneg m true price g f h = le_is (pos 0) (effective m true price) (omega (arith, le_yes (pos 1) (effective m true price) (buy-price_at_least_1 m price g h)))
effective_nonneg m false price g f h = sale_price_nonneg m price g f (le_is (pos 0) price (omega (arith, le_yes (pos 1) price h)))
