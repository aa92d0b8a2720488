-- Admission one order at a time, and what it does to the columns.
use Prim.Native.Nat.{ℕ, ◌+◌, ◌-◌, ◌≤◌, ◌<◌}
use mathlib.Core.Path.{◌≡◌, refl, sym, ap, ◌∙◌}
use mathlib.Core.Bool.{Bool, true, false}
use mathlib.Core.List.{List, [], ◌∷◌, ◌++◌, map, append_assoc, append-nil}
use native.Mathlib.Omega.{arith}
use native.Mathlib.Numerals.{add-one}
use lib.IntN.{ℤ, pos, ◌-ℤ◌}
use lib.Signed.{lt_z, le_z}
use lib.Ieee.{Float}
use lib.ListN.{length, get_or, set, take, drop, length-append, take-append-drop}
use lib.Seq.{take-take}
use mir.Syntax.{w64}
use mir.Val.{SFits}
use Rattle.sums.specs.Sums.{notional}
use Rattle.sums.proofs.Ints.{P-sub, fits_of, one_sided, lt_no, P-fits, N-fits}
use Rattle.sums.proofs.Laws.{N-notional}
use Rattle.position.specs.declared.shares.Shares.{Shares}
use Rattle.position.specs.Rows.{shares}
use Rattle.position.proofs.Counts.{not_lt_ge}
use Rattle.table.specs.Keyed.{pick}
use Rattle.table.specs.Inner.Places.{shorter}
use Rattle.table.specs.Rows.{is_zero}
use Rattle.sizing.specs.Sizing.{cut_to}
use Rattle.account.specs.declared.settings.Settings.{Settings}
use Rattle.account.specs.declared.settings.TradeCap.{TradeCap}
use Rattle.account.specs.declared.settings.TradeCap.TheVariants.{Absent, AtMost}
use Rattle.wanted.specs.declared.planned.PlannedOrder.{PlannedOrder}
use Rattle.wanted.specs.Plan.{planned}
use Rattle.admission.specs.declared.cap.Offered.{Offered}
use Rattle.admission.specs.declared.cap.Offered.TheVariants.{Whole, Part, Ends}
use Rattle.admission.specs.Admission.{has_cap, capped, reached, notional_of, last_admitted, admitted_from, admitted}
use Rattle.admission.specs.Inner.Columns.{PlanCols, plan_cols, order_at, from, plans, CountedPlan, counted_plan}
use Rattle.admission.specs.Inner.Offers.{part_offered, offered, cut_plan}
use Rattle.admission.proofs.Plans.{from_on, from_end, from_last, from-length, plans_start}
use Rattle.admission.proofs.Laying.{taken, front_is, front_set}

-- ---- what follows an offer
module _ (s : Settings) (n : ℕ) (left : ℤ) (o : PlannedOrder) (os : List PlannedOrder) where
  abbrev pub follows : Offered → List PlannedOrder
  follows (Whole rest) = o ∷ admitted_from s (n + 1) rest os
  follows (Part cut) = planned o.symbol.0 cut.0 o.price o.drift_bps ∷ []
  follows Ends = []

  last-follows : last_admitted s left o ≡ follows (part_offered s left o.quantity.0 o.price)
  unfolding last_admitted part_offered
  last-follows = go (is_zero cut) (lt_z (notional cut o.price) s.min_order_value)
    where
      cut : ℤ
      cut = cut_to o.quantity.0 o.price s.quantity_step left

      kept : PlannedOrder
      kept = planned o.symbol.0 cut o.price o.drift_bps

      go : (z b : Bool) → pick z [] (pick b [] (kept ∷ [])) ≡ follows (pick z Ends (pick b Ends (Part (shares cut))))
      go true b = refl
      go false true = refl
      go false false = refl

  pub admitted-follows : admitted_from s n left (o ∷ os) ≡ follows (offered s n left o.quantity.0 o.price)
  unfolding admitted_from offered
  admitted-follows = go (reached s.max_trades_per_rebalance n) (le_z s.max_rebalance_notional (pos 0)) (le_z left (pos 0)) (lt_z left (notional_of o)) last-follows
    where
      go : (a b d e : Bool) → last_admitted s left o ≡ follows (part_offered s left o.quantity.0 o.price)
          → pick a [] (pick b (o ∷ admitted_from s (n + 1) left os) (pick d [] (pick e (last_admitted s left o) (o ∷ admitted_from s (n + 1) (left -ℤ notional_of o) os))))
          ≡ follows (pick a Ends (pick b (Whole left) (pick d Ends (pick e (part_offered s left o.quantity.0 o.price) (Whole (left -ℤ notional_of o))))))
      go true b d e h = refl
      go false true d e h = refl
      go false false true e h = refl
      go false false false true h = h
      go false false false false h = refl

-- ---- without a cap the whole plan is admitted
absent : (cap : TradeCap) (b : Bool) → pick (has_cap cap) true b ≡ false → ((n : ℕ) → reached cap n ≡ false) × (b ≡ false)
absent Absent b e = (λ n. refl, e)
absent (AtMost n) b e = absurd (let z : ◌≡◌ {A = ℕ} 0 1 = cc in omega arith)

all-admitted : (s : Settings) → ((n : ℕ) → reached s.max_trades_per_rebalance n ≡ false) → le_z s.max_rebalance_notional (pos 0) ≡ true → (n : ℕ) (left : ℤ) (l : List PlannedOrder) → admitted_from s n left l ≡ l
unfolding admitted_from
all-admitted s a b n left [] = refl
all-admitted s a b n left (o ∷ l) = rw (a n, b) (ap (λ t. o ∷ t) (all-admitted s a b (n + 1) left l))

pub admitted-uncapped : (s : Settings) (plan : List PlannedOrder) → capped s ≡ false → admitted s plan ≡ plan
unfolding capped admitted
admitted-uncapped s plan h =
    let e = absent s.max_trades_per_rebalance (lt_z (pos 0) s.max_rebalance_notional) h in
    all-admitted s e.0 (not_lt_ge (pos 0) s.max_rebalance_notional e.1) 0 s.max_rebalance_notional plan

-- ---- the cases of an offer
module _ (s : Settings) (left q p cut : ℤ) (e : cut ≡ cut_to q p s.quantity_step left) where
  pub part_zero : is_zero cut ≡ true → Ends ≡ part_offered s left q p
  unfolding part_offered
  part_zero z = rw (← e) (rw z)

  pub part_small : is_zero cut ≡ false → lt_z (notional cut p) s.min_order_value ≡ true → Ends ≡ part_offered s left q p
  unfolding part_offered
  part_small z h = rw (← e) (rw (z, h))

  pub part_kept : is_zero cut ≡ false → lt_z (notional cut p) s.min_order_value ≡ false → Part (shares cut) ≡ part_offered s left q p
  unfolding part_offered
  part_kept z h = rw (← e) (rw (z, h))

module _ (s : Settings) (n : ℕ) (left q p : ℤ) where
  pub offered-reached : reached s.max_trades_per_rebalance n ≡ true → Ends ≡ offered s n left q p
  unfolding offered
  offered-reached a = rw a

  pub offered-uncapped : reached s.max_trades_per_rebalance n ≡ false → le_z s.max_rebalance_notional (pos 0) ≡ true → Whole left ≡ offered s n left q p
  unfolding offered
  offered-uncapped a b = rw (a, b)

  pub offered-none : reached s.max_trades_per_rebalance n ≡ false → le_z s.max_rebalance_notional (pos 0) ≡ false → le_z left (pos 0) ≡ true → Ends ≡ offered s n left q p
  unfolding offered
  offered-none a b d = rw (a, b, d)

  module _ (a : reached s.max_trades_per_rebalance n ≡ false) (b : le_z s.max_rebalance_notional (pos 0) ≡ false) (d : le_z left (pos 0) ≡ false) where
    pub offered-over : lt_z left (notional q p) ≡ true → part_offered s left q p ≡ offered s n left q p
    unfolding offered
    offered-over e = rw (a, b, d, e)

    pub offered-within : (v : ℤ) → v ≡ notional q p → lt_z left (notional q p) ≡ false → Whole (left -ℤ v) ≡ offered s n left q p
    unfolding offered
    offered-within v w e = rw (a, b, d, e, w)

-- what remains is exact: the notional is not above it
pub rest-fits : (left q p v : ℤ) → v ≡ notional q p → SFits w64 left → lt_z left (notional q p) ≡ false → SFits w64 (left -ℤ v)
rest-fits left q p v w f h =
    let a = rw (← w) at (lt_no left (notional q p) h) in
    let b = rw (← w) at (N-notional q p) in
    let d = P-sub left v in
    let e = one_sided (left -ℤ v) in
    let g = one_sided left in
    fits_of _ (omega (arith, P-fits left f)) (omega (arith, N-fits left f))

-- ---- the loop over the places: those passed are admitted whole
module _ (s : Settings) (n m i : ℕ) (left : ℤ) (f : ℕ → PlannedOrder) (all : List PlannedOrder) (h : i < m) (inv : from f 0 i ++ admitted_from s i left (from f i (m - i)) ≡ all) where
  next : (r : Offered) → offered s i left (f i).quantity.0 (f i).price ≡ r → from f 0 i ++ follows s i left (f i) (from f (i + 1) (m - (i + 1))) r ≡ all
  next r e =
      ap (λ t. from f 0 i ++ follows s i left (f i) (from f (i + 1) (m - (i + 1))) t) (sym e)
      ∙ ap (λ t. from f 0 i ++ t) (sym (ap (admitted_from s i left) (from_on f i m h) ∙ admitted-follows s i left (f i) (from f (i + 1) (m - (i + 1)))))
      ∙ inv

  passed : from f 0 (i + 1) ≡ from f 0 i ++ (f i ∷ [])
  passed = let z : 0 + i ≡ i = omega arith in rw add-one (from_last f 0 i ∙ rw z)

  pub admit_on : (rest : ℤ) → offered s i left (f i).quantity.0 (f i).price ≡ Whole rest → from f 0 (i + 1) ++ admitted_from s (i + 1) rest (from f (i + 1) (m - (i + 1))) ≡ all
  admit_on rest e = rw passed (append_assoc (from f 0 i) (f i ∷ []) _ ∙ next (Whole rest) e)

  pub admit_ends : offered s i left (f i).quantity.0 (f i).price ≡ Ends → from f 0 i ≡ all
  admit_ends e = sym (append-nil _) ∙ next Ends e

  pub admit_part : (cut : Shares) → offered s i left (f i).quantity.0 (f i).price ≡ Part cut → from f 0 i ++ (planned (f i).symbol.0 cut.0 (f i).price (f i).drift_bps ∷ []) ≡ all
  admit_part cut e = next (Part cut) e

pub admit_start : (s : Settings) (n m : ℕ) (c : PlanCols) → m ≡ shorter n 64 → from (order_at c) 0 0 ++ admitted_from s 0 s.max_rebalance_notional (from (order_at c) 0 (m - 0)) ≡ admitted s (plans n c)
unfolding admitted
admit_start s n m c h = let e : m - 0 ≡ m = omega arith in rw (plans_start n m c h) (rw e)

pub admit_all : (s : Settings) (m i : ℕ) (left : ℤ) (f : ℕ → PlannedOrder) (all : List PlannedOrder) → m ≤ i → from f 0 i ++ admitted_from s i left (from f i (m - i)) ≡ all → from f 0 i ≡ all
unfolding admitted_from
admit_all s m i left f all h inv = sym (append-nil _) ∙ rw (from_end f i m h) at inv

-- ---- the columns as admission leaves them
module _ (s : Settings) (n : ℕ) (k : List ℕ) (q p : List ℤ) (d : List Float) (i : ℕ) (long : length q ≡ 64) where
  abbrev at : ℕ → PlannedOrder
  at = order_at (plan_cols k q p d)

  abbrev plan : List PlannedOrder
  plan = plans n (plan_cols k q p d)

  abbrev cut_to_list : List PlannedOrder → CountedPlan
  cut_to_list l = counted_plan (length l) (plan_cols k (map (λ o. o.quantity.0) l ++ drop (length l) q) p d)

  -- the first i admitted whole
  pub cut_whole : i ≤ 64 → from at 0 i ≡ admitted s plan → counted_plan i (plan_cols k q p d) ≡ cut_plan s (counted_plan n (plan_cols k q p d))
  unfolding cut_plan
  cut_whole h e =
      ap (λ x. counted_plan i (plan_cols k x p d)) (front_is (λ o. o.quantity.0) q (pos 0) at (λ j. refl) q i (omega arith) refl)
      ∙ ap (λ m. counted_plan m (plan_cols k (map (λ o. o.quantity.0) (from at 0 i) ++ drop (length (from at 0 i)) q) p d)) (sym (from-length at 0 i))
      ∙ ap cut_to_list e

  -- and the next one cut
  pub cut_part : (cut : ℤ) → i < 64 → from at 0 i ++ (planned (at i).symbol.0 cut (at i).price (at i).drift_bps ∷ []) ≡ admitted s plan
      → counted_plan (i + 1) (plan_cols k (set q i cut) p d) ≡ cut_plan s (counted_plan n (plan_cols k q p d))
  unfolding cut_plan
  cut_part cut h e =
      let x = planned (at i).symbol.0 cut (at i).price (at i).drift_bps in
      let l = from at 0 i ++ (x ∷ []) in
      let m : length l ≡ i + 1 = length-append (from at 0 i) (x ∷ []) ∙ omega (arith, from-length at 0 i) in
      ap (λ y. counted_plan (i + 1) (plan_cols k y p d)) (front_set (λ o. o.quantity.0) q (pos 0) at (λ j. refl) i x (omega arith))
      ∙ ap (λ y. counted_plan y (plan_cols k (map (λ o. o.quantity.0) l ++ drop (length l) q) p d)) (sym m)
      ∙ ap cut_to_list e

-- symbols, prices and drifts of the admitted orders are those of the first of the plan
module _ (s : Settings) {A : Type 0} (f : PlannedOrder → A) (kept : (o : PlannedOrder) (cut : ℤ) → f (planned o.symbol.0 cut o.price o.drift_bps) ≡ f o) where
  kept_from : (n : ℕ) (left : ℤ) (l : List PlannedOrder) → map f (admitted_from s n left l) ≡ take (length (admitted_from s n left l)) (map f l)
  unfolding admitted_from
  kept_from n left [] = refl
  kept_from n left (o ∷ l) = rw (admitted-follows s n left o l) (go (offered s n left o.quantity.0 o.price) (λ rest. kept_from (n + 1) rest l))
    where
      go : (r : Offered) → ((rest : ℤ) → map f (admitted_from s (n + 1) rest l) ≡ take (length (admitted_from s (n + 1) rest l)) (map f l)) → map f (follows s n left o l r) ≡ take (length (follows s n left o l r)) (map f (o ∷ l))
      go (Whole rest) h = ap (λ t. f o ∷ t) (h rest)
      go (Part cut) h = ap (λ y. y ∷ []) (kept o cut.0)
      go Ends h = refl

  kept-admitted : (l : List PlannedOrder) → map f (admitted s l) ≡ take (length (admitted s l)) (map f l)
  unfolding admitted
  kept-admitted l = kept_from 0 s.max_rebalance_notional l

  -- so a column that holds them holds them after admission
  pub kept_front : (a : List A) (d : A) (g : ℕ → PlannedOrder) → ((j : ℕ) → f (g j) ≡ get_or a j d) → (n : ℕ) → n ≤ length a → length (admitted s (from g 0 n)) ≤ n
      → a ≡ map f (admitted s (from g 0 n)) ++ drop (length (admitted s (from g 0 n))) a
  kept_front a d g holds n h few =
      let k = length (admitted s (from g 0 n)) in
      let e : map f (admitted s (from g 0 n)) ≡ take k a = kept-admitted (from g 0 n) ∙ ap (take k) (taken f a d g holds 0 n (omega arith)) ∙ take-take k n a few in
      rw e (sym (take-append-drop k a))
