-- The orders that the places ask for are those that the list of positions asks for.
use Prim.Native.Nat.{ℕ, zero, suc, ◌+◌, ◌≤◌, ◌<◌}
use mathlib.Core.Path.{◌≡◌, refl, ap, ◌∙◌}
use mathlib.Core.Bool.{Bool, true, false}
use mathlib.Core.List.{List, [], ◌∷◌}
use native.Mathlib.Omega.{arith}
use lib.Dec.{ltb}
use lib.IntN.{ℤ, pos}
use lib.Ieee.{Float, nan}
use lib.ListN.{length, take, drop, get_or, drop_of_length-le}
use lib.Seq.{drop-cons}
use Rattle.position.specs.Rows.{fresh}
use Rattle.table.specs.Keyed.{pick}
use Rattle.table.specs.Inner.Places.{found}
use Rattle.table.specs.declared.found.Found.{Found}
use Rattle.table.specs.declared.found.Found.TheVariants.{At, Absent}
use Rattle.table.specs.Rows.{zipped, rows, Full, row_at}
use Rattle.table.specs.declared.table.Columns.{Columns}
use Rattle.table.specs.Inner.Rows.{Ordered, held_at}
use Rattle.table.proofs.Zipped.{zipped-length, zipped_at}
use Rattle.table.proofs.Posting.{held_is_holding}
use Rattle.table.proofs.Places.{shorter-same}
use Rattle.account.specs.declared.settings.Settings.{Settings}
use Rattle.wanted.specs.Plan.{closing, closings, targeting, targetings, wanted}
use Rattle.admission.specs.Admission.{added_all, admitted}
use Rattle.admission.specs.Running.{plan_of}
use Rattle.admission.specs.Inner.Columns.{from}
use Rattle.plan.specs.Inner.Adding.{close_at, closes_at, quantity_at, target_at, targets_at, wanted_at}

quantity-held : (f : Found) (s : ℕ) (c : Columns) → quantity_at f c.quantity ≡ (held_at f s c).quantity.0
quantity-held (At i) s c = go (ltb i 64)
  where
    go : (b : Bool) → pick b (get_or c.quantity i (pos 0)) (pos 0) ≡ (pick b (row_at i c) (fresh s)).quantity.0
    go true = refl
    go false = refl
quantity-held (Absent i) s c = refl

module _ (s : Settings) (equity : ℤ) (price : ℕ → ℤ) (targets : List ℕ) (c : Columns) where
  closes_from : Full c → (i k : ℕ) → i + k ≤ 64 → from (close_at s equity price targets c.symbol c.quantity) i k ≡ closings s equity price targets (take k (drop i (zipped c)))
  unfolding closings closing
  closes_from f i zero h = refl
  closes_from f i (suc k) h =
      let l : i < length (zipped c) = omega (arith, zipped-length c f) in
      rw (drop-cons (zipped c) i (fresh 0) l, zipped_at c i f) (ap (λ t. close_at s equity price targets c.symbol c.quantity i ∷ t) (closes_from f (suc i) k (omega arith)))

  pub closes_of_rows : (n : ℕ) → Full c → n ≤ 64 → closes_at s equity price targets n c.symbol c.quantity ≡ closings s equity price targets (rows n c)
  unfolding closes_at
  closes_of_rows n f h = ap (from (close_at s equity price targets c.symbol c.quantity) 0) (shorter-same n 64 h) ∙ closes_from f 0 n (omega arith)

  module _ (weights : List Float) (n : ℕ) (o : Ordered n c) (same : length targets ≡ length weights) where
    target-held : (i : ℕ) → target_at s equity price (take n c.symbol) c.quantity targets weights i ≡ targeting s equity price (rows n c) (get_or targets i 0) (get_or weights i nan)
    unfolding targeting
    target-held i =
        let k = get_or targets i 0 in
        rw (quantity-held (found k (take n c.symbol)) k c ∙ ap (λ p. p.quantity.0) (held_is_holding n k c (found k (take n c.symbol)) o refl))

    targets-from : (i k : ℕ) → i + k ≡ length targets → from (target_at s equity price (take n c.symbol) c.quantity targets weights) i k ≡ targetings s equity price (rows n c) (drop i targets) (drop i weights)
    unfolding targetings
    targets-from i zero h =
        let m : length targets ≤ i = omega arith in
        let e : drop i targets ≡ [] = drop_of_length-le targets m in
        rw e
    targets-from i (suc k) h =
        let l : i < length targets = omega arith in
        let m : i < length weights = omega arith in
        rw (drop-cons targets i 0 l, drop-cons weights i nan m, target-held i) (ap (λ t. targeting s equity price (rows n c) (get_or targets i 0) (get_or weights i nan) ∷ t) (targets-from (suc i) k (omega arith)))

    pub targets_of_rows : targets_at s equity price (take n c.symbol) c.quantity targets weights ≡ targetings s equity price (rows n c) targets weights
    unfolding targets_at
    targets_of_rows = ap (from (target_at s equity price (take n c.symbol) c.quantity targets weights) 0) (shorter-same (length targets) (length weights) (omega arith)) ∙ targets-from 0 (length targets) (omega arith)

    pub wanted_of_rows : wanted_at s equity price n c.symbol c.quantity targets weights ≡ wanted s equity price (rows n c) targets weights
    unfolding wanted wanted_at
    wanted_of_rows = rw (closes_of_rows n o.full o.small, targets_of_rows)

    pub plan_of_rows : admitted s (added_all s (wanted_at s equity price n c.symbol c.quantity targets weights) []) ≡ plan_of s equity price (rows n c) targets weights
    unfolding plan_of
    plan_of_rows = ap (λ l. admitted s (added_all s l [])) wanted_of_rows
