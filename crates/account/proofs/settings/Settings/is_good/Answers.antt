-- Each test in turn is one of the definition's.
use mathlib.Core.Path.{◌≡◌, refl, ap, ◌∙◌}
use mathlib.Core.Bool.{Bool, true, false, ◌&&◌}
use lib.IntN.{pos}
use lib.Signed.{le_z}
use mir.Syntax.{w64}
use mir.Val.{SFits, to_z, of_z}
use mir.Facts.{to_z-of_z}
use borrow.Author.Rules.{rules}
use Rattle.table.specs.Keyed.{both}
use Rattle.account.specs.Settings.{good_rules, good_band, good_settings}
use Rattle.account.proofs.settings.Settings.is_good.Goals as goal
use Rattle.account.proofs.settings.Settings.is_good.Goals.{then-is_good, else-is_good, then-self-ge1, else-self-ge1, then-self-ge0, else-self-ge0, then-self-ge0-2, else-self-ge0-2}

-- where two tests join
and_then : (v p x : Bool) → p ≡ true → v ≡ x → v ≡ (p && x)
and_then v p x h e = rw h e

and_else : (v p x : Bool) → p ≡ false → v ≡ p → v ≡ (p && x)
and_else v p x h e = rw h at e ∙ rw h

grouped : (r k m x b n : Bool) → (((((r && k) && m) && x) && b) && n) ≡ both r (both k (both m (both x (both b n))))
grouped false k m x b n = refl
grouped true false m x b n = refl
grouped true true false x b n = refl
grouped true true true false b n = refl
grouped true true true true b n = refl

chain : (r k m x b n : Bool) {v1 v2 v3 v4 : Bool} → v1 ≡ (r && k) → v2 ≡ (v1 && m) → v3 ≡ (v2 && x) → v4 ≡ (v3 && b) → (v4 && n) ≡ both r (both k (both m (both x (both b n))))
chain r k m x b n e1 e2 e3 e4 = rw (e4, e3, e2, e1) (grouped r k m x b n)

last_true : (v n : Bool) {g : Bool} → (v && n) ≡ g → v ≡ true → n ≡ g
last_true v n e h = rw h at e

last_false : (v n : Bool) {g : Bool} → (v && n) ≡ g → v ≡ false → v ≡ g
last_false v n e h = h ∙ rw h at e

pub returns-then-is_good_band : goal.returns-then-is_good_band
unfolding good_settings
returns-then-is_good_band c =
    let s = c.args.self in
    let kf : SFits w64 s.quantity_step = search rules in
    let mf : SFits w64 s.min_order_value = search rules in
    let xf : SFits w64 s.max_order_value = search rules in
    let nf : SFits w64 s.max_rebalance_notional = search rules in
    let v1 : c.if-is_good.value ≡ (c.is_good.result && le_z (pos 1) (to_z w64 (of_z w64 s.quantity_step))) =
    elim c.if-is_good.branch [
      | then-is_good w ↦ and_then _ _ _ w.if-is_good.true w.value-is
      | else-is_good w ↦ and_else _ _ _ w.if-is_good.false w.value-is
    ]
    in
    let v2 : c.if-self-ge1.value ≡ (c.if-is_good.value && le_z (pos 0) (to_z w64 (of_z w64 s.min_order_value))) =
    elim c.if-self-ge1.branch [
      | then-self-ge1 w ↦ and_then _ _ _ w.if-self-ge1.true w.value-is
      | else-self-ge1 w ↦ and_else _ _ _ w.if-self-ge1.false w.value-is
    ]
    in
    let v3 : c.if-self-ge0.value ≡ (c.if-self-ge1.value && le_z (pos 0) (to_z w64 (of_z w64 s.max_order_value))) =
    elim c.if-self-ge0.branch [
      | then-self-ge0 w ↦ and_then _ _ _ w.if-self-ge0.true w.value-is
      | else-self-ge0 w ↦ and_else _ _ _ w.if-self-ge0.false w.value-is
    ]
    in
    let v4 : c.if-self-ge0-2.value ≡ (c.if-self-ge0.value && good_band s.no_trade_band_bps) =
    elim c.if-self-ge0-2.branch [
      | then-self-ge0-2 w ↦ and_then _ _ _ w.if-self-ge0-2.true (w.value-is ∙ w.is_good_band.ensures)
      | else-self-ge0-2 w ↦ and_else _ _ _ w.if-self-ge0-2.false w.value-is
    ]
    in
    let all =
    chain (good_rules s.rules) (le_z (pos 1) (to_z w64 (of_z w64 s.quantity_step))) (le_z (pos 0) (to_z w64 (of_z w64 s.min_order_value))) (le_z (pos 0) (to_z w64 (of_z w64 s.max_order_value))) (good_band s.no_trade_band_bps)
    (le_z (pos 0) (to_z w64 (of_z w64 s.max_rebalance_notional)))
    (v1 ∙ ap (λ r. r && le_z (pos 1) (to_z w64 (of_z w64 s.quantity_step))) c.is_good.ensures) v2 v3 v4
    in
    simp (to_z-of_z nf) (last_true _ _ (simp (to_z-of_z kf, to_z-of_z mf, to_z-of_z xf, to_z-of_z nf) at all) c.if-is_good_band.true)

pub returns-else-is_good_band : goal.returns-else-is_good_band
unfolding good_settings
returns-else-is_good_band c =
    let s = c.args.self in
    let kf : SFits w64 s.quantity_step = search rules in
    let mf : SFits w64 s.min_order_value = search rules in
    let xf : SFits w64 s.max_order_value = search rules in
    let nf : SFits w64 s.max_rebalance_notional = search rules in
    let v1 : c.if-is_good.value ≡ (c.is_good.result && le_z (pos 1) (to_z w64 (of_z w64 s.quantity_step))) =
    elim c.if-is_good.branch [
      | then-is_good w ↦ and_then _ _ _ w.if-is_good.true w.value-is
      | else-is_good w ↦ and_else _ _ _ w.if-is_good.false w.value-is
    ]
    in
    let v2 : c.if-self-ge1.value ≡ (c.if-is_good.value && le_z (pos 0) (to_z w64 (of_z w64 s.min_order_value))) =
    elim c.if-self-ge1.branch [
      | then-self-ge1 w ↦ and_then _ _ _ w.if-self-ge1.true w.value-is
      | else-self-ge1 w ↦ and_else _ _ _ w.if-self-ge1.false w.value-is
    ]
    in
    let v3 : c.if-self-ge0.value ≡ (c.if-self-ge1.value && le_z (pos 0) (to_z w64 (of_z w64 s.max_order_value))) =
    elim c.if-self-ge0.branch [
      | then-self-ge0 w ↦ and_then _ _ _ w.if-self-ge0.true w.value-is
      | else-self-ge0 w ↦ and_else _ _ _ w.if-self-ge0.false w.value-is
    ]
    in
    let v4 : c.if-self-ge0-2.value ≡ (c.if-self-ge0.value && good_band s.no_trade_band_bps) =
    elim c.if-self-ge0-2.branch [
      | then-self-ge0-2 w ↦ and_then _ _ _ w.if-self-ge0-2.true (w.value-is ∙ w.is_good_band.ensures)
      | else-self-ge0-2 w ↦ and_else _ _ _ w.if-self-ge0-2.false w.value-is
    ]
    in
    let all =
    chain (good_rules s.rules) (le_z (pos 1) (to_z w64 (of_z w64 s.quantity_step))) (le_z (pos 0) (to_z w64 (of_z w64 s.min_order_value))) (le_z (pos 0) (to_z w64 (of_z w64 s.max_order_value))) (good_band s.no_trade_band_bps)
    (le_z (pos 0) (to_z w64 (of_z w64 s.max_rebalance_notional)))
    (v1 ∙ ap (λ r. r && le_z (pos 1) (to_z w64 (of_z w64 s.quantity_step))) c.is_good.ensures) v2 v3 v4
    in
    last_false _ _ (simp (to_z-of_z kf, to_z-of_z mf, to_z-of_z xf, to_z-of_z nf) at all) c.if-is_good_band.false
