-- What else is left the same: where each order fills whole nothing is trimmed, and as many fills are counted in any running order.
use Prim.Native.Nat.{ℕ, zero, suc}
use mathlib.Core.Bool.{true}
use mathlib.Core.List.{List, [], ◌∷◌}
use mathlib.Core.Path.{◌≡◌, refl, sym, ap, ◌∙◌}
use lib.ListN.{length}
use Rattle.cost_model.specs.Costs.{good_costs}
use Rattle.table.specs.Keyed.{pick}
use Rattle.table.proofs.Keyed.{both_true}
use Rattle.fills.specs.declared.terms.Order.{Order}
use Rattle.fills.specs.declared.terms.Terms.{Terms}
use Rattle.fills.specs.Orders.{State, next_count}
use Rattle.fills.specs.Fill.{fills_whole, settled, fill, fill_all}
use Rattle.order.specs.Running.{Perm, done, keep, swap, then, All, nothing, and}
use Rattle.order.specs.Statement.{Tradable, Funded, all_whole_of, AllWhole}
use Rattle.order.proofs.Perms.{all_perm}
use Rattle.order.proofs.Fills.{settles}

perm_length : {A : Type 0} {x y : List A} → Perm A x y → length x ≡ length y
perm_length done = refl
perm_length (keep p) = ap suc (perm_length p)
perm_length swap = refl
perm_length (then p q) = perm_length p ∙ perm_length q

-- the record count after so many fills
unfoldable pub count_after : Terms → ℕ → ℕ → ℕ
count_after t zero n = n
count_after t (suc k) n = count_after t k (pick t.recording (next_count n) n)

pub record Untrimmed (t : Terms) (os : List Order) (s : State) : Type 0 where
  pub trimmed : (fill_all t os s).trimmed ≡ s.trimmed
  pub shortfall : (fill_all t os s).shortfall ≡ s.shortfall
  pub sequence : (fill_all t os s).sequence ≡ count_after t (length os) s.sequence

module _ (t : Terms) (good : good_costs t.costs ≡ true) where
  pub whole_trims_nothing : (os : List Order) (s : State) → All Order Tradable os → AllWhole t os s → Untrimmed t os s
  unfolding fill_all all_whole_of settled count_after
  whole_trims_nothing [] s nothing w = record { trimmed = refl; shortfall = refl; sequence = refl }
  whole_trims_nothing (o ∷ os) s (and k ks) w =
      let first : fills_whole t o s.cash ≡ true = (both_true (fills_whole t o s.cash) (all_whole_of t os (fill t o s)) w).0 in
      let rest : all_whole_of t os (fill t o s) ≡ true = (both_true (fills_whole t o s.cash) (all_whole_of t os (fill t o s)) w).1 in
      let e : fill t o s ≡ settled t o o.quantity.0 s = settles t good o s k first in
      let u : Untrimmed t os (fill t o s) = whole_trims_nothing os (fill t o s) ks rest in
      record {
        trimmed = u.trimmed ∙ ap (λ (x : State). x.trimmed) e;
        shortfall = u.shortfall ∙ ap (λ (x : State). x.shortfall) e;
        sequence = u.sequence ∙ ap (λ (x : State). count_after t (length os) x.sequence) e;
      }

-- the three counters after any two such running orders
pub same_counters : (t : Terms) (os : List Order) (s : State) → Funded t os s → (v w : List Order) → Perm Order os v → Perm Order os w → AllWhole t v s → AllWhole t w s
    → ((fill_all t v s).trimmed ≡ (fill_all t w s).trimmed) × (((fill_all t v s).shortfall ≡ (fill_all t w s).shortfall) × ((fill_all t v s).sequence ≡ (fill_all t w s).sequence))
same_counters t os s f v w p q a b =
    let x = whole_trims_nothing t f.costs v s (all_perm p f.orders) a in
    let y = whole_trims_nothing t f.costs w s (all_perm q f.orders) b in
    (x.trimmed ∙ sym y.trimmed, (x.shortfall ∙ sym y.shortfall, x.sequence ∙ ap (λ (n : ℕ). count_after t n s.sequence) (sym (perm_length p) ∙ perm_length q) ∙ sym y.sequence))
