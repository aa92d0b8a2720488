-- Condition 3.
use Prim.Native.Nat.{ℕ}
use mathlib.Core.List.{List, [], ◌∷◌}
use mathlib.Core.Bool.{Bool, ◌&&◌}
use mathlib.Core.Path.{◌≡◌, refl, sym, ap, ◌∙◌, subst}
use lib.IntN.{ℤ, pos, ◌+ℤ◌}
use Rattle.sizing.specs.Cash.{cash_change}
use Rattle.sizing.proofs.Sizes.{above_is_P}
use Rattle.fills.specs.declared.terms.Order.{Order}
use Rattle.fills.specs.declared.terms.Terms.{Terms}
use Rattle.fills.specs.Orders.{State, paid}
use Rattle.fills.specs.Fill.{fills_whole, fill, fill_all}
use Rattle.admission.specs.Running.{parted}
use Rattle.order.specs.Running.{Perm, InRange}
use Rattle.order.specs.Statement.{lowers, cash_raised, Funded, Batch, all_whole_of, AllWhole, LowersLast, OrderIsFree}
use Rattle.order.proofs.Perms.{total-same, perm_parted, parted-last}
use Rattle.order.proofs.Rule as Rule
use Rattle.order.proofs.Fills.{fills}

-- running by the rule is running by the code
ran : (t : Terms) (g : _) (os : List Order) (s : State) → Rule.after (fills t g) os s ≡ fill_all t os s
unfolding Rule.after fill_all fills
ran t g [] s = refl
ran t g (o ∷ os) s = ran t g os (fill t o s)

whole : (t : Terms) (g : _) (os : List Order) (s : State) → Rule.all_whole_of (fills t g) os s ≡ all_whole_of t os s
unfolding Rule.all_whole_of all_whole_of fills
whole t g [] s = refl
whole t g (o ∷ os) s = ap (λ (b : Bool). fills_whole t o s.cash && b) (whole t g os (fill t o s))

module _ (t : Terms) (os : List Order) (s : State) where
  funded : (f : Funded t os s) → Rule.Funded (fills t f.costs) os s
  unfolding fills cash_change cash_raised paid
  funded f = record {
    orders = f.orders;
    cash-low = f.cash-low;
    cash_top = subst (λ (n : ℕ). InRange (s.cash +ℤ pos n)) (total-same _ _ (λ o. above_is_P (cash_change t.costs o.quantity.0 o.price)) os) f.cash_top;
  }

  apart : (b : Batch t os s) → Rule.Apart (fills t b.funded.costs) os s
  unfolding fills
  apart b = record { differ = b.different; room = b.room }

  -- "If some running order lets each fill whole, so does every running order that puts orders not lowering cash ahead of those lowering it". Neither different symbols
  -- nor room are asked.
  pub whole_if_any : Funded t os s → (w : List Order) → Perm Order os w → AllWhole t w s → (v : List Order) → Perm Order os v → LowersLast t v → AllWhole t v s
  unfolding fills cash_change paid
  whole_if_any f w p a v q l =
      sym (whole t f.costs v s) ∙ Rule.lowers-last-fills (fills t f.costs) os s (funded f) w p (whole t f.costs w s ∙ a) v q l

  -- "all running orders in which each fills whole leave equal cash": the same is asked
  pub same-cash : Funded t os s → (v w : List Order) → Perm Order os v → Perm Order os w → AllWhole t v s → AllWhole t w s → (fill_all t v s).cash ≡ (fill_all t w s).cash
  unfolding fills
  same-cash f v w p q a b =
      let g = f.costs in
      let e = Rule.same-cash (fills t g) os s (funded f) v w p q (whole t g v s ∙ a) (whole t g w s ∙ b) in
      ap (λ (x : State). x.cash) (sym (ran t g v s)) ∙ e ∙ ap (λ (x : State). x.cash) (ran t g w s)

  -- "and equal positions"
  pub same-held : Batch t os s → (v w : List Order) → Perm Order os v → Perm Order os w → AllWhole t v s → AllWhole t w s → (fill_all t v s).held ≡ (fill_all t w s).held
  unfolding fills
  same-held h v w p q a b =
      let g = h.funded.costs in
      let e = Rule.same-held (fills t g) os s (funded h.funded) (apart h) v w p q (whole t g v s ∙ a) (whole t g w s ∙ b) in
      ap (λ (x : State). x.held) (sym (ran t g v s)) ∙ e ∙ ap (λ (x : State). x.held) (ran t g w s)

  -- Condition 3, both halves.
  pub condition_3 : Batch t os s → OrderIsFree t os s
  condition_3 h = record {
    fills = whole_if_any h.funded;
    same = λ v w p q a b. record { cash = same-cash h.funded v w p q a b; held = same-held h v w p q a b };
  }

  -- Such a running order there always is: those not lowering cash, then the others, both as they stand.
  pub parted-whole : Funded t os s → (w : List Order) → Perm Order os w → AllWhole t w s → AllWhole t (parted (lowers t) os) s
  unfolding fills cash_change paid
  parted-whole f w p a =
      whole_if_any f w p a (parted (lowers t) os) (perm_parted (lowers t) os) (parted-last (lowers t) os)
