-- Fills under terms with plain zeros: those under the terms themselves.
use Prim.Native.Nat.{ℕ}
use mathlib.Core.Path.{◌≡◌, refl}
use mathlib.Core.List.{List, [], ◌∷◌}
use mathlib.Core.Option.{Option}
use lib.IntN.{ℤ}
use Rattle.position.specs.declared.position.Position.{Position}
use Rattle.fills.specs.declared.terms.Order.{Order}
use Rattle.fills.specs.declared.terms.Terms.{Terms}
use Rattle.fills.specs.Orders.{State, buys, paid}
use Rattle.fills.specs.Records.{record_of}
use Rattle.fills.specs.Fill.{fills_whole, made, counted, settled, trimmed_fill, fill, fill_all}
use Rattle.zero_laws.specs.Calls.{plain_terms}
use Rattle.zero_laws.proofs.Costs.{plain-cost, plain-effective, plain-need, plain-affordable, plain_taken}

module _ (t : Terms) where
  plain-paid : (o : Order) → paid (plain_terms t) o ≡ paid t o
  unfolding paid
  plain-paid o = plain-effective t.costs (buys o) o.price

  pub plain-whole : (o : Order) (cash : ℤ) → fills_whole (plain_terms t) o cash ≡ fills_whole t o cash
  unfolding fills_whole
  plain-whole o cash = simp (plain-paid, plain-need t.costs, plain_taken t.costs)

  plain_record : (o : Order) (q : ℤ) (n : ℕ) (before after : ℤ) → record_of (plain_terms t) o q n before after ≡ record_of t o q n before after
  unfolding record_of
  plain_record o q n before after = simp (plain-paid, plain-cost t.costs)

  plain-made : (o : Order) (q : ℤ) (held : Option Position) → made (plain_terms t) o q held ≡ made t o q held
  unfolding made
  plain-made o q held = simp plain-paid

  plain-counted : (o : Order) (q : ℤ) (s : State) → counted (plain_terms t) o q s ≡ counted t o q s
  unfolding counted
  plain-counted o q s = simp plain-paid

  plain-settled : (o : Order) (q : ℤ) (s : State) → settled (plain_terms t) o q s ≡ settled t o q s
  unfolding settled
  plain-settled o q s = simp (plain-paid, plain_taken t.costs, plain-made, plain_record)

  plain-trimmed : (o : Order) (s : State) → trimmed_fill (plain_terms t) o s ≡ trimmed_fill t o s
  unfolding trimmed_fill
  plain-trimmed o s = simp (plain-paid, plain-affordable t.costs, plain-counted, plain-settled)

  pub plain-fill : (o : Order) (s : State) → fill (plain_terms t) o s ≡ fill t o s
  unfolding fill
  plain-fill o s = simp (plain-whole, plain-settled, plain-trimmed)

  pub plain-fills : (os : List Order) (s : State) → fill_all (plain_terms t) os s ≡ fill_all t os s
  unfolding fill_all
  plain-fills [] s = refl
  plain-fills (o ∷ os) s = rw (plain-fill o s) (plain-fills os (fill t o s))
