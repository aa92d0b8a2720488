-- A fill, and a run of fills, on what a sound account holds leaves it sound, and leaves other symbols as they are.
use Prim.Native.Nat.{ℕ, ◌≤◌}
use mathlib.Core.Bool.{Bool, true, false}
use mathlib.Core.List.{List, [], ◌∷◌, map}
use mathlib.Core.Option.{Option, none, some}
use mathlib.Core.Path.{◌≡◌, refl, ap, ◌∙◌}
use lib.Dec.{ltb}
use lib.IntN.{ℤ, pos}
use lib.ListN.{length}
use lib.Signed.{le_z}
use mir.Syntax.{w64}
use mir.Val.{SFits}
use Rattle.position.specs.declared.position.Position.{Position}
use Rattle.position.specs.Rows.{fresh, key_of}
use Rattle.position.specs.Shares.{is_zero}
use Rattle.position.specs.Symbols.{good_symbol}
use Rattle.position.specs.Fills.{sound}
use Rattle.position.proofs.Fills.{applied_keeps_symbol, applied_keeps_sound, fresh-sound}
use Rattle.cost_model.specs.Costs.{good_costs}
use Rattle.cost_model.proofs.Costs.{effective_nonneg}
use Rattle.table.specs.Keyed.{pick, there, or_else, seek, put, put64, all}
use Rattle.table.specs.Inner.Keyed.{Rising}
use Rattle.table.proofs.Keyed.{seek_key, seek-put, put64_rises, put64-fits, all-put64, all-seek}
use Rattle.fills.specs.declared.terms.Order.{Order}
use Rattle.fills.specs.declared.terms.Terms.{Terms}
use Rattle.fills.specs.Orders.{State, buys, paid}
use Rattle.fills.specs.Fill.{made, counted, settled, fill, fill_all}
use Rattle.fills.specs.Inner.Deal.{deal_of, counted_by}
use Rattle.fills.proofs.Cash.{by_outcome, fill_keeps_cash}
use Rattle.fills.proofs.Filling.{fill_is_deal, none_after}

-- "cash at least 0, positions with good symbols, strictly ascending"; "At most 64 positions"; each position's numbers sound
pub record Sound (s : State) : Type 0 where
  pub cash : le_z (pos 0) s.cash ≡ true
  pub positions : all sound s.held ≡ true
  pub rising : Rising (map key_of s.held)
  pub room : length s.held ≤ 64

-- an order that a plan may hold: a good symbol and a price of 1 to 2^63-1
pub record ListedOrder (o : Order) : Type 0 where
  pub symbol : good_symbol o.symbol.0 ≡ true
  pub price : le_z (pos 1) o.price ≡ true
  pub price-fits : SFits w64 o.price

abbrev pub AllListed : List Order → Type 0
AllListed [] = 0 ≤ 0
AllListed (o ∷ os) = ListedOrder o × AllListed os

-- ---- the position that a fill makes
module _ (t : Terms) (good : good_costs t.costs ≡ true) (o : Order) (l : ListedOrder o) where
  price_nonneg : le_z (pos 0) (paid t o) ≡ true
  unfolding paid
  price_nonneg = effective_nonneg t.costs (buys o) o.price good l.price-fits l.price

  made-sound : (q : ℤ) (ps : List Position) → all sound ps ≡ true → sound (made t o q (seek key_of o.symbol.0 ps)) ≡ true
  unfolding made
  made-sound q ps h = applied_keeps_sound (or_else (fresh o.symbol.0) (seek key_of o.symbol.0 ps)) q (paid t o) (go (seek key_of o.symbol.0 ps) refl) price_nonneg
    where
      go : (x : Option Position) → seek key_of o.symbol.0 ps ≡ x → sound (or_else (fresh o.symbol.0) x) ≡ true
      go none e = fresh-sound o.symbol.0 l.symbol
      go (some p) e = all-seek key_of sound o.symbol.0 ps p h e

  put_positions : (q : ℤ) (ps : List Position) → all sound ps ≡ true → all sound (put64 key_of (made t o q (seek key_of o.symbol.0 ps)) ps) ≡ true
  put_positions q ps h = all-put64 key_of sound (made t o q (seek key_of o.symbol.0 ps)) ps (made-sound q ps h) h

  -- a fill on a sound account leaves it sound
  pub fill_keeps_sound : (s : State) → Sound s → Sound (fill t o s)
  unfolding settled counted
  fill_keeps_sound s h = record {
    cash = fill_keeps_cash t good o l.price s h.cash;
    positions = by_outcome (λ x. all sound x.held ≡ true) t o s h.positions
        (λ _ _. put_positions _ s.held h.positions) (λ _ _. h.positions) (λ _ _. put_positions _ s.held h.positions);
    rising = by_outcome (λ x. Rising (map key_of x.held)) t o s h.rising
        (λ _ _. put64_rises key_of _ s.held h.rising) (λ _ _. h.rising) (λ _ _. put64_rises key_of _ s.held h.rising);
    room = by_outcome (λ x. length x.held ≤ 64) t o s h.room
        (λ _ _. put64-fits key_of _ s.held h.room) (λ _ _. h.room) (λ _ _. put64-fits key_of _ s.held h.room);
  }

-- and so does a run of them
pub fills-keep-sound : (t : Terms) → good_costs t.costs ≡ true → (os : List Order) → AllListed os → (s : State) → Sound s → Sound (fill_all t os s)
unfolding fill_all
fills-keep-sound t good [] l s h = h
fills-keep-sound t good (o ∷ os) l s h = fills-keep-sound t good os l.1 (fill t o s) (fill_keeps_sound t good o l.0 s h)

-- ---- "Symbols with no fill keep their positions to the last field"
module _ (t : Terms) (o : Order) where
  made-symbol : (q : ℤ) (ps : List Position) → key_of (made t o q (seek key_of o.symbol.0 ps)) ≡ o.symbol.0
  unfolding made
  made-symbol q ps = applied_keeps_symbol (or_else (fresh o.symbol.0) (seek key_of o.symbol.0 ps)) q (paid t o) ∙ go (seek key_of o.symbol.0 ps) refl
    where
      go : (x : Option Position) → seek key_of o.symbol.0 ps ≡ x → key_of (or_else (fresh o.symbol.0) x) ≡ o.symbol.0
      go none e = refl
      go (some p) e = seek_key key_of o.symbol.0 ps p e

  other_kept : (k : ℕ) → (k ≡ o.symbol.0 → ⊥) → (q : ℤ) (ps : List Position) → seek key_of k (put64 key_of (made t o q (seek key_of o.symbol.0 ps)) ps) ≡ seek key_of k ps
  other_kept k h q ps = go (there (seek key_of (key_of p) ps)) (ltb (length ps) 64)
    where
      p : Position
      p = made t o q (seek key_of o.symbol.0 ps)

      apart : k ≡ key_of p → ⊥
      apart e = h (e ∙ made-symbol q ps)

      go : (a b : Bool) → seek key_of k (pick a (put key_of p ps) (pick b (put key_of p ps) ps)) ≡ seek key_of k ps
      go true b = seek-put key_of k p ps apart
      go false true = seek-put key_of k p ps apart
      go false false = refl

  pub fill_keeps_others : (s : State) (k : ℕ) → (k ≡ o.symbol.0 → ⊥) → seek key_of k (fill t o s).held ≡ seek key_of k s.held
  unfolding settled counted
  fill_keeps_others s k h = by_outcome (λ x. seek key_of k x.held ≡ seek key_of k s.held) t o s refl
      (λ _ _. other_kept k h _ s.held) (λ _ _. refl) (λ _ _. other_kept k h _ s.held)

  -- where nothing fills, no position changes and none is entered
  pub no_fill_keeps_all : (s : State) → is_zero (deal_of t o s.cash).quantity.0 ≡ true → (fill t o s).held ≡ s.held
  unfolding counted_by
  no_fill_keeps_all s z = ap (λ x. x.held) (fill_is_deal t o s ∙ none_after t o s (deal_of t o s.cash) z)
