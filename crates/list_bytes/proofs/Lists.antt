-- Of a list that is whole, the first places of a column are what the bytes hold: all of it, and nothing more.
use Prim.Native.Nat.{ℕ, ◌/◌, ◌%◌, ◌≤◌}
use mathlib.Core.Path.{◌≡◌, refl, sym, ap, ◌∙◌, subst⁻¹}
use mathlib.Core.Bool.{Bool, true, false}
use mathlib.Core.List.{List}
use native.Mathlib.Omega.{arith}
use lib.Dec.{eqb, leb}
use lib.IntN.{ℤ}
use lib.Ieee.{Float}
use lib.ListN.{length, take}
use lib.Seq.{take_at}
use borrow.Author.Tests.{leb-true}
use Rattle.std.specs.Prelude.{Some, None}
use Rattle.table.specs.Keyed.{pick}
use Rattle.table.proofs.Keyed.{both_true}
use Rattle.list_bytes.specs.declared.price.Prices.{Prices}
use Rattle.list_bytes.specs.declared.target.Targets.{Targets}
use Rattle.list_bytes.specs.Entries.{is_whole, whole_list, at_places_of}
use Rattle.list_bytes.specs.Lists.{entry_symbol, entry_weight, entry_price, symbols_in, weights_in, prices_in}
use Rattle.list_bytes.specs.Inner.Lists.{EntryColumns, entries_into, targets_into, prices_into, targets_of, prices_of}
use Rattle.list_bytes.proofs.Columns.{count_small, places-long, front_room, front_long, front_all}

-- what a choice gives, where it gives anything
given : {A : Type 0} (b : Bool) {x y : A} → pick b (Some x) None ≡ Some y → (b ≡ true) × (y ≡ x)
given true e = (refl, cc)
given false e = cc

not_given : {A : Type 0} (b : Bool) (x : A) → pick b (Some x) None ≡ None → b ≡ false
not_given true x e = cc
not_given false x e = refl

whole-small : (most n : ℕ) → is_whole most n ≡ true → n / 16 ≤ most
whole-small most n e = leb-true (n / 16) most (both_true (eqb (n % 16) 0) (leb (n / 16) most) e).1

module _ (l : List ℕ) where
  pub symbols-long : length (symbols_in l) ≡ length l / 16
  symbols-long = places-long (length l / 16) (entry_symbol l)

  pub weights-long : length (weights_in l) ≡ length l / 16
  weights-long = places-long (length l / 16) (entry_weight l)

  pub prices-long : length (prices_in l) ≡ length l / 16
  prices-long = places-long (length l / 16) (entry_price l)

  -- ---- by value
  -- a list that is given is whole, and one that is whole is given
  pub targets-whole : {t : Targets} → targets_of l ≡ Some t → whole_list 64 l ≡ true
  unfolding targets_of
  targets-whole e = (given (whole_list 64 l) e).0

  pub prices-whole : {p : Prices} → prices_of l ≡ Some p → whole_list 128 l ≡ true
  unfolding prices_of
  prices-whole e = (given (whole_list 128 l) e).0

  pub no-targets : targets_of l ≡ None → whole_list 64 l ≡ false
  unfolding targets_of
  no-targets e = not_given (whole_list 64 l) _ e

  pub no-prices : prices_of l ≡ None → whole_list 128 l ≡ false
  unfolding prices_of
  no-prices e = not_given (whole_list 128 l) _ e

  -- the first places of its columns
  pub target_symbols : {t : Targets} → targets_of l ≡ Some t → take t.count t.symbol ≡ symbols_in l
  unfolding targets_of
  target_symbols e = rw (given (whole_list 64 l) e).1 (take_at (symbols_in l) _ (length l / 16) symbols-long)

  pub target_weights : {t : Targets} → targets_of l ≡ Some t → take t.count t.weight ≡ weights_in l
  unfolding targets_of
  target_weights e = rw (given (whole_list 64 l) e).1 (take_at (weights_in l) _ (length l / 16) weights-long)

  pub price-symbols : {p : Prices} → prices_of l ≡ Some p → take p.count p.symbol ≡ symbols_in l
  unfolding prices_of
  price-symbols e = rw (given (whole_list 128 l) e).1 (take_at (symbols_in l) _ (length l / 16) symbols-long)

  pub price-prices : {p : Prices} → prices_of l ≡ Some p → take p.count p.price ≡ prices_in l
  unfolding prices_of
  price-prices e = rw (given (whole_list 128 l) e).1 (take_at (prices_in l) _ (length l / 16) prices-long)

  -- and so many of them
  pub target-count : {t : Targets} → targets_of l ≡ Some t → t.count ≡ length l / 16
  unfolding targets_of
  target-count e = ap (λ (t : Targets). t.count) (given (whole_list 64 l) e).1

  pub price-count : {p : Prices} → prices_of l ≡ Some p → p.count ≡ length l / 16
  unfolding prices_of
  price-count e = ap (λ (p : Prices). p.count) (given (whole_list 128 l) e).1

  pub target_symbols-long : {t : Targets} → targets_of l ≡ Some t → length (take t.count t.symbol) ≡ t.count
  target_symbols-long e = ap length (target_symbols e) ∙ symbols-long ∙ sym (target-count e)

  pub target_weights-long : {t : Targets} → targets_of l ≡ Some t → length (take t.count t.weight) ≡ t.count
  target_weights-long e = ap length (target_weights e) ∙ weights-long ∙ sym (target-count e)

  pub price-symbols-long : {p : Prices} → prices_of l ≡ Some p → length (take p.count p.symbol) ≡ p.count
  price-symbols-long e = ap length (price-symbols e) ∙ symbols-long ∙ sym (price-count e)

  pub price-prices-long : {p : Prices} → prices_of l ≡ Some p → length (take p.count p.price) ≡ p.count
  price-prices-long e = ap length (price-prices e) ∙ prices-long ∙ sym (price-count e)

  pub targets-small : {t : Targets} → targets_of l ≡ Some t → t.count ≤ 64
  targets-small e = omega (arith, target-count e, whole-small 64 (length l) (targets-whole e))

  pub prices-small : {p : Prices} → prices_of l ≡ Some p → p.count ≤ 128
  prices-small e = omega (arith, price-count e, whole-small 128 (length l) (prices-whole e))

-- ---- in lent columns
-- what a caller that lends the first places of the columns on lends
pub record Fronts {A : Type 0} (most : ℕ) (l : List ℕ) (vs : List A) (t : EntryColumns A) : Type 0 where
  pub small : t.count ≤ most
  pub symbols-room : t.count ≤ length t.symbol
  pub values-room : t.count ≤ length t.value
  pub symbols-long : length (take t.count t.symbol) ≡ t.count
  pub values-long : length (take t.count t.value) ≡ t.count
  pub symbols : whole_list most l ≡ true → take t.count t.symbol ≡ symbols_in l
  pub values : whole_list most l ≡ true → take t.count t.value ≡ vs

fronts : {A : Type 0} (most : ℕ) (l : List ℕ) (f : ℕ → A) (s : List ℕ) (v : List A) → Fronts most l (at_places_of (length l / 16) f) (entries_into most l (at_places_of (length l / 16) f) s v)
fronts most l f s v = record {
  small = count_small most (length l);
  symbols-room = front_room most (length l) (entry_symbol l) _;
  values-room = front_room most (length l) f _;
  symbols-long = front_long most (length l) (entry_symbol l) _;
  values-long = front_long most (length l) f _;
  symbols = front_all most (length l) (entry_symbol l) _;
  values = front_all most (length l) f _;
}

pub target_fronts : (l s : List ℕ) (v : List Float) {t : EntryColumns Float} → t ≡ targets_into l s v → Fronts 64 l (weights_in l) t
unfolding targets_into
target_fronts l s v e = subst⁻¹ (λ (t : EntryColumns Float). Fronts 64 l (weights_in l) t) e (fronts 64 l (entry_weight l) s v)

pub price_fronts : (l s : List ℕ) (v : List ℤ) {t : EntryColumns ℤ} → t ≡ prices_into l s v → Fronts 128 l (prices_in l) t
unfolding prices_into
price_fronts l s v e = subst⁻¹ (λ (t : EntryColumns ℤ). Fronts 128 l (prices_in l) t) e (fronts 128 l (entry_price l) s v)
