-- Of a list of prices that is whole, the first places of a column are what the bytes hold: all of it, and nothing more.
use Rattle.std.proofs.Common.{ℕ, ◌/◌, ◌%◌, ◌≤◌, ◌≡◌, refl, ap, Bool, true, false, List, length, take, arith, eqb, leb}
use Rattle.std.specs.Prelude.{Some, None}
use lib.Seq.{take_at}
use borrow.Author.Tests.{leb-true}
use Rattle.table.specs.Keyed.{pick}
use Rattle.table.proofs.Keyed.{both_true}
use Rattle.list_bytes.specs.declared.price.Prices.{Prices}
use Rattle.list_bytes.specs.Entries.{is_whole, whole_list}
use Rattle.list_bytes.specs.Lists.{symbols_in, prices_in}
use Rattle.list_bytes.specs.Inner.Lists.{prices_of}
use Rattle.list_bytes.proofs.Lists.{symbols-long, prices-long}

-- what a choice gives, where it gives anything
given : {A : Type 0} (b : Bool) {x y : A} → pick b (Some x) None ≡ Some y → (b ≡ true) × (y ≡ x)
given true e = (refl, cc)
given false e = cc

not_given : {A : Type 0} (b : Bool) (x : A) → pick b (Some x) None ≡ None → b ≡ false
not_given true x e = cc
not_given false x e = refl

whole-small : (most n : ℕ) → is_whole most n ≡ true → n / 16 ≤ most
whole-small most n e = leb-true (n / 16) most (both_true (eqb (n % 16) 0) (leb (n / 16) most) e).1

module _ (l : List ℕ) where
  pub no-prices : prices_of l ≡ None → whole_list 128 l ≡ false
  unfolding prices_of
  no-prices e = not_given (whole_list 128 l) _ e

  module _ {p : Prices} (e : prices_of l ≡ Some p) where
    pub prices-whole : whole_list 128 l ≡ true
    unfolding prices_of
    prices-whole = (given (whole_list 128 l) e).0

    pub price-symbols : take p.count p.symbol ≡ symbols_in l
    unfolding prices_of
    price-symbols = rw (given (whole_list 128 l) e).1 (take_at (symbols_in l) _ (length l / 16) (symbols-long l))

    pub price-prices : take p.count p.price ≡ prices_in l
    unfolding prices_of
    price-prices = rw (given (whole_list 128 l) e).1 (take_at (prices_in l) _ (length l / 16) (prices-long l))

    price-count : p.count ≡ length l / 16
    unfolding prices_of
    price-count = ap (λ (p : Prices). p.count) (given (whole_list 128 l) e).1

    pub prices-small : p.count ≤ 128
    prices-small = omega (arith, price-count, whole-small 128 (length l) prices-whole)
