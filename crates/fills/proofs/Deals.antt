-- A deal by its tests.
use mathlib.Core.Path.{◌≡◌, sym, ap, ◌∙◌}
use mathlib.Core.Bool.{true, false}
use Rattle.std.specs.Prelude.{None}
use lib.IntN.{ℤ, pos}
use lib.Signed.{lt_z, le_z}
use Rattle.position.proofs.Counts.{lt_not_ge, not_lt_ge}
use Rattle.sums.specs.Sums.{sat_sub}
use Rattle.sizing.specs.Cash.{cash_taken}
use Rattle.fills.specs.declared.deal.Deal.{Deal}
use Rattle.fills.specs.declared.terms.Terms.{Terms}
use Rattle.fills.specs.Inner.Deal.{dealt, no_deal, sale_deal}

module _ (t : Terms) (q p cash : ℤ) (d : Deal) (e : d ≡ dealt t q p cash None) where
  left : d.cash_after ≡ sat_sub cash (cash_taken t.costs q p)
  unfolding dealt
  left = ap (λ x. x.cash_after) e

  pub sold_skips : lt_z d.cash_after (pos 0) ≡ true → sale_deal t q p cash ≡ no_deal p cash None
  unfolding sale_deal
  sold_skips h =
      let n : le_z (pos 0) (sat_sub cash (cash_taken t.costs q p)) ≡ false = ap (le_z (pos 0)) (sym left) ∙ lt_not_ge d.cash_after (pos 0) h in
      simp n

  pub sold_fills : lt_z d.cash_after (pos 0) ≡ false → sale_deal t q p cash ≡ d
  unfolding sale_deal
  sold_fills h =
      let n : le_z (pos 0) (sat_sub cash (cash_taken t.costs q p)) ≡ true = ap (le_z (pos 0)) (sym left) ∙ not_lt_ge d.cash_after (pos 0) h in
      simp (n, e)
