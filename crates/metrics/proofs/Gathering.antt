-- What the pass over a series has gathered before a place, and that the place moves on.
use Prim.Native.Nat.{ℕ, ◌+◌, ◌≤◌, ◌<◌}
use mathlib.Core.Path.{◌≡◌, refl, sym, ap, ◌∙◌}
use mathlib.Core.Bool.{Bool, true, false}
use mathlib.Core.List.{List, foldl}
use native.Mathlib.Omega.{arith}
use lib.ListN.{length, drop, get_or, drop_of_length-le}
use lib.Ieee.{Float}
use Rattle.std.proofs.Common.{Some, None}
use Rattle.doubles.specs.Doubles.{finite, all_finite}
use Rattle.doubles.proofs.Finite.{drop-next}
use Rattle.metrics.specs.Curve.{flat, curve_after}
use Rattle.metrics.specs.Tally.{wins, loses}
use Rattle.metrics.specs.Inner.Tally.{counted_if, no_returns, tally_after}
use Rattle.metrics.specs.Inner.Gathered.{gathered}
use Rattle.metrics.specs.declared.curve.Curve.{Curve}
use Rattle.metrics.specs.declared.tally.Tally.{Tally}
use Rattle.metrics.proofs.FiniteEquity.{equity-finite}

pub record Gathering (rs : List Float) (c : Curve) (t : Tally) (i : ℕ) : Type 0 where
  pub won : t.winning_periods ≤ i
  pub lost : t.losing_periods ≤ i
  pub whole_curve : foldl curve_after c (drop i rs) ≡ foldl curve_after flat rs
  pub whole_tally : foldl tally_after t (drop i rs) ≡ foldl tally_after no_returns rs

counted-one : (n i : ℕ) (b : Bool) → n ≤ i → counted_if n b ≤ i + 1
counted-one n i true l = omega arith
counted-one n i false l = omega arith

module _ (rs : List Float) where
  pub gather_first : Gathering rs flat no_returns 0
  gather_first = record { won = omega arith; lost = omega arith; whole_curve = refl; whole_tally = refl }

  pub gather_on : (c : Curve) (t : Tally) (i : ℕ) (d : Float) → i < length rs → Gathering rs c t i
      → Gathering rs (curve_after c (get_or rs i d)) (tally_after t (get_or rs i d)) (i + 1)
  unfolding tally_after
  gather_on c t i d l g =
      let r = get_or rs i d in
      record {
        won = counted-one t.winning_periods i (wins r) g.won;
        lost = counted-one t.losing_periods i (loses r) g.lost;
        whole_curve = sym (ap (foldl curve_after c) (drop-next rs i d l)) ∙ g.whole_curve;
        whole_tally = sym (ap (foldl tally_after t) (drop-next rs i d l)) ∙ g.whole_tally;
      }

  module _ (c : Curve) (t : Tally) (i : ℕ) (l : length rs ≤ i) (g : Gathering rs c t i) where
    last_curve : c ≡ foldl curve_after flat rs
    last_curve = sym (ap (foldl curve_after c) (drop_of_length-le rs l)) ∙ g.whole_curve

    last_tally : t ≡ foldl tally_after no_returns rs
    last_tally = sym (ap (foldl tally_after t) (drop_of_length-le rs l)) ∙ g.whole_tally

    -- a finite equity settles whether all are finite
    pub equity_settles : finite c.equity ≡ true → true ≡ all_finite rs
    equity_settles h = sym (equity-finite flat rs (ap (λ c. finite c.equity) (sym last_curve) ∙ h)).1

    pub gather_all : true ≡ all_finite rs → Some (record { curve = c; tally = t }) ≡ gathered rs
    unfolding gathered
    gather_all e =
        let d = last_curve in
        let u = last_tally in
        rw (← e) (cc)

  pub gather_none : false ≡ all_finite rs → None ≡ gathered rs
  unfolding gathered
  gather_none e = rw (← e)
