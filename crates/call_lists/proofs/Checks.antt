-- What lists that are not refused have: each test of the definition.
use Prim.Native.Nat.{ℕ, ◌≤◌}
use mathlib.Core.Path.{◌≡◌, refl, ap}
use mathlib.Core.Bool.{true}
use mathlib.Core.List.{List}
use lib.Dec.{eqb, leb}
use lib.IntN.{ℤ}
use lib.Ieee.{Float}
use lib.ListN.{length}
use borrow.Author.Tests.{leb-true, eqb-true}
use Rattle.doubles.specs.Doubles.{all_finite}
use Rattle.answer.specs.declared.Entry.TheVariants.{Target, Price}
use Rattle.answer.specs.declared.Answer.TheVariants.{Done, BadSymbol, Twice, BadPrice, BadWeight, TooLong}
use Rattle.answer.specs.Numbers.{is_done}
use Rattle.answer.proofs.Answers.{passed}
use Rattle.table.specs.Keyed.{both}
use Rattle.table.proofs.Keyed.{both_true}
use Rattle.call_lists.specs.Lists.{all_good, distinct, all_priced, first_bad, first_repeat, first_unpriced}
use Rattle.call_lists.specs.Checks.{short_enough, lists_answer}

pub record Accepted (ts : List ℕ) (ws : List Float) (ps : List ℕ) (vs : List ℤ) : Type 0 where
  pub targets_bound : length ts ≤ 64
  pub targets_paired : length ts ≡ length ws
  pub prices_bound : length ps ≤ 128
  pub prices_paired : length ps ≡ length vs
  pub targets_good : all_good ts ≡ true
  pub symbols_good : all_good ps ≡ true
  pub targets_distinct : distinct ts ≡ true
  pub symbols_distinct : distinct ps ≡ true
  pub weights_finite : all_finite ws ≡ true
  pub prices_listed : all_priced vs ≡ true

module _ (ts : List ℕ) (ws : List Float) (ps : List ℕ) (vs : List ℤ) where
  pub done_accepted : lists_answer ts ws ps vs ≡ Done → Accepted ts ws ps vs
  unfolding lists_answer short_enough
  done_accepted e =
      let a = passed (short_enough ts ws ps vs) TooLong _ refl (ap is_done e) in
      let g = passed (all_good ts) (BadSymbol (Target (first_bad ts))) _ refl a.1 in
      let h = passed (all_good ps) (BadSymbol (Price (first_bad ps))) _ refl g.1 in
      let u = passed (distinct ts) (Twice (Target (first_repeat ts))) _ refl h.1 in
      let v = passed (distinct ps) (Twice (Price (first_repeat ps))) _ refl u.1 in
      let d = passed (all_finite ws) BadWeight _ refl v.1 in
      let f = passed (all_priced vs) (BadPrice (Price (first_unpriced vs))) Done refl d.1 in
      let s = both_true (both (leb (length ts) 64) (eqb (length ts) (length ws))) _ a.0 in
      let t = both_true (leb (length ts) 64) (eqb (length ts) (length ws)) s.0 in
      let p = both_true (leb (length ps) 128) (eqb (length ps) (length vs)) s.1 in
      record {
        targets_bound = leb-true _ _ t.0;
        targets_paired = eqb-true _ _ t.1;
        prices_bound = leb-true _ _ p.0;
        prices_paired = eqb-true _ _ p.1;
        targets_good = g.0;
        symbols_good = h.0;
        targets_distinct = u.0;
        symbols_distinct = v.0;
        weights_finite = d.0;
        prices_listed = f.0;
      }
