-- An account's total, once finished, goes into its place; the first that is not in i64 ends the loop.
use Rattle.std.proofs.Common.{◌≡◌, sym, refl, ◌∙◌, arith, w64, rules}
use mir.ValLaws.{to_z-of_z}
use Rattle.house.specs.Group.{every}
use Rattle.house.specs.Inner.Raised.{ended}
use Rattle.house.specs.Inner.Parts.{total_fits}
use Rattle.house.proofs.Columns.{every_on, every_no, test_passed, test_failed, column-first, filled_on}
use Rattle.house.proofs.total.sum_accounts.Goals as goal

pub loop-a-init : goal.loop-a-init
unfolding every
loop-a-init c = record { fits = refl; changes = c.requires.empty ∙ column-first 32 _ _ }

pub returns-in_err-changes : goal.returns-in_err-changes
unfolding ended
returns-in_err-changes c =
    rw c.from_residual.ensures
    (every_no c.args.n (total_fits c.args.m c.args.totals.now) c.loop-a.a c.loop-a-test.true (test_failed _ _ c.in_err-changes.ensures))

pub loop-a-preserved : goal.loop-a-preserved
unfolding ended
loop-a-preserved c =
    let l = c.loop-a in
    let p = test_passed _ _ _ c.in_ok-changes.ensures in
    let v = to_z-of_z w64 c.in_ok-changes.field-0 (search rules) in
    record {
      fits = sym (every_on (total_fits c.args.m c.args.totals.now) l.a _ _ (sym l.invariant.fits) (sym p.0));
      changes = filled_on 32 _ _ l.a _ _ (omega arith) l.invariant.changes (v ∙ p.1);
    }

pub returns : goal.returns
returns c =
    let l = c.loop-a in
    let e : l.a ≡ c.args.n = omega (arith, c.loop-a-test.false, l.auto.a-end) in
    record { fits = rw (← e) l.invariant.fits; changes = rw (← e) l.invariant.changes }
