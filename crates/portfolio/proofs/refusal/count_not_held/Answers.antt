-- A target counts if the search does not find it.
use mathlib.Core.Path.{◌≡◌, ap}
use native.Mathlib.Omega.{arith}
use lib.ListN.{take}
use Rattle.portfolio.specs.Inner.Planned.{lacked_by}
use Rattle.portfolio.proofs.Lacking.{lacked_most, lacking_on, lacking-end}
use Rattle.portfolio.proofs.refusal.count_not_held.Goals as goal
use Rattle.portfolio.proofs.refusal.count_not_held.Goals.{in-Absent, in_default}

pub loop-i-preserved : goal.loop-i-preserved
loop-i-preserved c =
    let x = c.args in
    let ks = take x.n x.key.now in
    let counted : c.from.result ≡ lacked_by c.find.result =
    elim c.match-matches.branch [ in-Absent w ↦ rw w.in-Absent.is (simp w.matches-is at c.from.ensures) | in_default w ↦ rw w.in_default.is (simp w.matches-is at c.from.ensures) ] in (
      omega arith,
      omega (arith, counted, lacked_most c.find.result),
      λ e. omega (arith, c.loop-i.invariant.2 e, counted, ap lacked_by (c.find.ensures.settled e), lacking_on ks x.targets.now c.loop-i.i (omega arith)),
    )

pub returns : goal.returns
returns c =
    let x = c.args in
    record {
      most = omega arith;
      settled = λ e. omega (arith, c.loop-i.invariant.2 e, lacking-end (take x.n x.key.now) x.targets.now c.loop-i.i c.loop-i-test.false);
    }
