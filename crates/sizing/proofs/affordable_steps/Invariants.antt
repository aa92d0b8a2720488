-- The answer stays between the ends: the lower one fits or is 0, and the largest that fits up to the upper one is the largest up to the whole.
use Rattle.std.proofs.Common.{◌≡◌, ◌-◌, ◌≤◌, true, ◌⊎◌}
use Rattle.sizing.specs.Afford.{fits, largest}
use Rattle.sizing.proofs.affordable_steps.Given as goal

abbrev pub invariant-loop-lo : goal.invariant-loop-lo
invariant-loop-lo l =
    record {
      ends : l.lo ≤ l.hi;
      within : l.hi ≤ l.most;
      low : (l.lo ≡ 0) ⊎ (fits l.costs l.step l.cash l.price l.lo ≡ true);
      high : largest (fits l.costs l.step l.cash l.price) l.hi ≡ largest (fits l.costs l.step l.cash l.price) l.most;
    }

abbrev pub decreases-loop-lo : goal.decreases-loop-lo
decreases-loop-lo l = l.hi - l.lo
