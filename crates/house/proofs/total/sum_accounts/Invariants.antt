-- The invariant: the changes of the accounts before the place, all of them in i64.
use Rattle.std.proofs.Common.{◌≡◌, ◌%◌, ◌^◌, true, pos}
use Rattle.house.specs.Group.{every}
use Rattle.house.specs.Places.{column}
use Rattle.house.specs.Inner.Raised.{lowered}
use Rattle.house.specs.Inner.Parts.{total_at, total_fits}
use Rattle.house.proofs.total.sum_accounts.Given as goal

abbrev pub invariant-loop-a : goal.invariant-loop-a
invariant-loop-a l = record {
  fits : every l.a (total_fits l.m l.totals) ≡ true;
  changes : l.changes ≡ column 32 (pos 0) l.a (λ i. lowered (total_at l.totals i % 2 ^ 64));
}
