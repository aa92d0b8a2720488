-- As many values as a record has, copied over as many places.
use Rattle.std.proofs.Common.{◌≡◌, ◌*◌, length, arith, rules}
use Rattle.fills.proofs.Storing.{copied-is_sets}
use Rattle.fills.proofs.record.store_values.Goals as goal

pub returns : goal.returns
returns g c =
    let n : length c.args.values ≡ g.row.N = search rules in
    copied-is_sets c.args.run.now (c.args.at * g.row.N) _ c.args.values _ c.copy_from_slice.ensures.after (omega arith) (omega (arith, n, c.requires))
