-- The bits of a number are 0 where the number is.
use Rattle.std.proofs.Common.{w64, SFits, rules}
use Rattle.position.proofs.Counts.{zero_bits}
use Rattle.position.proofs.shares.Shares.is_zero.Goals as goal

pub returns : goal.returns
returns c =
    let f : SFits w64 c.args.self.0 = search rules in
    zero_bits c.args.self.0 f
