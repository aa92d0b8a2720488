-- Long division, a bit at a time. After k bits quotient * d + rest is r * 2 ^ k and the upper k bits of n.
use Rattle.std.proofs.Common.{◌≡◌, ◌+◌, ◌-◌, ◌*◌, ◌/◌, ◌^◌, ◌<◌}
use Rattle.sums.proofs.div_word.Given as goal

abbrev pub invariant-loop-k : goal.invariant-loop-k
invariant-loop-k l = (l.rest < l.d) × (l.quotient < 2 ^ l.k) × (l.quotient * l.d + l.rest ≡ l.r * 2 ^ l.k + l.n / 2 ^ (64 - l.k))
