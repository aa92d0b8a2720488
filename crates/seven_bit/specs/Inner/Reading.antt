-- What is left of a number, over what was read of it.
use Rattle.std.specs.Prelude.{ℕ, ◌+◌, ◌*◌}
use Rattle.seven_bit.specs.Groups.{Out, ends, bad, got}

-- a number whose lower groups, u of them, came to s, the next counted c times
unfoldable pub raised : ℕ → ℕ → ℕ → Out → Out
raised s c u ends = ends
raised s c u bad = bad
raised s c u (got v n) = got (s + c * v) (u + n)
