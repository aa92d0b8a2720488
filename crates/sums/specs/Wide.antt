-- "Products and quotients take two 64-bit words".
use Rattle.std.specs.Prelude.{ℕ, ◌+◌, ◌*◌, ◌/◌, ◌%◌, ◌^◌}
use Rattle.sums.specs.declared.Wide.{Wide}

-- the number that two words stand for
unfoldable pub value_of : Wide → ℕ
value_of w = w.hi * 2 ^ 64 + w.lo

-- the two words of a number below 2 ^ 128
unfoldable pub wide : ℕ → Wide
wide n = record { hi = n / 2 ^ 64; lo = n % 2 ^ 64 }
