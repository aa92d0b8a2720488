-- A signed local is its bits: read back they are the number.
use Rattle.std.proofs.Common.{◌≡◌, ◌^◌, ◌<◌, ℤ, w64, to_z, of_z}
use lib.Signed.{mag}
use mir.ValLaws.{to_z-of_z}

pub read_back : (z : ℤ) → mag z < 2 ^ 63 → to_z w64 (of_z w64 z) ≡ z
read_back z h = to_z-of_z w64 z (record { sfits = h })
