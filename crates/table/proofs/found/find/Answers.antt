-- A hit at the hinted place is the search's answer, since rising keys are all different.
use Prim.Native.Nat.{◌≤◌}
use mathlib.Core.Path.{◌≡◌}
use lib.ListN.{length, take}
use Rattle.table.proofs.Places.{used_within, used_same, finds_there}
use Rattle.table.proofs.found.find.Goals as goal

pub returns-then-keys-hint : goal.returns-then-keys-hint
returns-then-keys-hint c =
    let room : c.used-m.result ≤ length c.args.keys.now = used_within c.args.n c.args.keys.now c.used-m.ensures in
    let same : take c.used-m.result c.args.keys.now ≡ take c.args.n c.args.keys.now = used_same c.args.n c.args.keys.now c.used-m.ensures in
    rw same at (finds_there c.args.keys.now _ room _ _ c.if-hint-m.true c.if-keys-hint.true)
