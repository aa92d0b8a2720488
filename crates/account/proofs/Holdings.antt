-- What ordered columns hold: the position of a symbol, and the one at a place.
use Prim.Native.Nat.{ℕ, ◌<◌}
use mathlib.Core.Path.{◌≡◌, sym, ap, ◌∙◌}
use native.Mathlib.Omega.{arith}
use lib.ListN.{take, get_or}
use Rattle.position.specs.Rows.{fresh, key_of}
use Rattle.table.specs.Keyed.{seek}
use Rattle.table.specs.Inner.Places.{found}
use Rattle.table.specs.Rows.{rows}
use Rattle.table.specs.declared.table.Columns.{Columns}
use Rattle.table.specs.Inner.Rows.{held_at, Ordered}
use Rattle.table.specs.declared.found.Found.{Found}
use Rattle.table.specs.declared.found.Found.TheVariants.{At, Absent}
use Rattle.table.proofs.Places.{stands, lacks}
use Rattle.table.proofs.Zipped.{keys_of}
use Rattle.account.specs.Calls.{present, present_or}
use Rattle.account.specs.Inner.Calls.{found_in}
use Rattle.account.proofs.Columns.{held-row, rows-length, row_of}

pub place_holds : (n i : ℕ) (c : Columns) → Ordered n c → i < n → held_at (At i) 0 c ≡ get_or (rows n c) i (fresh 0)
place_holds n i c o h = held-row i 0 c (omega (arith, o.small)) ∙ sym (row_of c o.full n i h)

pub found-holds : (n s : ℕ) (c : Columns) (f : Found) → Ordered n c → f ≡ found s (take n c.symbol) → found_in f c ≡ present_or (seek key_of s (rows n c))
found-holds n s c (At i) o e =
    let g = stands key_of (fresh 0) (fresh s) (rows n c) 0 i (ap (found s) (keys_of n c o.full) ∙ sym e) in
    let q : i ≡ g.j = omega (arith, g.from) in
    let h : i < n = omega (arith, g.from, g.below, rows-length c o.full n o.small) in
    ap present (place_holds n i c o h ∙ ap (λ k. get_or (rows n c) k (fresh 0)) q) ∙ sym (ap present_or g.got)
found-holds n s c (Absent i) o e = sym (ap present_or (lacks key_of (fresh 0) (fresh s) (rows n c) 0 i (ap (found s) (keys_of n c o.full) ∙ sym e)).got)
