-- After j turns the first j numbers are put.
use Prim.Native.Nat.{◌+◌, ◌*◌}
use mathlib.Core.Path.{◌≡◌, refl}
use lib.IntN.{pos}
use lib.ListN.{get_or}
use mir.Syntax.{w64}
use mir.Val.{SFits}
use mir.Facts.{to_z-of_z}
use borrow.Author.Rules.{rules}
use Rattle.list_bytes.specs.Entries.{at_places_of}
use Rattle.list_bytes.specs.Inner.Records.{int_at, put_all}
use Rattle.list_bytes.proofs.Puts.{put_place}
use Rattle.list_bytes.proofs.record.put_ints.Goals as goal

pub loop-j-init : goal.loop-j-init
unfolding put_all at_places_of
loop-j-init c = refl

pub loop-j-preserved : goal.loop-j-preserved
loop-j-preserved c =
    let a = c.args in
    let j = c.loop-j.j in
    let f : SFits w64 (get_or a.ints.now (8 * a.i + j) (pos 0)) = search rules in
    let v : c.unsigned.result ≡ int_at a.ints.now a.i j = simp (to_z-of_z f) at c.unsigned.ensures in
    put_place a.out.now (12 * a.i + 4) (12 * a.i + 4 + j) j (int_at a.ints.now a.i) c.loop-j.invariant v c.put_word.ensures refl
